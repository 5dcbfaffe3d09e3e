-- `float::low_bits` meets its contract. A mask of k ones keeps the k low bits.
use Rattle.std.proofs.lemmas.Nat.{one_shl}
use lib.Bits.{and_mask}
use Rattle.float.proofs.low_bits.Goals as goal

pub returns : goal.returns
returns c = rw (one_shl c.args.k 64 c.requires) (and_mask c.args.x c.args.k)
