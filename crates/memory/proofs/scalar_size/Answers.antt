-- The size is one of the widths that numbers are written in.
use Rattle.memory.proofs.Sizes.{size_is, size_small}
use Rattle.memory.proofs.scalar_size.Goals as goal

pub returns : goal.returns
returns c = (c.memory_size.ensures, rw c.memory_size.ensures (size_is c.args.k), rw c.memory_size.ensures (size_small c.args.k))
