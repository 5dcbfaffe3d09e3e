-- A type ends in one place only.
use lib.ListN.{length}
use Rattle.ty.proofs.Walks.{ends_at}
use Rattle.ty.proofs.is_whole.Goals as goal

pub returns : goal.returns
returns c = rw c.eq.ensures (ends_at c.args.depth c.args.s.now c.args.at (length c.args.s.now) c.type_end.result c.type_end.ensures)
