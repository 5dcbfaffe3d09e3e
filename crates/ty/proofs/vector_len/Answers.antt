-- The product is at most 255 times the longest literal.
use native.Mathlib.Omega.{arith}
use Rattle.meaning.specs.Trees.{val_len, lit_len}
use Rattle.record.specs.Literals.{most_lit}
use Rattle.ty.proofs.Lens.{sized_times}
use Rattle.ty.proofs.vector_len.Goals as goal

pub returns : goal.returns
unfolding val_len
returns c =
    sized_times 3 c.args.n c.from.result c.args.kind most_lit c.literal_len.result lit_len c.from.ensures (omega arith)
    c.literal_len.ensures
