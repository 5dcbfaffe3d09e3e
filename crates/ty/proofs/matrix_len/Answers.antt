-- The product is at most 255 times the longest column.
use Prim.Native.Nat.{◌+◌, ◌*◌}
use native.Mathlib.Omega.{arith}
use Rattle.meaning.specs.Trees.{Tv, val_len}
use Rattle.record.specs.Literals.{most_lit}
use Rattle.ty.proofs.Lens.{sized_times}
use Rattle.ty.proofs.matrix_len.Goals as goal

pub returns : goal.returns
unfolding val_len
returns c =
    sized_times 4 c.args.size.columns c.from.result c.args.kind (3 + 255 * most_lit) c.vector_len.result
    (λ j. val_len (Tv c.args.size.rows j)) c.from.ensures (omega arith) c.vector_len.ensures
