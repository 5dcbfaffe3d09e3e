-- The length is the one that the kind says.
use mathlib.Core.Path.{ap}
use Prim.Native.Nat.{ℕ}
use lib.Dec.{leb}
use Rattle.columns.proofs.room_for.Goals as goal

pub returns : goal.returns
returns c = λ j n. ap (λ (l : ℕ). leb l c.args.room) (c.matrix_len.ensures.is j n)
