-- The number that was measured, or one past 64 bits.
use mathlib.Core.Path.{ap}
use Prim.Native.Nat.{ℕ}
use native.Mathlib.Omega.{arith}
use lib.Dec.{leb}
use Rattle.array.proofs.Lengths.{is_long, past_room}
use Rattle.array.proofs.takes.Goals as goal

pub returns : goal.returns
returns c = λ e n h. ap (λ (m : ℕ). leb m c.args.room) (is_long e n h c.in-Some.is)

pub returns-in_default : goal.returns-in_default
returns-in_default c = λ e n h. past_room e n h (λ m. m) c.args.room c.in_default.is (omega arith) (omega arith)
