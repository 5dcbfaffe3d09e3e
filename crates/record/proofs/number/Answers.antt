-- No byte, and one.
use mathlib.Core.Path.{◌≡◌}
use native.Mathlib.Omega.{arith}
use Rattle.record.specs.Bytes.{number_at}
use Rattle.record.proofs.number.Goals as goal

pub returns-then-w-gt0 : goal.returns-then-w-gt0
unfolding number_at
returns-then-w-gt0 c = let e : c.args.w ≡ 1 = omega arith in rw e (omega arith)

pub returns : goal.returns
unfolding number_at
returns c = let e : c.args.w ≡ 0 = omega arith in rw e
