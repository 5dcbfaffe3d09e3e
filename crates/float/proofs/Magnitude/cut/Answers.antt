-- `float::Magnitude::cut` meets its contract. A shift down cuts, and a shift up is tried against the limit before it is
-- done.
use native.Mathlib.Nat.{div-lt_iff_lt-mul}
use native.Mathlib.Omega.{arith}
use lib.Pow.{pow_pos}
use Rattle.float.proofs.Ranges.{none_left, some_left, far_up, over, under}
use Rattle.float.proofs.Magnitude.cut.Goals as goal

pub returns-then-down-gt63 : goal.returns-then-down-gt63
returns-then-down-gt63 c = none_left _ _ _ _ (omega arith) (omega arith) c.if-down-gt63.true

pub returns-then-e-lt1074 : goal.returns-then-e-lt1074
returns-then-e-lt1074 c = some_left _ _ _ _ (omega arith) c.min.ensures

pub returns-then-up-gt63 : goal.returns-then-up-gt63
returns-then-up-gt63 c = over _ _ _ _ (omega arith) (far_up _ _ _ (omega arith) (omega arith) c.if-up-gt63.true)

pub returns-then-limit-up : goal.returns-then-limit-up
returns-then-limit-up c = over _ _ _ _ (omega arith) ((div-lt_iff_lt-mul (pow_pos _)).0 c.if-limit-up.true)

pub returns : goal.returns
returns c = under _ _ _ _ (omega arith) (omega arith) c.if-limit-up.false
