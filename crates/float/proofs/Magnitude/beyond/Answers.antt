-- `float::Magnitude::beyond` meets its contract. The larger exponent is brought down to the smaller one, and the shift is
-- made on the side where it loses nothing that the test needs.
use native.Mathlib.Omega.{arith}
use Rattle.float.proofs.Ranges.{far_up, beyond_far, beyond_up, beyond_near, beyond_down}
use Rattle.float.proofs.Magnitude.beyond.Goals as goal

pub returns-then-up-gt63 : goal.returns-then-up-gt63
returns-then-up-gt63 c = beyond_far _ _ _ _ c.if-limit-self.true (far_up _ _ _ (omega arith) (omega arith) c.if-up-gt63.true)

pub returns-then-limit-self : goal.returns-then-limit-self
returns-then-limit-self c = beyond_up _ _ _ _ c.if-limit-self.true

pub returns-then-down-gt63 : goal.returns-then-down-gt63
returns-then-down-gt63 c = beyond_near _ _ _ _ (omega arith) (omega arith) (omega arith) c.if-down-gt63.true

pub returns : goal.returns
returns c = beyond_down _ _ _ _ (omega arith) (omega arith)
