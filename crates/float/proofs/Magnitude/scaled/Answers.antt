-- `float::Magnitude::scaled` meets its contract. A shift up is exact, and a shift down rounds.
use mathlib.Core.Path.{sym, ◌∙◌}
use native.Mathlib.Omega.{arith}
use Rattle.laws.proofs.Digits.{closest_shr}
use Rattle.float.proofs.Rounds.{shifted_up}
use Rattle.float.proofs.Magnitude.scaled.Goals as goal

pub returns-then-d-self : goal.returns-then-d-self
returns-then-d-self c = shifted_up _ _ c.args.d c.if-d-self.true (c.requires c.if-d-self.true).1

pub returns-else-d-self : goal.returns-else-d-self
returns-else-d-self c = c.round_shift.ensures ∙ sym (closest_shr _ _ c.args.d (omega arith))
