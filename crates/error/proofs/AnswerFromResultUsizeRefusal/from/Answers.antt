-- Each case of the answer.
use mathlib.Core.Path.{◌∙◌}
use Rattle.error.proofs.Numbers.{recorded, refused}
use Rattle.error.proofs.AnswerFromResultUsizeRefusal.from.Goals as goal

pub returns-in-Ok : goal.returns-in-Ok
returns-in-Ok c = c.accepted.ensures ∙ recorded _ _ c.in-Ok.is

pub returns-in-Err : goal.returns-in-Err
returns-in-Err c = c.refused.ensures ∙ refused _ _ c.in-Err.is
