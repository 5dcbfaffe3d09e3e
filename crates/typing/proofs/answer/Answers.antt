-- What the check answered.
use mathlib.Core.Path.{subst}
use Rattle.meaning.specs.Trees.{Of}
use Rattle.meaning.specs.Typing.{typed}
use Rattle.error.proofs.Refusals.{passed_on}
use Rattle.error.proofs.Told.{told_as}
use Rattle.check_type.specs.Rules.{Rules}
use Rattle.typing.proofs.TypingAnswers.{answer_no, answer_type}
use Rattle.typing.proofs.Hands.{hand_whole}
use Rattle.typing.proofs.answer.Goals as goal

pub returns-in_err-check : goal.returns-in_err-check
returns-in_err-check c =
    λ t l w g. rw (passed_on c.from_residual.result c.from_residual.ensures.1)
    (answer_no _ _ (subst (Rules (typed (Of t) l) t) c.in_err-check.was (c.check.ensures t l w g)))

pub returns : goal.returns
returns c =
    λ t l w g. answer_type (typed (Of t) l) _
    (subst (Rules (typed (Of t) l) t) c.in_ok-check.was (c.check.ensures t l w g))
    (told_as (hand_whole _ w.whole) c.hand.ensures)
