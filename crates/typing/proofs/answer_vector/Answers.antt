-- What the rule named.
use mathlib.Core.Path.{subst}
use Rattle.meaning.specs.Trees.{Tv, Qv}
use Rattle.meaning.specs.Typing.{typed}
use Rattle.error.proofs.Refusals.{passed_on}
use Rattle.infer_type.specs.Shapes.{Names}
use Rattle.typing.proofs.TypingAnswers.{answer_no}
use Rattle.typing.proofs.answer_vector.Goals as goal

pub returns-in_err-k : goal.returns-in_err-k
returns-in_err-k c =
    λ l g. rw (passed_on c.from_residual.result c.from_residual.ensures.1)
    (answer_no _ _ (subst (Names (Tv c.args.n) (typed (Qv c.args.n) l)) c.in_err-k.was (c.name_vector.ensures l g)))
