-- What the rule named.
use mathlib.Core.Path.{subst}
use Rattle.meaning.specs.Trees.{Tm, Qm}
use Rattle.meaning.specs.Typing.{typed}
use Rattle.error.proofs.Refusals.{passed_on}
use Rattle.infer_type.specs.Shapes.{Names}
use Rattle.typing.proofs.TypingAnswers.{answer_no}
use Rattle.typing.proofs.answer_matrix.Goals as goal

pub returns-in_err-k : goal.returns-in_err-k
returns-in_err-k c =
    λ l g. rw (passed_on c.from_residual.result c.from_residual.ensures.1)
    (answer_no _ _
    (subst (Names (Tm c.args.size.columns c.args.size.rows) (typed (Qm c.args.size.columns c.args.size.rows) l)) c.in_err-k.was (c.name_matrix.ensures l g)))
