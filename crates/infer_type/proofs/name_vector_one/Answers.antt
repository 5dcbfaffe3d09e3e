-- By the front of the one type.
use mathlib.Core.Path.{◌≡◌, refl, sym, ◌∙◌}
use Rattle.meaning.specs.Answers.{no}
use Rattle.meaning.specs.Typing.{type_qv_one}
use Rattle.arg_types.proofs.Fronts.{neither}
use Rattle.infer_type.proofs.Shapes.{one_scalar, one_vector, one_other}
use Rattle.infer_type.proofs.name_vector_one.Goals as goal

pub returns-then-m-n : goal.returns-then-m-n
returns-then-m-n c =
    λ a w. one_vector w _ (sym c.in-Vector.is ∙ c.head_at.ensures a _ w)
    c.if-m-n.true

pub returns-in-Scalar : goal.returns-in-Scalar
returns-in-Scalar c =
    λ a w. one_scalar w c.args.n
    (sym c.in-Scalar.is ∙ c.head_at.ensures a _ w)

pub returns-else-m-n : goal.returns-else-m-n
returns-else-m-n c =
    λ a w. one_other w _ (sym c.in-Vector.is ∙ c.head_at.ensures a _ w)
    c.if-m-n.false

pub returns-in_default : goal.returns-in_default
unfolding type_qv_one
returns-in_default c =
    λ a w. neither a (c.head_at.ensures a _ w) c.in_default.not-Scalar c.in_default.not-Vector
    (λ u. type_qv_one c.args.n u ≡ no 12) (λ p q k. refl) (λ n u. refl) (λ i m. refl)
