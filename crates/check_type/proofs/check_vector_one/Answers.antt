-- By the front of the one type.
use mathlib.Core.Path.{◌≡◌, refl, sym, ◌∙◌}
use Rattle.meaning.specs.Answers.{no}
use Rattle.meaning.specs.Typing.{type_vec_one}
use Rattle.arg_types.proofs.Fronts.{neither}
use Rattle.check_type.proofs.Checks.{one_converts, one_not, one_same, one_other}
use Rattle.check_type.proofs.check_vector_one.Goals as goal

pub returns-then-kind_converts : goal.returns-then-kind_converts
returns-then-kind_converts c =
    λ j a e w. one_converts w _ j (sym c.in-Scalar.is
    ∙ c.head_at.ensures a _ w) e c.kind_converts.ensures c.if-kind_converts.true

pub returns-then-p-m : goal.returns-then-p-m
returns-then-p-m c =
    λ j a e w. one_same w _ j (sym c.in-Vector.is ∙ c.head_at.ensures a _ w)
    c.if-p-m.true

pub returns-else-kind_converts : goal.returns-else-kind_converts
returns-else-kind_converts c =
    λ j a e w. one_not w _ j (sym c.in-Scalar.is
    ∙ c.head_at.ensures a _ w) e c.kind_converts.ensures c.if-kind_converts.false

pub returns-else-p-m : goal.returns-else-p-m
returns-else-p-m c =
    λ j a e w. one_other w _ j (sym c.in-Vector.is ∙ c.head_at.ensures a _ w)
    c.if-p-m.false

pub returns-in_default : goal.returns-in_default
unfolding type_vec_one
returns-in_default c =
    λ j a e w. neither a (c.head_at.ensures a _ w) c.in_default.not-Scalar c.in_default.not-Vector
    (λ u. type_vec_one c.args.m j u ≡ no 7) (λ p q k. refl) (λ n u. refl) (λ i m. refl)
