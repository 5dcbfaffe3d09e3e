-- By the front of the type that stands there.
use mathlib.Core.Path.{◌≡◌, refl, sym, ap, ◌∙◌}
use Rattle.meaning.specs.Typing.{part_count}
use Rattle.ty.proofs.Heads.{scalar_is, vector_is}
use Rattle.arg_types.proofs.Fronts.{neither}
use Rattle.arg_types.proofs.component_count.Goals as goal

pub returns-in-Scalar : goal.returns-in-Scalar
unfolding part_count
returns-in-Scalar c = λ t e w. ap part_count (sym (scalar_is w (sym c.in-Scalar.is ∙ c.head_at.ensures t e w)).is)

pub returns-in-Vector : goal.returns-in-Vector
unfolding part_count
returns-in-Vector c = λ t e w. ap part_count (sym (vector_is w (sym c.in-Vector.is ∙ c.head_at.ensures t e w)).is)

pub returns-in_default : goal.returns-in_default
unfolding part_count
returns-in_default c =
    λ t e w. neither t (c.head_at.ensures t e w) c.in_default.not-Scalar c.in_default.not-Vector
    (λ u. 0 ≡ part_count u) (λ a b k. refl) (λ n u. refl) (λ i m. refl)
