-- By the front of the type that stands there.
use mathlib.Core.Path.{◌≡◌, refl, sym, ◌∙◌}
use Rattle.meaning.specs.Typing.{part_kind}
use Rattle.shape.specs.Kinds.{found_of}
use Rattle.shape.proofs.KindsFound.{scalar_found, vector_found}
use Rattle.std.specs.declared.option.Option.TheVariants.{None}
use Rattle.arg_types.proofs.Fronts.{neither}
use Rattle.arg_types.proofs.component_kind.Goals as goal

pub returns-in-Scalar : goal.returns-in-Scalar
unfolding part_kind
returns-in-Scalar c = λ t e w. scalar_found part_kind w (sym c.in-Scalar.is ∙ c.head_at.ensures t e w) (λ j. refl)

pub returns-in-Vector : goal.returns-in-Vector
unfolding part_kind
returns-in-Vector c = λ t e w. vector_found part_kind w (sym c.in-Vector.is ∙ c.head_at.ensures t e w) (λ j. refl)

pub returns-in_default : goal.returns-in_default
unfolding part_kind found_of
returns-in_default c =
    λ t e w. neither t (c.head_at.ensures t e w) c.in_default.not-Scalar c.in_default.not-Vector
    (λ u. None ≡ found_of (part_kind u)) (λ a b k. refl) (λ n u. refl) (λ i m. refl)
