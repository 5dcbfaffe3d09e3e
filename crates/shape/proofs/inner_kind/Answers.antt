-- By the front of the type that stands there.
use mathlib.Core.Path.{refl, sym, ◌∙◌}
use Rattle.meaning.specs.Build.{lit_kind}
use Rattle.meaning.specs.Trees.{inner}
use Rattle.shape.proofs.KindsFound.{array_inner, elem_stands, matrix_found, scalar_found, struct_nothing, vector_found}
use Rattle.shape.proofs.inner_kind.Goals as goal

pub scalar_kind-requires : goal.scalar_kind-requires
unfolding lit_kind inner
scalar_kind-requires c =
    elem_stands c.requires.stands
    (sym c.in-Array.is ∙ c.head_at.ensures _ _ c.requires.stands)

pub returns-in-Scalar : goal.returns-in-Scalar
unfolding lit_kind inner
returns-in-Scalar c =
    λ t e w. scalar_found (λ u. lit_kind (inner u)) w (sym c.in-Scalar.is ∙ c.head_at.ensures t e w)
    (λ j. refl)

pub returns-in-Vector : goal.returns-in-Vector
unfolding lit_kind inner
returns-in-Vector c =
    λ t e w. vector_found (λ u. lit_kind (inner u)) w (sym c.in-Vector.is ∙ c.head_at.ensures t e w)
    (λ j. refl)

pub returns-in-Matrix : goal.returns-in-Matrix
unfolding lit_kind inner
returns-in-Matrix c =
    λ t e w. matrix_found (λ u. lit_kind (inner u)) w (sym c.in-Matrix.is ∙ c.head_at.ensures t e w)
    (λ j. refl)

pub returns-in-Array : goal.returns-in-Array
unfolding lit_kind inner
returns-in-Array c =
    λ t e w. array_inner w (sym c.in-Array.is ∙ c.head_at.ensures t e w)
    c.scalar_kind.ensures

pub returns-in-Struct : goal.returns-in-Struct
unfolding lit_kind inner
returns-in-Struct c =
    λ t e w. struct_nothing (λ u. lit_kind (inner u)) w (sym c.in-Struct.is ∙ c.head_at.ensures t e w)
    (λ l. refl)
