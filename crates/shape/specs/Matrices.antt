-- The shape that the arguments of a matrix have: "rows (14), columns or c × r scalars (8), 13".
use Rattle.std.specs.Prelude.{◌≡◌, List, ℕ}
use Rattle.meaning.specs.Trees.{Ty, Ts, Tv, Tm, Ta, Tu}
use Rattle.std.specs.declared.result.Result.TheVariants.{Ok, Err}
use Rattle.meaning.specs.Answers.{Result, ok}
use Rattle.meaning.specs.Build.{mat_shape}
use Rattle.ty.specs.Stands.{Stands}
use Rattle.shape.specs.declared.Shape.{Shape}
use Rattle.shape.specs.declared.Shape.TheVariants.{Scalars, Columns}
use Rattle.error.specs.Refusals.{refusal, Refusing}

-- a type whose shape is right is a scalar's or a column's
unfoldable pub way_of : Ty → Shape
way_of (Ts k) = Scalars
way_of (Tv n k) = Columns
way_of (Tm c r k) = Columns
way_of (Ta n t) = Columns
way_of (Tu i m) = Columns

-- what the rule says of the type t is y: the shape if it is right, or the refusal
abbrev pub ShapeOf : Ty → Result (Unit {0}) → Refusing Shape → Type 0
ShapeOf t y (Ok s) = (y ≡ ok tt) × (s ≡ way_of t)
ShapeOf t y (Err x) = y ≡ refusal x

abbrev pub ShapeIs : ℕ → ℕ → List ℕ → ℕ → Refusing Shape → Type 0
ShapeIs c r ty count x = (t : Ty) (e : ℕ) → Stands 15 ty 0 t e → ShapeOf t (mat_shape c r t count) x
