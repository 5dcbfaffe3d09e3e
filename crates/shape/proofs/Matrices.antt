-- What the rule says of a matrix's arguments, by the front of their type.
use mathlib.Core.Path.{◌≡◌, refl, sym, ap, ◌∙◌, subst}
use mathlib.Core.List.{List}
use Prim.Native.Nat.{ℕ, ◌*◌}
use borrow.Author.Tests.{eq-eqb, ne_eqb}
use Rattle.meaning.specs.Trees.{Ty}
use Rattle.meaning.specs.Answers.{Result, ok, no, miscount, ◌>>◌}
use Rattle.meaning.specs.Build.{mat_shape}
use Rattle.ty.specs.Stands.{Stands}
use Rattle.ty.specs.Heads.{head_of}
use Rattle.ty.specs.declared.Head.TheVariants.{Scalar, Vector, Matrix, Array, Struct}
use Rattle.ty.proofs.Heads.{scalar_is, vector_is, matrix_is, array_is, struct_is}
use Rattle.error.proofs.Refusals.{no_after}
use Rattle.shape.specs.declared.Shape.{Shape}
use Rattle.shape.specs.declared.Shape.TheVariants as shape
use Rattle.std.specs.declared.result.Result.TheVariants.{Ok, Err}
use Rattle.error.specs.declared.Refusal.{Refusal}
use Rattle.error.specs.Refusals.{refusal, Refusing}
use Rattle.shape.specs.Matrices.{way_of, ShapeOf}

-- ---- by the front of the type

module _ {ty : List ℕ} {t : Ty} {e : ℕ} (w : Stands 15 ty 0 t e) (c r n : ℕ) where
  pub scalars_few : {k m : ℕ} → Scalar k ≡ head_of t → m ≡ c * r → (n ≡ m → ⊥) → mat_shape c r t n ≡ miscount m n
  unfolding mat_shape
  scalars_few h q f = let x = scalar_is w h in rw (q, x.is, ne_eqb n (c * r) (λ z. f (z ∙ sym q)))

  pub scalars_right : {k m : ℕ} → Scalar k ≡ head_of t → m ≡ c * r → n ≡ m → (mat_shape c r t n ≡ ok tt) × (shape.Scalars ≡ way_of t)
  unfolding way_of mat_shape
  scalars_right h q f = let x = scalar_is w h in (rw (x.is, eq-eqb n (c * r) (f ∙ q)), rw x.is refl)

  pub column_short : {m k : ℕ} → Vector m k ≡ head_of t → (m ≡ r → ⊥) → mat_shape c r t n ≡ no 14
  unfolding mat_shape
  column_short {m} h f = let x = vector_is w h in rw (x.is, ne_eqb m r f)

  pub columns_few : {m k v : ℕ} → Vector m k ≡ head_of t → m ≡ r → v ≡ c → (n ≡ v → ⊥) → mat_shape c r t n ≡ miscount v n
  unfolding mat_shape
  columns_few {m} h g q f = let x = vector_is w h in rw (q, x.is, eq-eqb m r g, ne_eqb n c (λ z. f (z ∙ sym q)))

  pub columns_right : {m k v : ℕ} → Vector m k ≡ head_of t → m ≡ r → v ≡ c → n ≡ v → (mat_shape c r t n ≡ ok tt) × (shape.Columns ≡ way_of t)
  unfolding way_of mat_shape
  columns_right {m} h g q f = let x = vector_is w h in (rw (x.is, eq-eqb m r g, eq-eqb n c (f ∙ q)), rw x.is refl)

  pub matrix_no : {a b k : ℕ} → Matrix a b k ≡ head_of t → mat_shape c r t n ≡ no 13
  unfolding mat_shape
  matrix_no h = rw (matrix_is w h).is

  pub array_no : {m : ℕ} → Array m ≡ head_of t → mat_shape c r t n ≡ no 13
  unfolding mat_shape
  array_no h = rw (array_is w h).is

  pub struct_no : {i m : ℕ} → Struct i m ≡ head_of t → mat_shape c r t n ≡ no 13
  unfolding mat_shape
  struct_no h = rw (struct_is w h).is

-- ---- what an answer says of the rule

module _ (t : Ty) (y : Result (Unit {0})) {r : Refusing Shape} where
  pub shape_right : {s x : Shape} → r ≡ Ok s → s ≡ x → ShapeOf t y r → (y ≡ ok tt) × (x ≡ way_of t)
  shape_right e f h = let w = subst (ShapeOf t y) e h in (w.0, sym f ∙ w.1)

  pub shape_refused : {x : Refusal} → r ≡ Err x → ShapeOf t y r → y ≡ refusal x
  shape_refused e h = subst (ShapeOf t y) e h

-- ---- a refusal of the shape stays, whatever was to follow

pub refused_then : {A B : Type 0} {y : Result A} (x : Refusal) (b : Result B) → y ≡ refusal x → (y >> b) ≡ refusal x
refused_then {A} x b e = ap (λ (z : Result A). z >> b) e ∙ no_after A x b
