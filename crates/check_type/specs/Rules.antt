-- What the rules of typing for a type record are asked, and what they answer.
use Rattle.std.specs.Prelude.{◌≡◌, List, [], ◌∷◌, ℕ, T, length}
use Rattle.meaning.specs.Kinds.{Kind, kind_no}
use Rattle.meaning.specs.Trees.{Ty, Ts, Tv, Tm, Ta, Tu, Tys, Of, tys_list}
use Rattle.meaning.specs.Records.{good_ty}
use Rattle.meaning.specs.Answers.{Result, ok, or_no, ◌>>=◌, ◌>>◌}
use Rattle.meaning.specs.Build.{mat_shape, to_inner}
use Rattle.meaning.specs.Typing.{typed, type_vec_one, type_vec, type_mat, type_mat_one}
use Rattle.ty.specs.Stands.{Stands, Whole}
use Rattle.shape.specs.TypeRows.{TypeRow}
use Rattle.arg_types.specs.Given.{Given}
use Rattle.error.specs.Refusals.{refusal, Refusing}
use Rattle.std.specs.declared.result.Result.TheVariants.{Ok, Err}

-- what a check answers: that it passes, or a refusal
abbrev pub Checked : Type 0
Checked = Refusing (Unit {0})

-- the rule x gives a, or the refusal that is answered
abbrev pub Rules : {A : Type 0} → Result A → A → Checked → Type 0
Rules x a (Ok u) = x ≡ ok a
Rules x a (Err y) = x ≡ refusal y

-- ---- a type record as its target: what is accepted is the target itself

abbrev pub OfRules : Ty → List Ty → Checked → Type 0
OfRules t l r = Rules (typed (Of t) l) t r

abbrev pub ScalarChecks : ℕ → List ℕ → ℕ → Checked → Type 0
ScalarChecks k args n r = (j : Kind) (l : List Ty) → k ≡ kind_no j → Given args n l → OfRules (Ts j) l r

abbrev pub VectorOneChecks : ℕ → ℕ → List ℕ → Checked → Type 0
VectorOneChecks m k args r = (j : Kind) (a : Ty) → k ≡ kind_no j → Whole args a → Rules (type_vec_one m j a) (Tv m j) r

abbrev pub VectorPartsCheck : ℕ → ℕ → List ℕ → ℕ → Checked → Type 0
VectorPartsCheck m k args n r = (j : Kind) (l : List Ty) → k ≡ kind_no j → Given args n l → Rules (type_vec m j l) (Tv m j) r

abbrev pub VectorChecks : ℕ → ℕ → List ℕ → ℕ → Checked → Type 0
VectorChecks m k args n r = (j : Kind) (l : List Ty) → k ≡ kind_no j → Given args n l → OfRules (Tv m j) l r

abbrev pub ArrayChecks : List ℕ → List ℕ → Checked → Type 0
ArrayChecks target args r = (m : ℕ) (t : Ty) (l : List Ty) → Stands 15 target 4 t (length target) → TypeRow args 0 l → OfRules (Ta m t) l r

-- the records of a struct's members stand after the six bytes at the front of its own, up to the end
pub record StructIs (target : List ℕ) (n : ℕ) (m : Tys) : Type 0 where
  pub members : TypeRow target 6 (tys_list m)
  pub count : n ≡ length (tys_list m)

pub record SomeStruct (target : List ℕ) (n : ℕ) : Type 0 where
  pub members : Tys
  pub is : StructIs target n members

abbrev pub StructChecks : List ℕ → ℕ → List ℕ → ℕ → Checked → Type 0
StructChecks target m args n r = (i : ℕ) (ms : Tys) (l : List Ty) → StructIs target m ms → Given args n l → OfRules (Tu i ms) l r

-- ---- a matrix by its arguments

-- from the common type t on: "7 if that doesn't convert", then the shape
unfoldable pub type_down : ℕ → ℕ → Kind → ℕ → Ty → Result Ty
type_down c r k n a = or_no 7 (to_inner k a) >>= λ t. mat_shape c r t n >> ok (Tm c r k)

abbrev pub DownChecks : ℕ → ℕ → ℕ → List ℕ → ℕ → Checked → Type 0
DownChecks c r k ty n x = (j : Kind) (t : Ty) (e : ℕ) → k ≡ kind_no j → Stands 15 ty 0 t e → Rules (type_down c r j n t) (Tm c r j) x

abbrev pub MatrixPartsCheck : ℕ → ℕ → ℕ → List ℕ → ℕ → Checked → Type 0
MatrixPartsCheck c r k args n x = (j : Kind) (l : List Ty) → k ≡ kind_no j → Given args n l → Rules (type_mat c r j l) (Tm c r j) x

abbrev pub MatrixOneChecks : ℕ → ℕ → ℕ → List ℕ → Checked → Type 0
MatrixOneChecks c r k args x = (j : Kind) (a : Ty) → k ≡ kind_no j → Given args 1 (a ∷ []) → Rules (type_mat_one c r j a) (Tm c r j) x

abbrev pub MatrixChecks : ℕ → ℕ → ℕ → List ℕ → ℕ → Checked → Type 0
MatrixChecks c r k args n x = (j : Kind) (l : List Ty) → k ≡ kind_no j → Given args n l → OfRules (Tm c r j) l x

-- ---- every type record

-- all of the target is the record of the well-formed type t
pub record WholeType (target : List ℕ) (t : Ty) : Type 0 where
  pub whole : Whole target t
  pub good : T (good_ty t)

pub record GoodType (target : List ℕ) : Type 0 where
  pub type : Ty
  pub is : WholeType target type

abbrev pub TypeChecks : List ℕ → List ℕ → ℕ → Checked → Type 0
TypeChecks target args n r = (t : Ty) (l : List Ty) → WholeType target t → Given args n l → OfRules t l r
