-- What the rules of untemplated shapes are asked, and what they answer.
use Rattle.std.specs.Prelude.{◌≡◌, List, [], ◌∷◌, ℕ}
use Rattle.meaning.specs.Kinds.{Kind, kind_no}
use Rattle.meaning.specs.Trees.{Ty, Tv, Tm, Qv, Qm, inner}
use Rattle.meaning.specs.Answers.{Result, ok, or_no, ◌>>=◌, ◌>>◌}
use Rattle.meaning.specs.Convert.{float_kind}
use Rattle.meaning.specs.Build.{mat_shape}
use Rattle.meaning.specs.Typing.{typed, type_qv_one, type_qv, type_qm, type_qm_one}
use Rattle.ty.specs.Stands.{Stands, Whole}
use Rattle.arg_types.specs.Given.{Given}
use Rattle.error.specs.Refusals.{refusal, Refusing}
use Rattle.std.specs.declared.result.Result.TheVariants.{Ok, Err}

-- what is answered: the number of the kind of the type that is named, or a refusal
abbrev pub Named : Type 0
Named = Refusing ℕ

-- the rule x names the type that `make` gives for the kind whose number is answered, or the refusal
abbrev pub Names : (Kind → Ty) → Result Ty → Named → Type 0
Names make x (Ok k) = (j : Kind) × (k ≡ kind_no j) × (x ≡ ok (make j))
Names make x (Err y) = x ≡ refusal y

-- ---- `Qv`

abbrev pub VectorOneNames : ℕ → List ℕ → Named → Type 0
VectorOneNames n args r = (a : Ty) → Whole args a → Names (Tv n) (type_qv_one n a) r

abbrev pub VectorPartsName : ℕ → List ℕ → ℕ → Named → Type 0
VectorPartsName n args count r = (l : List Ty) → Given args count l → Names (Tv n) (type_qv n l) r

abbrev pub VectorNames : ℕ → List ℕ → ℕ → Named → Type 0
VectorNames n args count r = (l : List Ty) → Given args count l → Names (Tv n) (typed (Qv n) l) r

-- ---- `Qm`

-- from the common type t on: floats (13), then the shape
unfoldable pub type_float : ℕ → ℕ → ℕ → Ty → Result Ty
type_float c r n t = or_no 13 (float_kind (inner t)) >>= λ k. mat_shape c r t n >> ok (Tm c r k)

abbrev pub FloatNames : ℕ → ℕ → List ℕ → ℕ → Named → Type 0
FloatNames c r ty n x = (t : Ty) (e : ℕ) → Stands 15 ty 0 t e → Names (Tm c r) (type_float c r n t) x

abbrev pub MatrixPartsName : ℕ → ℕ → List ℕ → ℕ → Named → Type 0
MatrixPartsName c r args n x = (l : List Ty) → Given args n l → Names (Tm c r) (type_qm c r l) x

abbrev pub MatrixOneNames : ℕ → ℕ → List ℕ → Named → Type 0
MatrixOneNames c r args x = (a : Ty) → Given args 1 (a ∷ []) → Names (Tm c r) (type_qm_one c r a) x

abbrev pub MatrixNames : ℕ → ℕ → List ℕ → ℕ → Named → Type 0
MatrixNames c r args n x = (l : List Ty) → Given args n l → Names (Tm c r) (typed (Qm c r) l) x
