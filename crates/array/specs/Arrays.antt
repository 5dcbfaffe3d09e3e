-- Arrays: the arguments as elements, and what is answered for each target.
use Rattle.std.specs.Prelude.{◌≡◌, List, ℕ, ◌≤◌, length}
use Rattle.std.proofs.Math.Option.{some}
use Rattle.meaning.specs.Trees.{Ty, Ta, Val, Va, vals_of}
use Rattle.meaning.specs.Answers.{ok, all_some}
use Rattle.meaning.specs.Convert.{conv_val}
use Rattle.meaning.specs.Build.{array_of, runtime_of, qa_of}
use Rattle.ty.specs.Stands.{Stands, Whole}
use Rattle.args.specs.Row.{Given}
use Rattle.error.specs.Told.{Builds}
use Rattle.error.specs.Told.{Written}

-- ---- elements

-- they convert to the type t, whose record stands at `at`, and are ws then
pub record Elements (args : List ℕ) (count d : ℕ) (ty : List ℕ) (at : ℕ) (t : Ty) (e : ℕ) (l ws : List Val) : Type 0 where
  pub given : Given args count l
  pub least : 1 ≤ count
  pub stands : Stands d ty at t e
  pub goes : all_some (conv_val t) l ≡ some ws

pub record SomeElements (args : List ℕ) (count d : ℕ) (ty : List ℕ) (at : ℕ) : Type 0 where
  pub type : Ty
  pub end : ℕ
  pub values : List Val
  pub intos : List Val
  pub elements : Elements args count d ty at type end values intos

abbrev pub ElementsTold : List ℕ → ℕ → ℕ → List ℕ → ℕ → List ℕ → Written → List ℕ → Type 0
ElementsTold args count d ty at out r out' =
    (t : Ty) (e : ℕ) (l ws : List Val) → Elements args count d ty at t e l ws → Builds (ok (Va (vals_of ws))) out r out'

-- ---- a counted array

-- the target is its type, and there is an argument at least
pub record SomeArray (target : List ℕ) (count : ℕ) : Type 0 where
  pub number : ℕ
  pub type : Ty
  pub whole : Whole target (Ta number type)
  pub least : 1 ≤ count

abbrev pub ArrayTold : List ℕ → List ℕ → ℕ → List ℕ → Written → List ℕ → Type 0
ArrayTold target args count out r out' =
    (n : ℕ) (t : Ty) (l : List Val) → Whole target (Ta n t) → Given args count l → Builds (array_of n t l) out r out'

-- ---- a runtime-sized array: a `Tr` record, whose element type stands after the mark

pub record SomeRuntime (target : List ℕ) (count : ℕ) : Type 0 where
  pub type : Ty
  pub whole : Stands 14 target 2 type (length target)
  pub least : 1 ≤ count

abbrev pub RuntimeTold : List ℕ → List ℕ → ℕ → List ℕ → Written → List ℕ → Type 0
RuntimeTold target args count out r out' = (t : Ty) (l : List Val) → Stands 14 target 2 t (length target) → Given args count l
    → Builds (runtime_of t l) out r out'

-- ---- without a type

abbrev pub QaTold : List ℕ → ℕ → List ℕ → Written → List ℕ → Type 0
QaTold args count out r out' = (l : List Val) → Given args count l → Builds (qa_of l) out r out'
