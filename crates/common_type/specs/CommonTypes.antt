-- The common type of a list: "one of its own types to which all others convert; none exists otherwise".
use Rattle.std.specs.Prelude.{◌≡◌, List, Bool, ℕ, ◌≤◌, length}
use Rattle.std.proofs.Math.Option.{Option as Maybe, none, some}
use Rattle.meaning.specs.Kinds.{Kind}
use Rattle.meaning.specs.Trees.{Ty, Ts, Val}
use Rattle.meaning.specs.Convert.{meet, common_from}
use Rattle.ty.specs.Stands.{Stands, Ends, Whole}
use Rattle.shape.specs.TypeRows.{TypeRow, SomeTypeRow}
use Rattle.args.specs.Row.{Row, SomeRow}
use Rattle.common_type.specs.Brought.{part_types}
use Rattle.std.specs.declared.option.Option.{Option}
use Rattle.std.specs.declared.option.Option.TheVariants.{None, Some}

-- the record of the common type o stands at the front of ty, up to q
pub record CommonAt (o : Maybe Ty) (q : ℕ) (ty : List ℕ) : Type 0 where
  pub type : Ty
  pub is : o ≡ some type
  pub stands : Stands 15 ty 0 type q

abbrev pub Commons : Maybe Ty → Option ℕ → List ℕ → Type 0
Commons o (Some q) ty = CommonAt o q ty
Commons o None ty = o ≡ none

-- ty is the record of the common type o
pub record CommonIs (o : Maybe Ty) (ty : List ℕ) : Type 0 where
  pub type : Ty
  pub is : o ≡ some type
  pub whole : Whole ty type

-- the type so far stands at the front of ty, up to q, and ty has room for the next
pub record Meeting (ty : List ℕ) (q : ℕ) (next : List ℕ) : Type 0 where
  pub so_far : Ends 15 ty 0 q
  pub room : length next ≤ length ty

abbrev pub Meets : List ℕ → ℕ → List ℕ → Option ℕ → List ℕ → Type 0
Meets ty q next r ty' = (t u : Ty) → Stands 15 ty 0 t q → Whole next u → Commons (meet (some t) u) r ty'

-- of the type so far and the arguments from i on
pub record Going (args : List ℕ) (i : ℕ) (ty : List ℕ) (q : ℕ) : Type 0 where
  pub rest : SomeRow args i
  pub so_far : Ends 15 ty 0 q
  pub room : length ty ≡ 4096

abbrev pub Goes : Bool → List ℕ → ℕ → List ℕ → ℕ → Option ℕ → List ℕ → Type 0
Goes flat args i ty q r ty' = (l : List Val) (t : Ty) → Row args i l → Stands 15 ty 0 t q
    → Commons (common_from (some t) (part_types flat l)) r ty'

-- the type so far is a scalar
pub record GoingScalar (args : List ℕ) (i : ℕ) (ty : List ℕ) : Type 0 where
  pub rest : SomeRow args i
  pub kind : Kind
  pub so_far : Stands 15 ty 0 (Ts kind) 3
  pub room : length ty ≡ 4096

-- of the type so far and the types from i on
pub record GoingTypes (types : List ℕ) (i : ℕ) (ty : List ℕ) (q : ℕ) : Type 0 where
  pub rest : SomeTypeRow types i
  pub so_far : Ends 15 ty 0 q
  pub room : length ty ≡ 4096

abbrev pub GoesTypes : List ℕ → ℕ → List ℕ → ℕ → Option ℕ → List ℕ → Type 0
GoesTypes types i ty q r ty' = (l : List Ty) (t : Ty) → TypeRow types i l → Stands 15 ty 0 t q → Commons (common_from (some t) l) r ty'
