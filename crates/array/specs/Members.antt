-- Structs: the member types of the target and the arguments, side by side.
use Rattle.std.specs.Prelude.{◌≡◌, List, ◌∷◌, Bool, true, ℕ, ◌+◌, ◌≤◌, ◌<◌, length}
use Rattle.std.proofs.Math.Option.{none, some}
use Rattle.meaning.specs.Scalars.{some?}
use Rattle.meaning.specs.Trees.{Ty, Tu, Tys, ◌▸◌, Val, Vu, tys_list, vals_of}
use Rattle.meaning.specs.Records.{val_bytes, joined}
use Rattle.meaning.specs.Answers.{ok}
use Rattle.meaning.specs.Convert.{conv_val}
use Rattle.meaning.specs.Build.{memberwise, struct_of}
use Rattle.ty.specs.Stands.{StandAll, Whole}
use Rattle.record.specs.Bytes.{Put}
use Rattle.args.specs.Row.{Row, Given}
use Rattle.error.specs.Told.{Builds}
use Rattle.std.specs.declared.option.Option.{Option}
use Rattle.std.specs.declared.option.Option.TheVariants.{None, Some}
use Rattle.error.specs.Told.{Written}

-- the member types m stand in the target from `at` up to its end, and as many values l in the arguments from i on
pub record Pairs (target : List ℕ) (at : ℕ) (args : List ℕ) (i : ℕ) (m : Tys) (l : List Val) : Type 0 where
  pub types : StandAll 14 target at (length l) m (length target)
  pub row : Row args i l

pub record SomePairs (target : List ℕ) (at : ℕ) (args : List ℕ) (i : ℕ) : Type 0 where
  pub types : Tys
  pub values : List Val
  pub pairs : Pairs target at args i types values

-- at least one
pub record SomePair (target : List ℕ) (at : ℕ) (args : List ℕ) (i : ℕ) : Type 0 where
  pub type : Ty
  pub types : Tys
  pub value : Val
  pub values : List Val
  pub pairs : Pairs target at args i (type ▸ types) (value ∷ values)

-- ---- the first argument and the first member

-- it converts, and the others begin there
pub record MemberEnds (target args : List ℕ) (i : ℕ) (t : Ty) (m : Tys) (v : Val) (l : List Val) (e q : ℕ) : Type 0 where
  pub more : i < e
  pub fits : some? (conv_val t v) ≡ true
  pub rest : Pairs target q args e m l

abbrev pub MemberTold : List ℕ → List ℕ → ℕ → Ty → Tys → Val → List Val → Option (ℕ × ℕ) → Type 0
MemberTold target args i t m v l (Some (e, q)) = MemberEnds target args i t m v l e q
MemberTold target args i t m v l None = conv_val t v ≡ none

abbrev pub MemberIs : List ℕ → ℕ → List ℕ → ℕ → Option (ℕ × ℕ) → Type 0
MemberIs target at args i r = (t : Ty) (m : Tys) (v : Val) (l : List Val) → Pairs target at args i (t ▸ m) (v ∷ l)
    → MemberTold target args i t m v l r

-- ---- all of them

abbrev pub MembersFit : List ℕ → ℕ → List ℕ → ℕ → Bool → Type 0
MembersFit target at args i r = (m : Tys) (l : List Val) → Pairs target at args i m l → r ≡ some? (memberwise (tys_list m) l)

-- they convert, and there is room for what they become
pub record MembersRoom (target : List ℕ) (at : ℕ) (args : List ℕ) (i : ℕ) (out : List ℕ) (to : ℕ) : Type 0 where
  pub types : Tys
  pub values : List Val
  pub intos : List Val
  pub pairs : Pairs target at args i types values
  pub goes : memberwise (tys_list types) values ≡ some intos
  pub room : to + length (joined val_bytes intos) ≤ length out

abbrev pub MembersPut : List ℕ → ℕ → List ℕ → ℕ → List ℕ → ℕ → ℕ → List ℕ → Type 0
MembersPut target at args i out to r out' =
    (m : Tys) (l ws : List Val) → Pairs target at args i m l → memberwise (tys_list m) l ≡ some ws → Put out to (joined val_bytes ws) r out'

-- ---- the struct

-- the target is a struct type
pub record IsStruct (target : List ℕ) : Type 0 where
  pub identity : ℕ
  pub types : Tys
  pub whole : Whole target (Tu identity types)

abbrev pub CountIs : List ℕ → ℕ → Type 0
CountIs target r = (i : ℕ) (m : Tys) → Whole target (Tu i m) → r ≡ length (tys_list m)

-- it is the type (i, m), and the arguments are the values l
pub record Struct (target args : List ℕ) (i : ℕ) (m : Tys) (l : List Val) : Type 0 where
  pub whole : Whole target (Tu i m)
  pub row : Row args 0 l

-- the struct of its arguments, as many as are said
abbrev pub StructTold : List ℕ → List ℕ → ℕ → List ℕ → Written → List ℕ → Type 0
StructTold target args count out r out' = (i : ℕ) (m : Tys) (l : List Val) → Whole target (Tu i m) → Given args count l
    → Builds (struct_of i m l) out r out'

-- the values are as many as the members and convert to them, and are ws then
pub record Made (target args : List ℕ) (i : ℕ) (m : Tys) (l ws : List Val) : Type 0 where
  pub struct : Struct target args i m l
  pub count : length l ≡ length (tys_list m)
  pub goes : memberwise (tys_list m) l ≡ some ws

pub record SomeMade (target args : List ℕ) : Type 0 where
  pub identity : ℕ
  pub types : Tys
  pub values : List Val
  pub intos : List Val
  pub made : Made target args identity types values intos

abbrev pub MadeTold : List ℕ → List ℕ → List ℕ → Written → List ℕ → Type 0
MadeTold target args out r out' = (i : ℕ) (m : Tys) (l ws : List Val) → Made target args i m l ws
    → Builds (ok (Vu i (vals_of ws))) out r out'
