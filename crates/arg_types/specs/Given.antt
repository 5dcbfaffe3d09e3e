-- The arguments of typing, which are types in a row: how many, and whether they convert.
use Rattle.std.specs.Prelude.{◌≡◌, List, Bool, ℕ, length}
use Rattle.meaning.specs.Trees.{Ty}
use Rattle.meaning.specs.Records.{every}
use Rattle.meaning.specs.Convert.{converts}
use Rattle.meaning.specs.Typing.{memberwise_ty}
use Rattle.ty.specs.Stands.{Stands}
use Rattle.shape.specs.TypeRows.{TypeRow}

-- the arguments are the types l, as many as n
pub record Given (args : List ℕ) (n : ℕ) (l : List Ty) : Type 0 where
  pub row : TypeRow args 0 l
  pub count : n ≡ length l

pub record SomeGiven (args : List ℕ) (n : ℕ) : Type 0 where
  pub types : List Ty
  pub given : Given args n types

-- ---- conversion

abbrev pub ConvertsAt : List ℕ → ℕ → ℕ → List ℕ → ℕ → ℕ → Bool → Type 0
ConvertsAt a i e b j f r = (t u : Ty) → Stands 15 a i t e → Stands 15 b j u f → r ≡ converts t u

-- each to one type
abbrev pub TypesConvert : List ℕ → List ℕ → ℕ → Bool → Type 0
TypesConvert args target at r = (l : List Ty) (t : Ty) → TypeRow args 0 l → Stands 15 target at t (length target)
    → r ≡ every (λ a. converts a t) l

-- each to its member's type: there are as many of the one as of the other
pub record Members (args target : List ℕ) (l m : List Ty) : Type 0 where
  pub given : TypeRow args 0 l
  pub members : TypeRow target 6 m
  pub equal : length l ≡ length m

pub record SomeMembers (args target : List ℕ) : Type 0 where
  pub types : List Ty
  pub wanted : List Ty
  pub members : Members args target types wanted

abbrev pub MemberTypesConvert : List ℕ → List ℕ → Bool → Type 0
MemberTypesConvert args target r = (l m : List Ty) → Members args target l m → r ≡ memberwise_ty m l
