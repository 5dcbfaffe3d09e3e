-- The components that the arguments' types bring to a vector.
use Rattle.std.specs.Prelude.{◌≡◌, List, [], ◌∷◌, Bool, true, false, ℕ}
use Rattle.std.proofs.Math.Option.{Option as Maybe, none, some}
use Rattle.meaning.specs.Kinds.{Kind, kind_no}
use Rattle.meaning.specs.Trees.{Ty}
use Rattle.meaning.specs.Answers.{Result, ok, no, all}
use Rattle.meaning.specs.Typing.{part_kind, part_count, part_of, part_to, total}
use Rattle.ty.specs.Stands.{Stands}
use Rattle.shape.specs.TypeRows.{TypeRow}
use Rattle.shape.specs.Kinds.{found_of, meet_kind}
use Rattle.std.specs.declared.option.Option.{Option}

-- the kind, and the number, of the components that the type at i brings
abbrev pub ComponentKind : List ℕ → ℕ → Option ℕ → Type 0
ComponentKind s i r = (t : Ty) (e : ℕ) → Stands 15 s i t e → r ≡ found_of (part_kind t)

abbrev pub ComponentCount : List ℕ → ℕ → ℕ → Type 0
ComponentCount s i r = (t : Ty) (e : ℕ) → Stands 15 s i t e → r ≡ part_count t

-- what the rule gives, or that it doesn't refuse
pub record Gives {A : Type 0} (x : Result A) : Type 0 where
  pub value : A
  pub is : x ≡ ok value

-- the rule x passes, or refuses with n
abbrev pub Passes : {A : Type 0} → ℕ → Result A → Bool → Type 0
Passes n x true = Gives x
Passes n x false = x ≡ no n

-- "among several arguments of a vector, one that is neither scalar nor vector, or doesn't convert to the target's scalar, is 12"
abbrev pub PartTo : ℕ → List ℕ → ℕ → Bool → Type 0
PartTo k s i r = (j : Kind) (t : Ty) (e : ℕ) → k ≡ kind_no j → Stands 15 s i t e → Passes 12 (part_to j t) r

abbrev pub PartsTo : ℕ → List ℕ → Bool → Type 0
PartsTo k s r = (j : Kind) (l : List Ty) → k ≡ kind_no j → TypeRow s 0 l → Passes 12 (all (part_to j) l) r

abbrev pub PartOf : List ℕ → ℕ → Bool → Type 0
PartOf s i r = (t : Ty) (e : ℕ) → Stands 15 s i t e → Passes 12 (part_of t) r

abbrev pub PartsOf : List ℕ → Bool → Type 0
PartsOf s r = (l : List Ty) → TypeRow s 0 l → Passes 12 (all part_of l) r

-- a test of the places where types stand says whether the type there passes the rule f, which refuses with 12
abbrev pub Tests : (ℕ → Bool → Type 0) → List ℕ → (Ty → Result Kind) → Type 0
Tests test s f = (i : ℕ) (t : Ty) (e : ℕ) (b : Bool) → Stands 15 s i t e → test i b → Passes 12 (f t) b

abbrev pub EachPasses : (ℕ → Bool → Type 0) → List ℕ → Bool → Type 0
EachPasses test s r = (f : Ty → Result Kind) (l : List Ty) → Tests test s f → TypeRow s 0 l → Passes 12 (all f l) r

abbrev pub TotalIs : List ℕ → ℕ → Type 0
TotalIs s r = (l : List Ty) → TypeRow s 0 l → r ≡ total l

-- ---- the common kind of the components, as the source folds types, pair by pair

unfoldable pub meet_some : Maybe Kind → Kind → Maybe Kind
meet_some none b = none
meet_some (some a) b = meet_kind a b

unfoldable pub common_kind_from : Maybe Kind → List Kind → Maybe Kind
common_kind_from a [] = a
common_kind_from a (b ∷ l) = common_kind_from (meet_some a b) l

abbrev pub MeetPart : ℕ → List ℕ → ℕ → Option ℕ → Type 0
MeetPart k s i r = (a b : Kind) (t : Ty) (e : ℕ) → k ≡ kind_no a → Stands 15 s i t e → part_kind t ≡ some b → r ≡ found_of (meet_kind a b)

-- the types l, at least one, bring components of the kinds k and ks
pub record PartKinds (s : List ℕ) (l : List Ty) (k : Kind) (ks : List Kind) : Type 0 where
  pub row : TypeRow s 0 l
  pub parts : all part_of l ≡ ok (k ∷ ks)

pub record SomeParts (s : List ℕ) : Type 0 where
  pub types : List Ty
  pub first : Kind
  pub others : List Kind
  pub kinds : PartKinds s types first others

abbrev pub CommonKind : List ℕ → Option ℕ → Type 0
CommonKind s r = (l : List Ty) (k : Kind) (ks : List Kind) → PartKinds s l k ks → r ≡ found_of (common_kind_from (some k) ks)
