-- Where the records of types stand in a list of bytes.
use Rattle.std.specs.Prelude.{◌≡◌, List, ◌++◌, ℕ, ◌+◌, ◌≤◌, T, length, drop}
use Rattle.meaning.specs.Trees.{Ty, Tys, tys_list, depth, depths}
use Rattle.meaning.specs.Records.{ty_bytes, tys_bytes, shaped_ty, shaped_tys}

-- the record of the type t, of depth d at most, stands in s from `at` up to e
pub record Stands (d : ℕ) (s : List ℕ) (at : ℕ) (t : Ty) (e : ℕ) : Type 0 where
  pub here : drop at s ≡ ty_bytes t ++ drop e s
  pub size : e ≡ at + length (ty_bytes t)
  pub within : e ≤ length s
  pub shaped : T (shaped_ty t)
  pub deep : depth t ≤ d

-- those of n types, one after another
pub record StandAll (d : ℕ) (s : List ℕ) (at n : ℕ) (m : Tys) (e : ℕ) : Type 0 where
  pub here : drop at s ≡ tys_bytes m ++ drop e s
  pub size : e ≡ at + length (tys_bytes m)
  pub within : e ≤ length s
  pub shaped : T (shaped_tys m)
  pub deep : depths m ≤ d
  pub count : length (tys_list m) ≡ n

-- some type stands there, and ends at e
pub record Ends (d : ℕ) (s : List ℕ) (at e : ℕ) : Type 0 where
  pub type : Ty
  pub stands : Stands d s at type e

pub record EndAll (d : ℕ) (s : List ℕ) (at n e : ℕ) : Type 0 where
  pub types : Tys
  pub stands : StandAll d s at n types e

-- some type stands there
pub record Standing (d : ℕ) (s : List ℕ) (at : ℕ) : Type 0 where
  pub type : Ty
  pub end : ℕ
  pub stands : Stands d s at type end

pub record StandingAll (d : ℕ) (s : List ℕ) (at n : ℕ) : Type 0 where
  pub types : Tys
  pub end : ℕ
  pub stands : StandAll d s at n types end

-- all of s is the record of the well-shaped type t; of some well-shaped type
abbrev pub Whole : List ℕ → Ty → Type 0
Whole s t = Stands 15 s 0 t (length s)

abbrev pub OneType : List ℕ → Type 0
OneType s = Ends 15 s 0 (length s)
