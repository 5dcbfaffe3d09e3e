-- Where the records of values stand in a list of bytes, and of which types they are.
use Rattle.std.specs.Prelude.{◌≡◌, List, ◌++◌, ℕ, zero, suc, ◌+◌, ◌≤◌, T, length, drop}
use Rattle.meaning.specs.Trees.{Ty, Tys, [·], ◌▸◌, Val, Vals, type_of, types_of, depth, depths, tys_list}
use Rattle.meaning.specs.Records.{val_bytes, vals_bytes, shaped_val, shaped_vals, shaped_ty, shaped_tys}

-- some value of the type t stands there
pub record Fits (s : List ℕ) (at : ℕ) (t : Ty) (e : ℕ) : Type 0 where
  pub value : Val
  pub here : drop at s ≡ val_bytes value ++ drop e s
  pub size : e ≡ at + length (val_bytes value)
  pub within : e ≤ length s
  pub shaped : T (shaped_val value)
  pub type : type_of value ≡ t

-- values of the types m, one after another
pub record FitsAll (s : List ℕ) (at : ℕ) (m : Tys) (e : ℕ) : Type 0 where
  pub values : Vals
  pub here : drop at s ≡ vals_bytes values ++ drop e s
  pub size : e ≡ at + length (vals_bytes values)
  pub within : e ≤ length s
  pub shaped : T (shaped_vals values)
  pub types : types_of values ≡ m

-- n times the type t: the types of an array's elements, of a vector's literals, of a matrix's columns
unfoldable pub copies : ℕ → Ty → Tys
copies zero t = [·]
copies (suc n) t = t ▸ copies n t

-- some value stands there whose type is t, well formed and of depth d at most
pub record Typed (d : ℕ) (s : List ℕ) (at : ℕ) (t : Ty) (e : ℕ) : Type 0 where
  pub fits : Fits s at t e
  pub shaped : T (shaped_ty t)
  pub deep : depth t ≤ d

-- n such values, one after another
pub record TypedAll (d : ℕ) (s : List ℕ) (at n : ℕ) (m : Tys) (e : ℕ) : Type 0 where
  pub fits : FitsAll s at m e
  pub shaped : T (shaped_tys m)
  pub deep : depths m ≤ d
  pub count : length (tys_list m) ≡ n

-- some value stands there
pub record Having (d : ℕ) (s : List ℕ) (at : ℕ) : Type 0 where
  pub type : Ty
  pub end : ℕ
  pub typed : Typed d s at type end

pub record HavingAll (d : ℕ) (s : List ℕ) (at n : ℕ) : Type 0 where
  pub types : Tys
  pub end : ℕ
  pub typed : TypedAll d s at n types end

-- r is where whichever value stands there ends
abbrev pub EndsAt : ℕ → List ℕ → ℕ → ℕ → Type 0
EndsAt d s at r = (t : Ty) (e : ℕ) → Typed d s at t e → r ≡ e

abbrev pub EndsAll : ℕ → List ℕ → ℕ → ℕ → ℕ → Type 0
EndsAll d s at n r = (m : Tys) (e : ℕ) → TypedAll d s at n m e → r ≡ e
