-- What the readers of values say of bytes of which nothing is known, and what they write.
use Rattle.std.specs.Prelude.{◌≡◌, List, [], ◌∷◌, ℕ, ◌+◌, ◌/◌, ◌%◌, ◌≤◌, ◌<◌, T, length, get_or}
use Rattle.meaning.specs.Kinds.{Kind, kind_no}
use Rattle.meaning.specs.Trees.{Ty, Ts, Tv, Tm, Ta, Tu, Tys, tys_list, depth}
use Rattle.meaning.specs.Records.{ty_bytes, tys_bytes, shaped_ty}
use Rattle.inst.specs.Values.{Typed, TypedAll}
use Rattle.record.specs.Bytes.{Starts, Put}
use Rattle.ty.specs.declared.Head.{Head}
use Rattle.ty.specs.declared.Head.TheVariants.{Scalar, Vector, Matrix, Array, Struct}
use Rattle.std.specs.declared.option.Option.{Option}
use Rattle.std.specs.declared.option.Option.TheVariants.{None, Some}

-- ---- the front of a value's record

-- a value's mark
pub record Marked (s : List ℕ) (at m : ℕ) : Type 0 where
  pub room : at + 3 ≤ length s
  pub first : get_or s at 0 ≡ 86
  pub second : get_or s (at + 1) 0 ≡ m

-- if a value stands there, its type is g of the kind whose number k is
pub record LeafFront (d : ℕ) (s : List ℕ) (at : ℕ) (g : Kind → Ty) (k : ℕ) : Type 0 where
  pub kind : Kind
  pub no : k ≡ kind_no kind
  pub shaped : T (shaped_ty (g kind))
  pub deep : depth (g kind) ≤ d
  pub only : (t : Ty) (e : ℕ) → Typed d s at t e → t ≡ g kind

pub record IsArray (n : ℕ) (t : Ty) : Type 0 where
  pub elem : Ty
  pub is : t ≡ Ta n elem

pub record ArrayFront (d : ℕ) (s : List ℕ) (at n : ℕ) : Type 0 where
  pub some : 1 ≤ n
  pub most : n ≤ 65535
  pub deep : 1 ≤ d
  pub starts : Starts s at (86 ∷ 97 ∷ n % 256 ∷ n / 256 % 256 ∷ [])
  pub only : (t : Ty) (e : ℕ) → Typed d s at t e → IsArray n t

pub record IsStruct (i n : ℕ) (t : Ty) : Type 0 where
  pub members : Tys
  pub is : t ≡ Tu i members
  pub count : length (tys_list members) ≡ n

pub record StructFront (d : ℕ) (s : List ℕ) (at i n : ℕ) : Type 0 where
  pub id : i ≤ 65535
  pub some : 1 ≤ n
  pub most : n ≤ 1023
  pub deep : 1 ≤ d
  pub starts : Starts s at (86 ∷ 117 ∷ i % 256 ∷ i / 256 % 256 ∷ n % 256 ∷ n / 256 % 256 ∷ [])
  pub only : (t : Ty) (e : ℕ) → Typed d s at t e → IsStruct i n t

abbrev pub FrontIs : ℕ → List ℕ → ℕ → Option Head → Type 0
FrontIs d s at (Some (Scalar k)) = LeafFront d s at Ts k
FrontIs d s at (Some (Vector n k)) = LeafFront d s at (Tv n) k
FrontIs d s at (Some (Matrix c r k)) = LeafFront d s at (Tm c r) k
FrontIs d s at (Some (Array n)) = ArrayFront d s at n
FrontIs d s at (Some (Struct i n)) = StructFront d s at i n
FrontIs d s at None = (t : Ty) (e : ℕ) → Typed d s at t e → ⊥

-- ---- writing

-- the bytes bs are stored at `to`, and there was room for them
pub record Wrote (out : List ℕ) (to : ℕ) (bs : List ℕ) (r : ℕ) (out' : List ℕ) : Type 0 where
  pub put : Put out to bs r out'
  pub room : r ≤ length out

-- the same, or there is no room for them
abbrev pub Tried : List ℕ → ℕ → List ℕ → Option ℕ → List ℕ → Type 0
Tried out to bs (Some r) out' = Wrote out to bs r out'
Tried out to bs None out' = length out < to + length bs

-- the bytes of a type's record up to its parts
abbrev pub type_front : Head → List ℕ
type_front (Scalar k) = 84 ∷ 115 ∷ k ∷ []
type_front (Vector n k) = 84 ∷ 118 ∷ n ∷ 84 ∷ 115 ∷ k ∷ []
type_front (Matrix c r k) = 84 ∷ 109 ∷ c ∷ r ∷ 84 ∷ 115 ∷ k ∷ []
type_front (Array n) = 84 ∷ 97 ∷ n % 256 ∷ n / 256 % 256 ∷ []
type_front (Struct i n) = 84 ∷ 117 ∷ i % 256 ∷ i / 256 % 256 ∷ n % 256 ∷ n / 256 % 256 ∷ []

-- ---- the type of a value

-- a value stands at `at`, ends at e, and the record of its type stands in `out'` from o up to q
pub record Found (d : ℕ) (s : List ℕ) (at : ℕ) (out : List ℕ) (o e q : ℕ) (out' : List ℕ) : Type 0 where
  pub type : Ty
  pub typed : Typed d s at type e
  pub wrote : Wrote out o (ty_bytes type) q out'

abbrev pub Derives : ℕ → List ℕ → ℕ → List ℕ → ℕ → Option (ℕ × ℕ) → List ℕ → Type 0
Derives d s at out o (Some (e, q)) out' = Found d s at out o e q out'
Derives d s at out o None out' = (t : Ty) (e : ℕ) → Typed d s at t e → length out < o + length (ty_bytes t)

pub record FoundAll (d : ℕ) (s : List ℕ) (at n : ℕ) (out : List ℕ) (o e q : ℕ) (out' : List ℕ) : Type 0 where
  pub types : Tys
  pub typed : TypedAll d s at n types e
  pub wrote : Wrote out o (tys_bytes types) q out'

abbrev pub DerivesAll : ℕ → List ℕ → ℕ → ℕ → List ℕ → ℕ → Option (ℕ × ℕ) → List ℕ → Type 0
DerivesAll d s at n out o (Some (e, q)) out' = FoundAll d s at n out o e q out'
DerivesAll d s at n out o None out' = (m : Tys) (e : ℕ) → TypedAll d s at n m e → length out < o + length (tys_bytes m)
