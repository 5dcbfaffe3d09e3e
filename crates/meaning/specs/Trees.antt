-- Types, values and targets as trees: the type of a value, depth, the length of a value's record, zero values. A vector
-- or a matrix has one kind and its payloads, a matrix column by column.
use Rattle.std.proofs.Math.Option.{Option, none, some}
use Rattle.std.specs.Prelude.{List, [], ◌∷◌, Bool, true, false, ◌&&◌, ℕ, suc, ◌+◌, ◌*◌, max, eqb, length, replicate}
use Rattle.meaning.specs.Kinds.{Kind, bool, pay_width, same_kind}

-- `Ts` kind; `Tv` n and a kind; `Tm` c columns, r rows and a kind; `Ta` count and element type; `Tu` identity and member types
mutual
  pub data Ty : Type 0 where
    Ts : Kind → Ty
    Tv : ℕ → Kind → Ty
    Tm : ℕ → ℕ → Kind → Ty
    Ta : ℕ → Ty → Ty
    Tu : ℕ → Tys → Ty

  pub data Tys : Type 0 where
    [·] : Tys
    ◌▸◌ : Ty → Tys → Tys

-- `Vs` kind and payload; `Vv` its kind and payloads; `Vm` columns, rows, kind and payloads; `Va` elements; `Vu` identity and members
mutual
  pub data Val : Type 0 where
    Vs : Kind → ℕ → Val
    Vv : Kind → List ℕ → Val
    Vm : ℕ → ℕ → Kind → List ℕ → Val
    Va : Vals → Val
    Vu : ℕ → Vals → Val

  pub data Vals : Type 0 where
    ⟨⟩ : Vals
    ◌▹◌ : Val → Vals → Vals

infixr 50 ◌▸◌
infixr 50 ◌▹◌
-- a type record, a runtime-sized array of an element type, or an untemplated shape
pub data Target : Type 0 where
  Of : Ty → Target
  Tr : Ty → Target
  Qa : Target
  Qv : ℕ → Target
  Qm : ℕ → ℕ → Target

-- the two kinds of list as lists
unfoldable pub tys_list : Tys → List Ty
tys_list [·] = []
tys_list (t ▸ m) = t ∷ tys_list m

unfoldable pub tys_of : List Ty → Tys
tys_of [] = [·]
tys_of (t ∷ l) = t ▸ tys_of l

unfoldable pub vals_list : Vals → List Val
vals_list ⟨⟩ = []
vals_list (v ▹ m) = v ∷ vals_list m

unfoldable pub vals_of : List Val → Vals
vals_of [] = ⟨⟩
vals_of (v ∷ l) = v ▹ vals_of l

unfoldable pub count_vals : Vals → ℕ
count_vals ⟨⟩ = 0
count_vals (v ▹ m) = suc (count_vals m)

-- an array's element type is its first element's (the others' are equal to it in a well-formed value, and a count of 0 is malformed)
unfoldable pub first : Tys → Ty
first [·] = Ts bool
first (t ▸ m) = t

-- "every value has one type"
unfoldable mutual
  pub type_of : Val → Ty
  type_of (Vs k p) = Ts k
  type_of (Vv k ps) = Tv (length ps) k
  type_of (Vm c r k ps) = Tm c r k
  type_of (Va l) = Ta (count_vals l) (first (types_of l))
  type_of (Vu i l) = Tu i (types_of l)

  pub types_of : Vals → Tys
  types_of ⟨⟩ = [·]
  types_of (v ▹ m) = type_of v ▸ types_of m

-- two types are equal: the same shapes, numbers and kinds (their bytes are then equal, and only then: `crates/laws/proofs/Length.antt`)
unfoldable mutual
  pub same_ty : Ty → Ty → Bool
  same_ty (Ts j) (Ts k) = same_kind j k
  same_ty (Ts x0) (Tv y0 y1) = false
  same_ty (Ts x0) (Tm y0 y1 y2) = false
  same_ty (Ts x0) (Ta y0 y1) = false
  same_ty (Ts x0) (Tu y0 y1) = false
  same_ty (Tv x0 x1) (Ts y0) = false
  same_ty (Tv n j) (Tv m k) = eqb n m && same_kind j k
  same_ty (Tv x0 x1) (Tm y0 y1 y2) = false
  same_ty (Tv x0 x1) (Ta y0 y1) = false
  same_ty (Tv x0 x1) (Tu y0 y1) = false
  same_ty (Tm x0 x1 x2) (Ts y0) = false
  same_ty (Tm x0 x1 x2) (Tv y0 y1) = false
  same_ty (Tm c r j) (Tm a b k) = eqb c a && eqb r b && same_kind j k
  same_ty (Tm x0 x1 x2) (Ta y0 y1) = false
  same_ty (Tm x0 x1 x2) (Tu y0 y1) = false
  same_ty (Ta x0 x1) (Ts y0) = false
  same_ty (Ta x0 x1) (Tv y0 y1) = false
  same_ty (Ta x0 x1) (Tm y0 y1 y2) = false
  same_ty (Ta n t) (Ta m u) = eqb n m && same_ty t u
  same_ty (Ta x0 x1) (Tu y0 y1) = false
  same_ty (Tu x0 x1) (Ts y0) = false
  same_ty (Tu x0 x1) (Tv y0 y1) = false
  same_ty (Tu x0 x1) (Tm y0 y1 y2) = false
  same_ty (Tu x0 x1) (Ta y0 y1) = false
  same_ty (Tu i l) (Tu h m) = eqb i h && same_tys l m

  pub same_tys : Tys → Tys → Bool
  same_tys [·] [·] = true
  same_tys [·] (u ▸ m) = false
  same_tys (t ▸ l) [·] = false
  same_tys (t ▸ l) (u ▸ m) = same_ty t u && same_tys l m

-- ---- sizes

-- "scalar 0, vector 1, matrix 2, array or struct one more than its deepest part"
unfoldable mutual
  pub depth : Ty → ℕ
  depth (Ts k) = 0
  depth (Tv n k) = 1
  depth (Tm c r k) = 2
  depth (Ta n t) = suc (depth t)
  depth (Tu i m) = suc (depths m)

  pub depths : Tys → ℕ
  depths [·] = 0
  depths (t ▸ m) = max (depth t) (depths m)

-- the length of a literal's record: its mark, its kind and its payload
unfoldable pub lit_len : Kind → ℕ
lit_len k = 3 + pay_width k

-- the length of a value's record, which follows from its type
unfoldable mutual
  pub val_len : Ty → ℕ
  val_len (Ts k) = lit_len k
  val_len (Tv n k) = 3 + n * lit_len k
  val_len (Tm c r k) = 4 + c * (3 + r * lit_len k)
  val_len (Ta n t) = 4 + n * val_len t
  val_len (Tu i m) = 6 + val_lens m

  pub val_lens : Tys → ℕ
  val_lens [·] = 0
  val_lens (t ▸ m) = val_len t + val_lens m

-- ---- inside a type

-- the scalar kind at the bottom of a type, if no struct is in the way
unfoldable pub leaf : Ty → Option Kind
leaf (Ts k) = some k
leaf (Tv n k) = some k
leaf (Tm c r k) = some k
leaf (Ta n t) = leaf t
leaf (Tu i m) = none

-- the type with the kind k there
unfoldable pub set_leaf : Kind → Ty → Ty
set_leaf k (Ts j) = Ts k
set_leaf k (Tv n j) = Tv n k
set_leaf k (Tm c r j) = Tm c r k
set_leaf k (Ta n t) = Ta n (set_leaf k t)
set_leaf k (Tu i m) = Tu i m

-- "one level down", or the type itself where it has no parts of one type (the source's `inner_ty`)
unfoldable pub inner : Ty → Ty
inner (Ts k) = Ts k
inner (Tv n k) = Ts k
inner (Tm c r k) = Ts k
inner (Ta n t) = t
inner (Tu i m) = Tu i m

-- ---- "the zero value": zero bits in every literal

unfoldable mutual
  pub zero_of : Ty → Val
  zero_of (Ts k) = Vs k 0
  zero_of (Tv n k) = Vv k (replicate n 0)
  zero_of (Tm c r k) = Vm c r k (replicate (c * r) 0)
  zero_of (Ta n t) = Va (vals_of (replicate n (zero_of t)))
  zero_of (Tu i m) = Vu i (zeros_of m)

  pub zeros_of : Tys → Vals
  zeros_of [·] = ⟨⟩
  zeros_of (t ▸ m) = zero_of t ▹ zeros_of m
