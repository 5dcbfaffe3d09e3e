-- Conversion without a constructor, of types and of values, and the common type (document 01, conversion; the source's conv.rs).
use Rattle.std.proofs.Math.Option.{Option, none, some}
use Rattle.std.specs.Prelude.{List, [], ◌∷◌, Bool, cond, ℕ}
use Rattle.meaning.specs.Kinds.{Kind, kind_rank, same_kind, is_float, aint, afloat}
use Rattle.meaning.specs.Scalars.{conv, some?}
use Rattle.meaning.specs.Trees.{Ty, Ts, Tv, Tm, Ta, Tu, Val, Vs, Vv, Vm, Va, Vu, Vals, ⟨⟩, ◌▹◌}
use Rattle.meaning.specs.Trees.{type_of, leaf, set_leaf, same_ty}
use Rattle.meaning.specs.Answers.{all_some, map_some}

-- "vectors, matrices and counted arrays of equal shape convert as their elements do": at the rank of the kinds at the bottom
unfoldable pub leaf_rank : Ty → Ty → Option Kind → Option Kind → Option ℕ
leaf_rank a b none k = none
leaf_rank a b (some j) none = none
leaf_rank a b (some j) (some k) = cond (same_ty (set_leaf k a) b) (kind_rank j k) none

-- "a type converts to itself (rank 0)"; "structs convert only to an equal type"
unfoldable pub rank : Ty → Ty → Option ℕ
rank a b = cond (same_ty a b) (some 0) (leaf_rank a b (leaf a) (leaf b))

unfoldable pub converts : Ty → Ty → Bool
converts a b = some? (rank a b)

-- every literal of a value becomes kind k; a struct is kept
unfoldable mutual
  pub conv_lits : Kind → Val → Option Val
  conv_lits k (Vs j p) = map_some (Vs k) (conv k j p)
  conv_lits k (Vv j ps) = map_some (Vv k) (all_some (conv k j) ps)
  conv_lits k (Vm c r j ps) = map_some (Vm c r k) (all_some (conv k j) ps)
  conv_lits k (Va l) = map_some Va (conv_all k l)
  conv_lits k (Vu i l) = some (Vu i l)

  pub conv_all : Kind → Vals → Option Vals
  conv_all k ⟨⟩ = some ⟨⟩
  conv_all k (v ▹ m) = elim (conv_lits k v) [ none ↦ none | some w ↦ map_some (w ▹◌) (conv_all k m) ]

unfoldable pub conv_leaf : Option Kind → Val → Option Val
conv_leaf none v = some v
conv_leaf (some k) v = conv_lits k v

-- "a value converts exactly if its type does and each literal fits"
unfoldable pub conv_val : Ty → Val → Option Val
conv_val t v = cond (converts (type_of v) t) (conv_leaf (leaf t) v) none

-- "an array value also converts to `Tr` if its elements do; the result is a `Va`": the element type t, the value's type, the value
unfoldable pub conv_runtime : Ty → Ty → Val → Option Val
conv_runtime t (Ts k) v = none
conv_runtime t (Tv n k) v = none
conv_runtime t (Tm c r k) v = none
conv_runtime t (Ta n a) v = conv_val (Ta n t) v
conv_runtime t (Tu i m) v = none

-- of the type so far and the next one: the next if the first converts to it, else the first if the next converts to it
unfoldable pub meet : Option Ty → Ty → Option Ty
meet none b = none
meet (some a) b = cond (converts a b) (some b) (cond (converts b a) (some a) none)

unfoldable pub common_from : Option Ty → List Ty → Option Ty
common_from a [] = a
common_from a (b ∷ l) = common_from (meet a b) l

-- "the common type of a list is one of its own types to which all others convert", as the source folds it, pair by pair
unfoldable pub common : List Ty → Option Ty
common [] = none
common (a ∷ l) = common_from (some a) l

-- the float kind of an untemplated matrix: "float, AbstractInt becoming AbstractFloat"
unfoldable pub float_kind : Ty → Option Kind
float_kind (Ts k) = cond (same_kind k aint) (some afloat) (cond (is_float k) (some k) none)
float_kind (Tv n k) = none
float_kind (Tm c r k) = none
float_kind (Ta n t) = none
float_kind (Tu i m) = none
