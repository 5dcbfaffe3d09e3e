-- What the readers of a well-formed type's record say, for whichever type stands there.
use Rattle.std.specs.Prelude.{◌≡◌, List, Bool, true, false, ℕ, ◌+◌, ◌^◌, ltb, length}
use Rattle.std.proofs.Math.Option.{Option as Maybe, none, some}
use Rattle.meaning.specs.Kinds.{Kind, kind_no}
use Rattle.meaning.specs.Trees.{Ty, Ts, Tv, Tm, Ta, Tu, Tys, tys_list, val_len, val_lens, leaf}
use Rattle.ty.specs.Stands.{Stands, StandAll}
use Rattle.ty.specs.declared.Head.{Head}
use Rattle.ty.specs.declared.Head.TheVariants.{Scalar, Vector, Matrix, Array, Struct}
use Rattle.std.specs.declared.option.Option.{Option}
use Rattle.std.specs.declared.option.Option.TheVariants.{None, Some}

-- ---- the front

unfoldable pub head_of : Ty → Head
head_of (Ts k) = Scalar (kind_no k)
head_of (Tv n k) = Vector n (kind_no k)
head_of (Tm c r k) = Matrix c r (kind_no k)
head_of (Ta n t) = Array n
head_of (Tu i m) = Struct i (length (tys_list m))

abbrev pub HeadAt : ℕ → List ℕ → ℕ → Head → Type 0
HeadAt d s at r = (t : Ty) (e : ℕ) → Stands d s at t e → r ≡ head_of t

-- ---- lengths of values

abbrev pub pick_len : Bool → Option (ℕ × ℕ) → Option (ℕ × ℕ) → Option (ℕ × ℕ)
pick_len true a b = a
pick_len false a b = b

-- exact to 64 bits, and then "past 64 bits"; e is where the type's record ends
unfoldable pub len_of : ℕ → ℕ → Option (ℕ × ℕ)
len_of e n = pick_len (ltb n (2 ^ 64)) (Some (e, n)) None

abbrev pub Measured : ℕ → List ℕ → ℕ → Option (ℕ × ℕ) → Type 0
Measured d s at r = (t : Ty) (e : ℕ) → Stands d s at t e → r ≡ len_of e (val_len t)

-- the members of a struct, whose own record is 6 bytes before them
abbrev pub MeasuredAll : ℕ → List ℕ → ℕ → ℕ → Option (ℕ × ℕ) → Type 0
MeasuredAll d s at n r = (m : Tys) (e : ℕ) → StandAll d s at n m e → r ≡ len_of e (6 + val_lens m)

-- ---- the kind at the bottom

unfoldable pub leaf_of : Maybe Kind → Option ℕ
leaf_of none = None
leaf_of (some k) = Some (kind_no k)

abbrev pub LeafAt : ℕ → List ℕ → ℕ → Option ℕ → Type 0
LeafAt d s at r = (t : Ty) (e : ℕ) → Stands d s at t e → r ≡ leaf_of (leaf t)
