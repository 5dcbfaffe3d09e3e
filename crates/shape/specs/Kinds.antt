-- Scalar kinds by their numbers, and the kinds that stand in types.
use Rattle.std.specs.Prelude.{◌≡◌, Bool, cond, List, ℕ}
use Rattle.std.proofs.Math.Option.{Option as Maybe, none, some}
use Rattle.meaning.specs.Kinds.{Kind, kind_no, kind_of}
use Rattle.meaning.specs.Scalars.{some?}
use Rattle.meaning.specs.Trees.{Ty, Ts, inner}
use Rattle.meaning.specs.Convert.{converts, float_kind}
use Rattle.meaning.specs.Build.{lit_kind, to_inner}
use Rattle.kind.specs.Ends.{of_kind}
use Rattle.ty.specs.Stands.{Stands}
use Rattle.std.specs.declared.option.Option.{Option}
use Rattle.std.specs.declared.option.Option.TheVariants.{None, Some}

-- the code's answer for a kind, and for none
unfoldable pub found_of : Maybe Kind → Option ℕ
found_of none = None
found_of (some k) = Some (kind_no k)

-- of the kind so far and the next one: the next if the first converts to it, else the first if the next converts to it
unfoldable pub meet_kind : Kind → Kind → Maybe Kind
meet_kind a b = cond (converts (Ts a) (Ts b)) (some b) (cond (converts (Ts b) (Ts a)) (some a) none)

abbrev pub KindsMeet : ℕ → ℕ → Option ℕ → Type 0
KindsMeet j k r = (a b : Kind) → j ≡ kind_no a → k ≡ kind_no b → r ≡ found_of (meet_kind a b)

-- "float, AbstractInt becoming AbstractFloat", by the kind's number
unfoldable pub float_found : ℕ → Option ℕ
float_found k = found_of (of_kind none (λ j. float_kind (Ts j)) (kind_of k))

-- the kind of the scalar type at i
abbrev pub LitKindAt : ℕ → List ℕ → ℕ → Option ℕ → Type 0
LitKindAt d s i r = (t : Ty) (e : ℕ) → Stands d s i t e → r ≡ found_of (lit_kind t)

-- the kind "one level down", if what stands there is a scalar
abbrev pub InnerKind : List ℕ → Option ℕ → Type 0
InnerKind ty r = (t : Ty) (e : ℕ) → Stands 15 ty 0 t e → r ≡ found_of (lit_kind (inner t))

-- whether that converts to the kind whose number k is: "7 if that doesn't convert"
abbrev pub GoesDown : ℕ → List ℕ → Bool → Type 0
GoesDown k ty x = (j : Kind) (t : Ty) (e : ℕ) → k ≡ kind_no j → Stands 15 ty 0 t e → x ≡ some? (to_inner j t)

-- the float kind of that
abbrev pub FloatInner : List ℕ → Option ℕ → Type 0
FloatInner ty r = (t : Ty) (e : ℕ) → Stands 15 ty 0 t e → r ≡ found_of (float_kind (inner t))
