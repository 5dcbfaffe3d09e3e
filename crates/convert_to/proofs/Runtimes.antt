-- To a runtime-sized array: it becomes a counted one, whose count is the value's.
use mathlib.Core.Path.{◌≡◌, refl, sym, ap, ap₂, ◌∙◌, subst}
use mathlib.Core.Option.{none}
use mathlib.Core.List.{List, ◌++◌}
use Prim.Native.Nat.{ℕ, ◌+◌, ◌-◌, ◌≤◌, ◌<◌}
use native.Mathlib.Omega.{arith}
use lib.Dec.{T}
use lib.ListN.{length, get_or, take, drop, length-drop}
use lib.Seq.{take_all}
use Rattle.meaning.specs.Trees.{Ty, Ts, Tv, Tm, Ta, Tu, Val, Tr, type_of}
use Rattle.meaning.specs.Records.{ty_bytes, le, good_ty, good_arg}
use Rattle.meaning.specs.Answers.{no}
use Rattle.meaning.specs.Convert.{conv_runtime}
use Rattle.meaning.specs.Entries.{conv_one}
use Rattle.laws.proofs.Back.{shaped_of, deep_of}
use Rattle.laws.proofs.Handed.{counted_good}
use Rattle.ty.specs.Stands.{Stands}
use Rattle.ty.proofs.Heads.{any_front}
use Rattle.ty.proofs.Targets.{whole_bytes, good_length}
use Rattle.ty.proofs.Places.{put_stands}
use Rattle.record.specs.Bytes.{Put}
use Rattle.convert_to.specs.Conversions.{Asked, Runtime, converted, converted_runtime, convert_read}
use Rattle.ty.proofs.FrontOfBuffer.{front_whole}
use Rattle.ty.specs.Targets.{RuntimeIs}
use Rattle.args.specs.OneValue.{OneValue, Found}
use Rattle.args.proofs.OneValue.{one_type}
use Rattle.convert_to.proofs.OneValue.{one_read}

pub record ArrayOf (t : Ty) : Type 0 where
  pub count : ℕ
  pub elem : Ty
  pub is : t ≡ Ta count elem

-- the second letter of the mark tells an array
array_of : (t : Ty) → get_or (ty_bytes t) 1 0 ≡ 97 → ArrayOf t
unfolding ty_bytes
array_of (Ts k) h = absurd (omega arith)
array_of (Tv n k) h = absurd (omega arith)
array_of (Tm c r k) h = absurd (omega arith)
array_of (Ta n t) h = record { count = n; elem = t; is = refl }
array_of (Tu i m) h = absurd (omega arith)

not_array : (t u : Ty) (v : Val) → (get_or (ty_bytes u) 1 0 ≡ 97 → ⊥) → conv_runtime t u v ≡ none
unfolding ty_bytes conv_runtime
not_array t (Ts k) v h = refl
not_array t (Tv n k) v h = refl
not_array t (Tm c r k) v h = refl
not_array t (Ta n a) v h = absurd (h refl)
not_array t (Tu i m) v h = refl

pub found_runtime : {target args ty : List ℕ} (r : RuntimeIs target) (f : Found args ty) → Runtime target args ty r.type f.value
found_runtime r f = record { whole = r.stands; small = r.good; value = f.one; type = f.whole }

module _ {target args ty : List ℕ} {t : Ty} {v : Val} (x : Runtime target args ty t v) where
  byte : get_or ty 1 0 ≡ get_or (ty_bytes (type_of v)) 1 0
  byte = ap (λ (l : List ℕ). get_or l 1 0) (whole_bytes x.type)

  -- no array
  pub runtime_no : (room : ℕ) → (get_or ty 1 0 ≡ 97 → ⊥) → converted_runtime t v room ≡ no 9
  unfolding converted_runtime
  runtime_no room h = rw (not_array t (type_of v) v (λ e. h (byte ∙ e)))

  -- a mark stands there
  pub mark_room : 1 < length ty
  mark_room = omega (arith, any_front x.type)

  elements : drop 2 target ≡ ty_bytes t
  elements = whole_bytes x.whole

  pub target_sizes : (2 ≤ length target) × (2 + length target ≤ 4096)
  target_sizes = (omega (arith, x.whole.size), omega (arith, good_length 14 4092 target 2 t elements x.small))

  module _ (h : get_or ty 1 0 ≡ 97) where
    pub array : ArrayOf (type_of v)
    array = array_of (type_of v) (sym byte ∙ h)

    abbrev pub counted : Ty
    counted = Ta array.count t

    counted_is : T (good_ty counted)
    counted_is = counted_good array.count array.elem t (subst (λ (u : Ty). T (good_ty u)) array.is (one_type x.value)) x.small

    front : ty ≡ ty_bytes (Ta array.count array.elem)
    front = whole_bytes x.type ∙ ap ty_bytes array.is

    pub front_room : 4 ≤ length ty
    unfolding ty_bytes le
    front_room = omega (arith, ap length front)

    bytes : take 4 ty ++ take (length target - 2) (drop 2 target) ≡ ty_bytes counted
    unfolding ty_bytes le
    bytes = ap₂ ◌++◌ (ap (take 4) front) (take_all (length target - 2) (drop 2 target) (omega (arith, length-drop 2 target)) ∙ elements)

    -- the record that was put together
    module _ {out out' : List ℕ} {m : ℕ} (l : length out ≡ 4096)
        (p : Put out 0 (take 4 ty ++ take (length target - 2) (drop 2 target)) m out') where
      pub counted_stands : Stands 15 out' 0 counted m
      unfolding good_ty
      counted_stands =
          let e : m ≡ 0 + length (ty_bytes counted) = p.end ∙ ap (λ (b : List ℕ). 0 + length b) bytes in
          let r : length (ty_bytes counted) ≤ 4096 = good_length 15 4096 (ty_bytes counted) 0 counted refl counted_is in
          put_stands counted (shaped_of 15 4096 counted counted_is) (deep_of 15 4096 counted counted_is) (rw bytes at p) (omega arith)

      pub counted_asked : Asked (take m out') args ty counted v
      counted_asked = record { whole = front_whole counted_stands; value = x.value; type = x.type }

    pub counted_same : (room : ℕ) → converted_runtime t v room ≡ converted counted v room
    unfolding converted_runtime converted conv_runtime
    counted_same room = rw array.is

-- ---- what is read of the arguments

pub runtime_read : (t : Ty) {s : List ℕ} (room : ℕ) {v : Val} → OneValue s v → convert_read (Tr t) s room ≡ converted_runtime t v room
unfolding conv_one converted_runtime good_arg
runtime_read t room x = one_read (Tr t) room (λ u. refl) x
