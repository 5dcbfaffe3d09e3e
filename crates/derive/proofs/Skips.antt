-- Where a value ends, by its front.
use mathlib.Core.Path.{◌≡◌, sym, ap, ◌∙◌, subst}
use mathlib.Core.List.{List}
use Prim.Native.Nat.{ℕ, ◌+◌, ◌-◌, ◌*◌, ◌≤◌, ◌<◌}
use native.Mathlib.Omega.{arith}
use lib.ListN.{length}
use Rattle.meaning.specs.Kinds.{Kind}
use Rattle.meaning.specs.Trees.{Ty, Ta, Tys, [·], ◌▸◌, tys_list, val_len}
use Rattle.record.specs.Literals.{Sized}
use Rattle.inst.specs.Values.{Typed, TypedAll, Having, HavingAll, EndsAt, EndsAll}
use Rattle.derive.specs.Derives.{LeafFront, ArrayFront, StructFront}
use Rattle.inst.proofs.ValueRows.{fits_end, none_fits}
use Rattle.derive.proofs.Typings.{array_apart, struct_apart, firstly, Split}

module _ {d : ℕ} {s : List ℕ} {at : ℕ} where
  -- without parts
  pub leaf_end : {g : Kind → Ty} {k most l : ℕ} → LeafFront d s at g k → Sized k (λ j. val_len (g j)) most l → EndsAt d s at (at + l)
  leaf_end f z t e w = ap (λ (n : ℕ). at + n) (z.is f.kind f.no ∙ ap val_len (sym (f.only t e w)))
      ∙ sym (fits_end s at t e w.fits)

  module _ {n : ℕ} (f : ArrayFront d s at n) where
    split : (t : Ty) (e : ℕ) → Typed d s at t e → (u : Ty) × (t ≡ Ta n u) × Split f u e
    split t e w = let a = f.only t e w in (
      a.elem,
      a.is,
      array_apart f a.elem e
          (subst (λ (u : Ty). Typed d s at u e) a.is w),
    )

    pub first_having : Having d s at → Having (d - 1) s (at + 4)
    first_having h = let x = split h.type h.end h.typed in record { type = x.0; end = x.2.mid; typed = x.2.first }

    -- an array of n elements is 4 bytes and n times its first
    pub array_end : (r k : ℕ) → k ≡ n → EndsAt (d - 1) s (at + 4) r → (t : Ty) (e : ℕ) → Typed d s at t e → (at + 4 ≤ r)
        × (at + 4 + k * (r - (at + 4)) ≡ e)
    unfolding val_len
    array_end r k p g t e w =
        let x = split t e w in
        let u = x.0 in
        let i : r ≡ at + 4 + val_len u = g u x.2.mid x.2.first ∙ fits_end s (at + 4) u x.2.mid x.2.first.fits in
        let j : r - (at + 4) ≡ val_len u = omega arith in
        let l : e ≡ at + (4 + n * val_len u) = fits_end s at t e w.fits ∙ ap (λ (v : Ty). at + val_len v) x.1 in
        (omega arith, rw (j, p) (omega arith))

    -- so it is within the bytes
    pub array_within : (r k : ℕ) → k ≡ n → EndsAt (d - 1) s (at + 4) r → Having d s at → (at + 4 ≤ r)
        × (at + 4 + k * (r - (at + 4)) ≤ length s)
    array_within r k p g h =
        let x = array_end r k p g h.type h.end h.typed in (x.0, omega (arith, x.1, h.typed.fits.within))

  module _ {i n : ℕ} (f : StructFront d s at i n) where
    members : (t : Ty) (e : ℕ) → Typed d s at t e → (m : Tys) × TypedAll (d - 1) s (at + 6) n m e
    members t e w = let a = f.only t e w in (
      a.members,
      struct_apart f a.members e a.count
          (subst (λ (u : Ty). Typed d s at u e) a.is w),
    )

    pub members_having : Having d s at → HavingAll (d - 1) s (at + 6) n
    members_having h = let x = members h.type h.end h.typed in record { types = x.0; end = h.end; typed = x.1 }

    pub struct_end : (r : ℕ) → EndsAll (d - 1) s (at + 6) n r → EndsAt d s at r
    struct_end r g t e w = let x = members t e w in g x.0 e x.1

-- ---- the loop over members: what is left of them ends where all of them do

pub record SkipLeft (d : ℕ) (s : List ℕ) (i left e : ℕ) : Type 0 where
  pub types : Tys
  pub typed : TypedAll d s i left types e

module _ {d : ℕ} {s : List ℕ} {i left e : ℕ} (w : SkipLeft d s i left e) where
  pub left_having : 0 < left → Having d s i
  left_having h = let f = firstly h w.typed in record { type = f.type; end = f.mid; typed = f.one }

  pub left_skip : {others : ℕ} → left ≡ others + 1 → {r : ℕ} → EndsAt d s i r → SkipLeft d s r others e
  left_skip {others} h g =
      let f = firstly (let k : 0 < left = omega arith in k) w.typed in
      let k : left - 1 ≡ others = omega arith in
      record { types = f.others; typed = rw (g f.type f.mid f.one) (rw k at f.rest) }

  pub left_done : left ≡ 0 → i ≡ e
  unfolding tys_list
  left_done h = go w.types w.typed
    where
      go : (m : Tys) → TypedAll d s i left m e → i ≡ e
      go [·] v = sym (none_fits s i e v.fits)
      go (t ▸ m) v = absurd (omega (arith, v.count))
