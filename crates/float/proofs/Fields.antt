-- Laws on a pattern's fields as the code takes them apart, and on the patterns that it puts together.
use mathlib.Core.Path.{◌≡◌, refl, sym, ap, ap₂, ◌∙◌}
use mathlib.Core.Logic.{◌⊎◌, inl, inr}
use mathlib.Core.Bool.{Bool, true, false, cond}
use Prim.Native.Nat.{ℕ, zero, suc, ◌+◌, ◌-◌, ◌*◌, ◌/◌, ◌%◌, ◌^◌, ◌≤◌, ◌<◌}
use native.Mathlib.Nat.{le_trans, mod-lt, mul_comm, mul-le-mul_right, one-mul}
use native.Mathlib.Omega.{arith}
use lib.Dec.{leb, ltb, eqb}
use lib.Arith.{mod-mul}
use lib.Pow.{pow_pos, pow_mono}
use borrow.Author.Tests.{lt-ltb, le-ltb, eq-eqb, ne_eqb}
use Rattle.meaning.specs.Floats.{Num, nan, inf, fin, unit, hid, ones, top, of_fields, value, packed, bits, finite}
use Rattle.laws.proofs.Digits.{le_or_lt, Format, top_is}
use Rattle.float.specs.Taken.{Stands, Layout}
use Rattle.float.specs.declared.Parts.TheVariants.{Nan, Inf, Fin}

hid_le : (p : ℕ) → p ≤ 53 → hid p ≤ 2 ^ 52
hid_le p h = let g : p - 1 ≤ 52 = omega arith in pow_mono g

-- ---- by the exponent's field

module _ (p emax : ℕ) (s : Bool) (t : ℕ) where
  special : (f : ℕ) → f ≡ 2 * emax + 1 → of_fields p emax s f t ≡ cond (eqb t 0) (inf s) nan
  unfolding of_fields
  special zero g = absurd (omega arith)
  special (suc f) g = rw (eq-eqb (suc f) (ones emax) g)

  smallest : (f : ℕ) → f ≡ 0 → of_fields p emax s f t ≡ fin s (t * 2 ^ unit p emax)
  unfolding of_fields
  smallest zero g = refl
  smallest (suc f) g = absurd (omega arith)

  ordinary : (f : ℕ) → (f ≡ 2 * emax + 1 → ⊥) → (f ≡ 0 → ⊥) → of_fields p emax s f t ≡ fin s ((hid p + t) * 2 ^ (f - 1 + unit p emax))
  unfolding of_fields
  ordinary zero g z = absurd (z refl)
  ordinary (suc f) g z = let q : suc f - 1 ≡ f = omega arith in rw (ne_eqb (suc f) (ones emax) g, q)

-- ---- `unpack`: f is the field, t the fraction and a the weight of the sign; i is the largest field

module _ {p emax w : ℕ} (L : Layout p emax w) (x : ℕ) {f i : ℕ} (F : f ≡ x / hid p % 2 ^ w) (I : i ≡ ones emax) where
  field_is : f ≡ x / hid p % (2 * emax + 2)
  field_is = F ∙ ap (λ (y : ℕ). x / hid p % y) L.power

  field_le : f ≤ 2 * emax + 1
  field_le = let g : 0 < 2 * emax + 2 = omega arith in omega (arith, field_is, mod-lt (x / hid p) g)

  module _ {t a : ℕ} (T : t ≡ x % hid p) (A : a ≡ top p emax) where
    value_is : value p emax x ≡ of_fields p emax (leb a x) f t
    unfolding value
    value_is = rw (field_is, T, A)

    pub at_inf : f ≡ i → t ≡ 0 → Stands (value p emax x) (Inf (leb a x))
    at_inf g z = record {
      means = value_is ∙ special p emax (leb a x) t f (g ∙ I)
          ∙ ap (λ (b : Bool). cond b (inf (leb a x)) nan) (eq-eqb t 0 z);
      small = omega arith;
    }

    pub at_nan : f ≡ i → (t ≡ 0 → ⊥) → Stands (value p emax x) Nan
    at_nan g z = record {
      means = value_is ∙ special p emax (leb a x) t f (g ∙ I)
          ∙ ap (λ (b : Bool). cond b (inf (leb a x)) nan) (ne_eqb t 0 z);
      small = omega arith;
    }

    -- with u for the format's unit and h for the leading one
    module _ {u : ℕ} (U : u ≡ unit p emax) where
      pub at_low : f ≡ 0 → Stands (value p emax x) (Fin (leb a x) (record { significand = t; exponent = u }))
      at_low g = record { means = rw U (value_is ∙ smallest p emax (leb a x) t f g); small = omega arith }

      pub at_fin : {h : ℕ} → h ≡ 1 * hid p → (f ≡ i → ⊥) → (f ≡ 0 → ⊥) → Stands (value p emax x)
          (Fin (leb a x) (record { significand = h + t; exponent = f - 1 + u }))
      at_fin H g z = record {
        means = rw (U, H, one-mul) (value_is ∙ ordinary p emax (leb a x) t f (rw I at g) z);
        small = omega (arith, field_le, L.format);
      }

  -- ---- `is_finite`: the largest field is that of the infinities and NaNs

  pub finite_is : ltb f i ≡ finite p emax x
  unfolding finite
  finite_is = rw (I, rest) (go (le_or_lt (ones emax) f))
    where
      t : ℕ
      t = x % hid p

      rest : x % top p emax ≡ f * hid p + t
      rest =
          let g : 0 < 2 * emax + 2 = omega arith in
          ap (λ (y : ℕ). x % y) (mul_comm (hid p) (2 * emax + 2)) ∙ mod-mul x g (pow_pos (p - 1))
          ∙ ap (λ (y : ℕ). y * hid p + t) (sym field_is)

      go : (ones emax ≤ f) ⊎ (f < ones emax) → ltb f (ones emax) ≡ ltb (f * hid p + t) (ones emax * hid p)
      go (inl h) =
          let k : ones emax * hid p ≤ f * hid p + t = omega (arith, mul-le-mul_right (hid p) h) in
          le-ltb f (ones emax) h ∙ sym (le-ltb (f * hid p + t) (ones emax * hid p) k)
      go (inr h) =
          let k : f * hid p + t < ones emax * hid p = omega (arith, mul-le-mul_right (hid p) h, mod-lt x (pow_pos (p - 1))) in
          lt-ltb f (ones emax) h ∙ sym (lt-ltb (f * hid p + t) (ones emax * hid p) k)

-- ---- `assemble`

module _ {p emax : ℕ} (F : Format p emax) where
  top_le : top p emax ≤ 2 ^ 63
  top_le = le_trans (mul-le-mul_right (2 * emax + 2) (hid_le p F.few_digits)) (omega arith)

  sign_le : (s : Bool) → cond s (top p emax) 0 ≤ top p emax
  sign_le true = omega arith
  sign_le false = omega arith

  pub bits_lt : (v : Num) → bits p emax v < 2 * top p emax
  unfolding bits packed
  bits_lt nan = omega (arith, top_is p emax, pow_pos (p - 1))
  bits_lt (inf s) = omega (arith, top_is p emax, pow_pos (p - 1), sign_le s)
  bits_lt (fin s n) = omega (arith, top_is p emax, pow_pos (p - 1), sign_le s)

  pub fits : {r : ℕ} (v : Num) → r ≡ bits p emax v → r < 2 ^ 64
  fits v e = omega (arith, bits_lt v, top_le)

module _ (p emax : ℕ) {a b : ℕ} where
  pub nan_bits_lem : a ≡ ones emax * hid p → b ≡ 1 * hid p → a + b / 2 ≡ bits p emax nan
  unfolding bits
  nan_bits_lem e f = rw (e, f, one-mul)

  pub inf_bits : (s : Bool) → a ≡ cond s (top p emax) 0 → b ≡ ones emax * hid p → a + b ≡ bits p emax (inf s)
  unfolding bits
  inf_bits s e f = ap₂ ◌+◌ e f

  pub fin_bits : (s : Bool) (n : ℕ) → a ≡ cond s (top p emax) 0 → b ≡ packed p emax n → a + b ≡ bits p emax (fin s n)
  unfolding bits
  fin_bits s n e f = ap₂ ◌+◌ e f
