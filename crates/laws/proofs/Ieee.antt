-- The floating point of specs/Floats is the toolchain's own, lib.Ieee, at binary32 and binary64: a pattern has the same
-- value, a number is rounded to the same pattern, and conversions between the two formats and from whole numbers come
-- to the same.
use mathlib.Core.Path.{◌≡◌, refl, sym, ap, ap₂, ◌∙◌, subst, subst₂}
use mathlib.Core.Logic.{◌⊎◌, inl, inr}
use mathlib.Core.Bool.{Bool, true, false, cond}
use Prim.Native.Nat.{ℕ, zero, suc, ◌+◌, ◌-◌, ◌*◌, ◌/◌, ◌%◌, ◌^◌, ◌≤◌, ◌<◌, min}
use native.Mathlib.Nat.{le_trans, le_of_eq, le_refl, le_of_lt, lt_of_lt_of_le, eq-or-lt_of_le, mul_assoc, mul_comm, mul_right_comm}
use native.Mathlib.Nat.{mul-one, mul-pos, mul-div_cancel, add_assoc, min-eq_left, min-eq_right, mod-lt}
use native.Mathlib.Omega.{arith}
use lib.Dec.{leb, eqb}
use lib.Arith.{mod-mul, digits_div}
use lib.IntN.{pos, negsuc}
use lib.Pow.{pow_pos, pow-lt, pow-add, shl-shr}
use lib.Ieee as I
use lib.Ieee.{size}
use lib.Ieee.Fits.{round_is, down_pos}
use lib.Ieee.Nearest.{closest_same}
use lib.Ieee.Exact.{HasValue, odd_sign, units_val}
use lib.Ieee.Scale.{round_same}
use borrow.Author.Tests.{le-ltb}
use Rattle.meaning.specs.Floats.{Num, nan, inf, fin, integer, closest, unit, hid, top, dropped, packed, bits, of_fields, value}
use Rattle.laws.proofs.Digits.{le_or_lt, size_is, size_kept, cut_down, kept_le, kept_ge, half_twice, stays_finite, gets_infinite}

-- ours at the format f: `at f value b` is the value of the pattern b
abbrev pub at : {A : Type 0} → I.Format → (ℕ → ℕ → A) → A
at f d = d (I.prec f) (I.emax f)

-- the same number
abbrev pub Same : Num → I.Float → Type 0
Same nan I.nan = Unit {0}
Same nan (I.inf t) = ⊥
Same nan (I.fin t m e) = ⊥
Same (inf s) I.nan = ⊥
Same (inf s) (I.inf t) = t ≡ s
Same (inf s) (I.fin t m e) = ⊥
Same (fin s n) x = HasValue x s n (2 ^ 1074)

-- a float of another format, rounded to f; lib.Ieee has no such cast of its own
unfoldable pub convert : I.Format → I.Float → I.Float
convert f I.nan = I.nan
convert f (I.inf s) = I.inf s
convert f (I.fin s m e) = I.round f s (m * I.up e) (I.down e)

-- ---- q * 2 ^ k taken apart again: its leading p digits, and how many are below them

module _ (p k q : ℕ) (P : 1 ≤ p) (h : (k ≡ 0) ⊎ (hid p ≤ q)) where
  at_size : (n j : ℕ) → size n - p ≡ j → j * hid p + n / 2 ^ j ≡ k * hid p + q → (size n - p) * hid p + n / 2 ^ (size n - p) ≡ k * hid p + q
  at_size n j e g = rw e g

  taken_apart : q ≤ 2 ^ p → (size (q * 2 ^ k) - p) * hid p + q * 2 ^ k / 2 ^ (size (q * 2 ^ k) - p) ≡ k * hid p + q
  taken_apart Q = go (eq-or-lt_of_le Q)
    where
      go : (q ≡ 2 ^ p) ⊎ (q < 2 ^ p) → (size (q * 2 ^ k) - p) * hid p + q * 2 ^ k / 2 ^ (size (q * 2 ^ k) - p) ≡ k * hid p + q
      go (inl e) =
          let n : q * 2 ^ k ≡ 2 ^ (p + k) = rw (e, pow-add 2 p k) in
          let z : size (q * 2 ^ k) - p ≡ suc k = rw n (omega
          (arith, size_is (2 ^ (p + k)) (p + k) (le_refl (2 ^ (p + k))) (pow-lt (le_refl (suc (p + k)))))) in
          let s : p + k ≡ (p - 1) + suc k = omega arith in
          let d : 2 ^ (p + k) / 2 ^ suc k ≡ hid p =
          ap (λ (x : ℕ). x / 2 ^ suc k) (ap (λ (x : ℕ). 2 ^ x) s ∙ pow-add 2 (p - 1) (suc k)) ∙ shl-shr (2 ^ (p - 1)) (suc k) in
          at_size (q * 2 ^ k) (suc k) z (rw (n, d) (omega (arith, half_twice p P)))
      go (inr l) = at_size (q * 2 ^ k) k (size_kept p k q P h l) (ap (λ (x : ℕ). k * hid p + x) (shl-shr q k))

-- ---- the numbers of lib.Ieee's formats

one_digit : (f : I.Format) → 1 ≤ I.prec f
one_digit I.binary32 = omega arith
one_digit I.binary64 = omega arith

some_exponents : (f : I.Format) → 1 ≤ I.emax f
some_exponents I.binary32 = omega arith
some_exponents I.binary64 = omega arith

low_unit : (f : I.Format) → I.low f + at f unit ≡ 1074
low_unit I.binary32 = refl
low_unit I.binary64 = refl

limit : (f : I.Format) → I.low f + suc (I.emax f) ≡ (I.prec f - 1) + 2 * I.emax f
limit I.binary32 = refl
limit I.binary64 = refl

top_same : (f : I.Format) → I.top f ≡ at f top
top_same I.binary32 = refl
top_same I.binary64 = refl

shift_eq : (n l c k d : ℕ) → l + c ≡ d → n * 2 ^ l * 2 ^ (c + k) ≡ n * (2 ^ d * 2 ^ k)
shift_eq n l c k d e =
    let s : l + (c + k) ≡ d + k = omega arith in
    mul_assoc n (2 ^ l) (2 ^ (c + k)) ∙ ap (λ (x : ℕ). n * x) (sym (pow-add 2 l (c + k)) ∙ ap (λ (x : ℕ). 2 ^ x) s ∙ pow-add 2 d k)

-- a magnitude in another unit
scale : (x : I.Float) (s : Bool) (a l c d : ℕ) → l + c ≡ d → HasValue x s a (2 ^ l) → HasValue x s (a * 2 ^ c) (2 ^ d)
scale I.nan s a l c d e h = h
scale (I.inf t) s a l c d e h = h
scale (I.fin t m y) s a l c d e h =
    let u = m * I.up y in
    let g : u * 2 ^ d ≡ u * 2 ^ l * 2 ^ c = ap (λ (x : ℕ). u * x) (ap (λ (x : ℕ). 2 ^ x) (sym e) ∙ pow-add 2 l c)
    ∙ sym (mul_assoc u (2 ^ l) (2 ^ c)) in
    (h.0, g ∙ ap (λ (x : ℕ). x * 2 ^ c) h.1 ∙ mul_right_comm a (I.down y) (2 ^ c))

module _ (f : I.Format) where
  -- ---- the value of a pattern

  same_fields : (s : Bool) (x t : ℕ) → Same (at f of_fields s x t) (I.of_fields f s x t)
  unfolding of_fields I.of_fields
  same_fields s zero t =
      subst (λ (n : ℕ). HasValue (I.odd (I.prec f) s t 0 (I.low f)) s (n * 2 ^ at f unit) (2 ^ 1074)) (mul-one t)
      (scale (I.odd (I.prec f) s t 0 (I.low f)) s (t * 2 ^ 0) (I.low f) (at f unit) 1074 (low_unit f) (odd_sign (I.prec f) s t 0 (I.low f)))
  same_fields s (suc x) t = go (eqb (suc x) (I.ones f)) (eqb t 0)
    where
      c : ℕ
      c = at f unit

      w : ℕ
      w = I.hid f + t

      special : (z : Bool) → Same (cond z (inf s) nan) (cond z (I.inf s) I.nan)
      special true = refl
      special false = tt

      go : (o z : Bool) → Same (cond o (cond z (inf s) nan) (fin s (w * 2 ^ (x + c))))
          (cond o (cond z (I.inf s) I.nan) (I.odd (I.prec f) s w x (I.low f)))
      go true z = special z
      go false z =
          subst (λ (n : ℕ). HasValue (I.odd (I.prec f) s w x (I.low f)) s n (2 ^ 1074))
          (mul_assoc w (2 ^ x) (2 ^ c) ∙ ap (λ (y : ℕ). w * y) (sym (pow-add 2 x c)))
          (scale (I.odd (I.prec f) s w x (I.low f)) s (w * 2 ^ x) (I.low f) c 1074 (low_unit f) (odd_sign (I.prec f) s w x (I.low f)))

  field_same : (b : ℕ) → b % I.top f / I.hid f ≡ b / I.hid f % (2 * I.emax f + 2)
  field_same b =
      let g : 0 < 2 * I.emax f + 2 = omega arith in
      ap (λ (x : ℕ). b % x / I.hid f) (top_same f ∙ mul_comm (I.hid f) (2 * I.emax f + 2))
      ∙ ap (λ (x : ℕ). x / I.hid f) (mod-mul b g (pow_pos (I.prec f - 1)))
      ∙ digits_div (b / I.hid f % (2 * I.emax f + 2)) (mod-lt b (pow_pos (I.prec f - 1)))

  value_agrees : (b : ℕ) → Same (at f value b) (I.of_bits f b)
  unfolding value I.of_bits
  value_agrees b =
      let p = I.prec f in
      let m = I.emax f in
      subst₂ (λ (s : Bool) (x : ℕ). Same (of_fields p m (leb (top p m) b) (b / hid p % (2 * m + 2)) (b % hid p))
      (I.of_fields f s x (b % hid p)))
      (ap (λ (y : ℕ). leb y b) (sym (top_same f))) (sym (field_same b))
      (same_fields (leb (top p m) b) (b / hid p % (2 * m + 2)) (b % hid p))

  -- ---- rounding

  -- the pattern of a value, from its magnitude n in units of the smallest value
  bits_of_value : (x : I.Float) (s : Bool) (n : ℕ) → HasValue x s n (2 ^ I.low f)
      → I.to_bits f x ≡ cond s (I.top f) 0 + (size n - I.prec f) * I.hid f + n / 2 ^ (size n - I.prec f)
  unfolding I.to_bits
  bits_of_value I.nan s n h = absurd h
  bits_of_value (I.inf t) s n h = absurd h
  bits_of_value (I.fin t m e) s n h = rw (h.0, h.1, mul-div_cancel n (down_pos e))

  units_bits : (s : Bool) (q k : ℕ) → q ≤ 2 ^ I.prec f → (k ≡ 0) ⊎ (I.hid f ≤ q)
      → I.to_bits f (I.units f s q k) ≡ cond s (at f top) 0 + min (k * I.hid f + q) (I.ones f * I.hid f)
  unfolding I.to_bits I.units
  units_bits s q k Q h = go (le_or_lt (2 ^ (I.low f + suc (I.emax f))) (q * 2 ^ k))
    where
      p : ℕ
      p = I.prec f

      b : 2 ^ (I.low f + suc (I.emax f)) ≡ 2 ^ ((I.prec f - 1) + 2 * I.emax f)
      b = ap (λ (x : ℕ). 2 ^ x) (limit f)

      go : (2 ^ (I.low f + suc (I.emax f)) ≤ q * 2 ^ k) ⊎ (q * 2 ^ k < 2 ^ (I.low f + suc (I.emax f)))
          → I.to_bits f (I.units f s q k) ≡ cond s (at f top) 0 + min (k * I.hid f + q) (I.ones f * I.hid f)
      go (inl l) =
          let v = gets_infinite p k q (one_digit f) h Q (I.emax f) (some_exponents f) (le_trans (le_of_eq (sym b)) l) in
          rw (le-ltb (q * 2 ^ k) (2 ^ (I.low f + suc (I.emax f))) l, min-eq_right v, top_same f)
      go (inr l) =
          let v = stays_finite p k q (one_digit f) h Q (I.emax f) (some_exponents f) (lt_of_lt_of_le l (le_of_eq b)) in
          bits_of_value (I.units f s q k) s (q * 2 ^ k) (units_val f s q k l)
          ∙ add_assoc (cond s (I.top f) 0) ((size (q * 2 ^ k) - p) * I.hid f) (q * 2 ^ k / 2 ^ (size (q * 2 ^ k) - p))
          ∙ ap₂ (λ (x y : ℕ). cond s x 0 + y) (top_same f) (taken_apart p k q (one_digit f) h Q ∙ sym (min-eq_left (le_of_lt v)))

  round_agrees : (s : Bool) (n : ℕ) → at f bits (fin s n) ≡ I.to_bits f (I.round f s n (2 ^ 1074))
  unfolding bits packed dropped
  round_agrees s n =
      let c = at f unit in
      let k = at f dropped n in
      let g : I.low f ≤ 1074 = omega (arith, low_unit f) in
      let d : 1074 - I.low f ≡ c = omega (arith, low_unit f) in
      let z : size (n * 2 ^ I.low f / 2 ^ 1074) - I.prec f ≡ k = ap (λ (x : ℕ). size x - I.prec f)
      (cut_down n (I.low f) 1074 g ∙ ap (λ (x : ℕ). n / 2 ^ x) d) in
      let e : closest (n * 2 ^ I.low f) (2 ^ 1074 * 2 ^ k) ≡ closest n (2 ^ (c + k)) =
      closest_same (n * 2 ^ I.low f) (2 ^ 1074 * 2 ^ k) n (2 ^ (c + k)) (mul-pos (pow_pos 1074) (pow_pos k)) (pow_pos (c + k))
      (shift_eq n (I.low f) c k 1074 (low_unit f)) in
      sym (ap (I.to_bits f) (round_is f s n (2 ^ 1074) ∙ ap (λ (x : ℕ). I.units f s (closest (n * 2 ^ I.low f) (2 ^ 1074 * 2 ^ x)) x) z
      ∙ ap (λ (x : ℕ). I.units f s x k) e)
      ∙ units_bits s (closest n (2 ^ (c + k))) k (kept_le (I.prec f) (I.emax f) n k refl) (kept_ge (I.prec f) (I.emax f) n (one_digit f)))

  nan_agrees : at f bits nan ≡ I.to_bits f I.nan
  unfolding bits I.to_bits
  nan_agrees = refl

  inf_agrees : (s : Bool) → at f bits (inf s) ≡ I.to_bits f (I.inf s)
  unfolding bits I.to_bits
  inf_agrees s = rw (top_same f)

  -- ---- conversions

  -- a fraction a / b that is the same number
  of_fraction : (s : Bool) (a b n : ℕ) → 0 < b → a * 2 ^ 1074 ≡ n * b → at f bits (fin s n) ≡ I.to_bits f (I.round f s a b)
  of_fraction s a b n h e = round_agrees s n ∙ ap (I.to_bits f) (sym (round_same f s a b n (2 ^ 1074) h (pow_pos 1074) e))

  converts : (v : Num) (x : I.Float) → Same v x → at f bits v ≡ I.to_bits f (convert f x)
  unfolding convert
  converts nan I.nan h = nan_agrees
  converts nan (I.inf t) h = absurd h
  converts nan (I.fin t m e) h = absurd h
  converts (inf s) I.nan h = absurd h
  converts (inf s) (I.inf t) h = rw h (inf_agrees s)
  converts (inf s) (I.fin t m e) h = absurd h
  converts (fin s n) I.nan h = absurd h
  converts (fin s n) (I.inf t) h = absurd h
  converts (fin s n) (I.fin t m e) h = rw h.0 (of_fraction s (m * I.up e) (I.down e) n (down_pos e) h.1)

  whole_agrees : (s : Bool) (n : ℕ) → at f bits (integer s n) ≡ I.to_bits f (I.round f s n 1)
  unfolding integer
  whole_agrees s n = of_fraction s n 1 (n * 2 ^ 1074) (pow_pos 0) (sym (mul-one (n * 2 ^ 1074)))

-- ---- so the two agree, ours at the format f and lib.Ieee's f

pub record Agrees (f : I.Format) : Type 0 where
  -- a pattern has the same value
  pub same_value : (b : ℕ) → Same (at f value b) (I.of_bits f b)
  -- a number, n units of 2 ^ -1074, is rounded to the same pattern
  pub same_rounding : (s : Bool) (n : ℕ) → at f bits (fin s n) ≡ I.to_bits f (I.round f s n (2 ^ 1074))
  -- NaN and the infinities have the same patterns
  pub same_nan : at f bits nan ≡ I.to_bits f I.nan
  pub same_inf : (s : Bool) → at f bits (inf s) ≡ I.to_bits f (I.inf s)
  -- a pattern of either format is converted to the same pattern
  pub same_conversion : (g : I.Format) (b : ℕ) → at f bits (at g value b) ≡ I.to_bits f (convert f (I.of_bits g b))
  -- so is a whole number, n and - (n + 1)
  pub same_positive : (n : ℕ) → at f bits (integer false n) ≡ I.to_bits f (I.of_int f (pos n))
  pub same_negative : (n : ℕ) → at f bits (integer true (suc n)) ≡ I.to_bits f (I.of_int f (negsuc n))

pub agrees : (f : I.Format) → Agrees f
unfolding I.of_int
agrees f = record {
  same_value = value_agrees f;
  same_rounding = round_agrees f;
  same_nan = nan_agrees f;
  same_inf = inf_agrees f;
  same_conversion = λ (g : I.Format) (b : ℕ). converts f (at g value b) (I.of_bits g b) (value_agrees g b);
  same_positive = whole_agrees f false;
  same_negative = λ (n : ℕ). whole_agrees f true (suc n);
}
