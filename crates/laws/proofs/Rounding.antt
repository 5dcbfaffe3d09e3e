-- The rounding of specs/Floats is right, in every format: the pattern of a number stands for the nearest value of the
-- format, at a tie for the one with an even last digit, and from half a unit in the last place above the largest value
-- on for an infinity; and a number that the format has is kept.
use mathlib.Core.Path.{◌≡◌, refl, sym, ap, ◌∙◌, subst}
use mathlib.Core.Logic.{◌⊎◌, inl, inr}
use mathlib.Core.Bool.{Bool, true, false, cond}
use Prim.Native.Nat.{ℕ, zero, suc, ◌+◌, ◌-◌, ◌*◌, ◌/◌, ◌%◌, ◌^◌, ◌≤◌, ◌<◌}
use native.Mathlib.Nat.{le_trans, le_of_eq, le_refl, le_of_lt, lt_of_lt_of_le, lt_of_le_of_lt, eq-or-lt_of_le, eq-zero-or-pos, zero-add}
use native.Mathlib.Nat.{add-zero, add_comm, mul_comm, mul_assoc, mul-one, suc-mul}
use native.Mathlib.Nat.{two-pow-succ, mul-le-mul_right, lt_of_mul-lt-mul_right, le_of_mul-le-mul_right, div-add-mod', le-div_iff_mul-le}
use native.Mathlib.Nat.{mod-lt, mod-eq_of_lt, mod-eq-sub-mod, add-mod_left, min-eq_left, min-eq_right}
use native.Mathlib.Omega.{arith}
use lib.Dec.{leb, eqb}
use lib.Arith.{digits_div, digits_mod, mod-mul}
use lib.Pow.{pow_pos, pow_mono, pow-add, shl_lt, suc_ones, ones_lt}
use lib.Ieee.{size}
use lib.Ieee.Digits.{size-le}
use lib.Ieee.Nearest.{closest_mono}
use borrow.Author.Tests.{le-leb, lt-leb, lt-ltb, le-ltb, eq-eqb, ne_eqb}
use Rattle.meaning.specs.Floats.{binary16, binary32, binary64, Num, nan, inf, fin, closest, unit, hid, ones, top, dropped, packed, bits}
use Rattle.meaning.specs.Floats.{of_fields, value, finite, largest}
use Rattle.laws.proofs.Digits.{le_or_lt, Format, half_twice, closest_down, closest_tie, closest_up, closest_shl, closest_shr}
use Rattle.laws.proofs.Digits.{raised, cut_up}
use Rattle.laws.proofs.Digits.{size_gt, size_kept, top_is, kept_le, kept_ge, reaches, leading, stays_finite, gets_infinite}

-- the distance between the format's two numbers beside n, which are multiples of it: the weight of the last digit that is kept of n
abbrev pub step : ℕ → ℕ → ℕ → ℕ
step p emax n = 2 ^ (unit p emax + dropped p emax n)

-- the number that n is rounded to, were the format's exponents without end
unfoldable pub rounded : ℕ → ℕ → ℕ → ℕ
rounded p emax n = closest n (step p emax n) * step p emax n

-- The overflow threshold: half a unit in the last place above the largest finite value. In binary32 that is the largest
-- f32 plus half its last place, (2 ^ 25 - 1) * 2 ^ 103 or 2 ^ 128 - 2 ^ 103; here it counts units of 2 ^ -1074, as all
-- numbers do.
unfoldable pub threshold : ℕ → ℕ → ℕ
threshold p emax = (2 ^ (p + 1) - 1) * 2 ^ (1074 + emax - p)

-- how far apart two numbers are
abbrev pub apart : ℕ → ℕ → ℕ
apart a b = (a - b) + (b - a)

-- ---- what it is for the rounding to be right

pub record Right (p emax : ℕ) : Type 0 where
  -- below the threshold a number's pattern stands for the rounded number with the number's sign, and is a finite number's
  pub below : (s : Bool) (n : ℕ) → n < threshold p emax → value p emax (bits p emax (fin s n)) ≡ fin s (rounded p emax n)
  pub below_finite : (s : Bool) (n : ℕ) → n < threshold p emax → finite p emax (bits p emax (fin s n)) ≡ true
  -- from the threshold on it stands for the infinity with that sign, and is not a finite number's
  pub above : (s : Bool) (n : ℕ) → threshold p emax ≤ n → value p emax (bits p emax (fin s n)) ≡ inf s
  pub above_finite : (s : Bool) (n : ℕ) → threshold p emax ≤ n → finite p emax (bits p emax (fin s n)) ≡ false
  -- no value of the format is nearer to n than the rounded number: not the value of any pattern,
  pub nearest_value : (n b m : ℕ) (s : Bool) → value p emax b ≡ fin s m → apart (rounded p emax n) n ≤ apart m n
  -- and no number of p digits in any place from the format's lowest on
  pub nearest : (n j i : ℕ) → j < 2 ^ p → apart (rounded p emax n) n ≤ apart (j * 2 ^ (unit p emax + i)) n
  -- where n lies half way between two neighbours, the last of the digits kept is even
  pub even : (n : ℕ) → n % step p emax n * 2 ≡ step p emax n → closest n (step p emax n) % 2 ≡ 0
  -- a value of the format, or of one with no more digits and no larger exponents, is kept
  pub kept : (p₀ emax₀ : ℕ) → Format p₀ emax₀ → 1 ≤ emax₀ → p₀ ≤ p → emax₀ ≤ emax → (b : ℕ)
      → value p emax (bits p emax (value p₀ emax₀ b)) ≡ value p₀ emax₀ b
  -- a pattern that is read and rounded is the same pattern again, unless it is a NaN's
  pub back : (b : ℕ) → b < 2 * top p emax → (value p emax b ≡ nan → ⊥) → bits p emax (value p emax b) ≡ b
  -- the infinities and NaN stay what they are
  pub infinity : (s : Bool) → value p emax (bits p emax (inf s)) ≡ inf s
  pub not_a_number : value p emax (bits p emax nan) ≡ nan

-- ---- what a pattern's value can be: q in the place k, where q has its leading one or k is the lowest place; an infinity; or NaN

-- with the pattern less its sign
data Read (p emax : ℕ) (s : Bool) : Num → ℕ → Type 0 where
  number : (k q : ℕ) → k < 2 * emax → q < 2 ^ p → (k ≡ 0) ⊎ (hid p ≤ q) → Read p emax s (fin s (q * 2 ^ (k + unit p emax))) (k * hid p + q)
  infinite : Read p emax s (inf s) (ones emax * hid p)
  none : {b : ℕ} → Read p emax s nan b

module _ (p emax : ℕ) (F : Format p emax) (E : 1 ≤ emax) where
  read_fields : (s : Bool) (x t : ℕ) → x < 2 * emax + 2 → t < hid p → Read p emax s (of_fields p emax s x t) (x * hid p + t)
  unfolding of_fields
  read_fields s zero t l h =
      subst (λ (y : ℕ). Read p emax s (fin s (t * 2 ^ y)) (0 * hid p + t)) (zero-add (unit p emax))
      (number 0 t (omega arith) (omega (arith, half_twice p F.some_digits)) (inl refl))
  read_fields s (suc x) t l h = go (le_or_lt (ones emax) (suc x))
    where
      special : suc x ≡ ones emax → (t ≡ 0) ⊎ (0 < t) → Read p emax s (cond (eqb t 0) (inf s) nan) (suc x * hid p + t)
      special o (inl z) = rw (o, z, add-zero) infinite
      special o (inr z) = rw (ne_eqb t 0 (omega arith)) none

      go : (ones emax ≤ suc x) ⊎ (suc x < ones emax) → Read p emax s (of_fields p emax s (suc x) t) (suc x * hid p + t)
      go (inl g) = let o : suc x ≡ ones emax = omega arith in rw (eq-eqb (suc x) (ones emax) o) (special o (eq-zero-or-pos t))
      go (inr g) =
          let e : x * hid p + (hid p + t) ≡ suc x * hid p + t = omega arith in
          rw (ne_eqb (suc x) (ones emax) (omega arith))
          (subst (λ (y : ℕ). Read p emax s (fin s ((hid p + t) * 2 ^ (x + unit p emax))) y) e
          (number x (hid p + t) (omega arith) (omega (arith, half_twice p F.some_digits)) (inr (omega arith))))

  read : (b : ℕ) → Read p emax (leb (top p emax) b) (value p emax b) (b / hid p % (2 * emax + 2) * hid p + b % hid p)
  unfolding value
  read b = read_fields (leb (top p emax) b) (b / hid p % (2 * emax + 2)) (b % hid p) (mod-lt (b / hid p) (omega arith))
      (mod-lt b (pow_pos (p - 1)))

-- ---- the value of a pattern put together

-- of a sign and the rest
abbrev signed : ℕ → ℕ → Bool → ℕ → ℕ
signed p emax s b = cond s (top p emax) 0 + b

module _ (p emax : ℕ) (F : Format p emax) where
  -- of a sign, a field and a fraction
  at_fields : (s : Bool) (x t : ℕ) → x < 2 * emax + 2 → t < hid p → value p emax (signed p emax s (x * hid p + t)) ≡ of_fields p emax s x t
  unfolding value
  at_fields true x t l h =
      let w = 2 * emax + 2 in
      let e : top p emax + (x * hid p + t) ≡ (w + x) * hid p + t = omega arith in
      let g : top p emax ≤ (w + x) * hid p + t = omega arith in
      ap (value p emax) e ∙ rw (
        le-leb (top p emax) ((w + x) * hid p + t) g,
        digits_div (w + x) h,
        digits_mod (w + x) h,
        add-mod_left w x,
        mod-eq_of_lt l,
      )
  at_fields false x t l h =
      let g : x * hid p + t < top p emax = omega (arith, mul-le-mul_right (hid p) l) in
      rw (zero-add, lt-leb (top p emax) (x * hid p + t) g, digits_div x h, digits_mod x h, mod-eq_of_lt l)

  -- the largest field is an infinity's or a NaN's
  special : (s : Bool) (t : ℕ) → t < hid p → value p emax (signed p emax s (ones emax * hid p + t)) ≡ cond (eqb t 0) (inf s) nan
  unfolding of_fields
  special s t h =
      let o : ones emax ≡ suc (2 * emax) = omega arith in
      at_fields s (ones emax) t (omega arith) h ∙ ap (λ (y : ℕ). of_fields p emax s y t) o ∙ rw (eq-eqb (suc (2 * emax)) (ones emax) (sym o))

  inf_is : (s : Bool) → value p emax (bits p emax (inf s)) ≡ inf s
  unfolding bits
  inf_is s = ap (λ (y : ℕ). value p emax (signed p emax s y)) (sym (add-zero (ones emax * hid p))) ∙ special s 0 (pow_pos (p - 1))

  nan_is : 2 ≤ p → value p emax (bits p emax nan) ≡ nan
  unfolding bits
  nan_is P =
      let g : 1 ≤ p - 1 = omega arith in
      let two : 2 ≤ hid p = pow_mono g in
      let t : hid p / 2 < hid p = omega arith in
      ap (value p emax) (sym (zero-add (ones emax * hid p + hid p / 2))) ∙ special false (hid p / 2) t
      ∙ rw (ne_eqb (hid p / 2) 0 (omega arith))

  -- the digits q with k places below them
  module _ (s : Bool) (k q : ℕ) (l : k * hid p + q < ones emax * hid p) where
    abbrev Stands : Type 0
    Stands = value p emax (signed p emax s (k * hid p + q)) ≡ fin s (q * 2 ^ (k + unit p emax))

    place : (x t : ℕ) → k * hid p + q ≡ suc x * hid p + t → t < hid p → value p emax (signed p emax s (k * hid p + q)) ≡ fin s
        ((hid p + t) * 2 ^ (x + unit p emax))
    unfolding of_fields
    place x t e h =
        let g : suc x < ones emax = lt_of_mul-lt-mul_right (hid p) (omega arith) in
        ap (λ (y : ℕ). value p emax (signed p emax s y)) e ∙ at_fields s (suc x) t (omega arith) h
        ∙ rw (ne_eqb (suc x) (ones emax) (omega arith))

    subnormal : k ≡ 0 → q < hid p → Stands
    unfolding of_fields
    subnormal z h = rw z (at_fields s 0 q (omega arith) h ∙ rw zero-add)

    normal : hid p ≤ q → q < 2 ^ p → Stands
    normal g h =
        let t : q - hid p < hid p = omega (arith, half_twice p F.some_digits) in
        let a : hid p + (q - hid p) ≡ q = omega arith in
        place k (q - hid p) (omega arith) t ∙ ap (λ (y : ℕ). fin s (y * 2 ^ (k + unit p emax))) a

    carried : q ≡ 2 ^ p → Stands
    carried e =
        let m : hid p * 2 ^ (suc k + unit p emax) ≡ q * 2 ^ (k + unit p emax) =
        rw e (sym (pow-add 2 (p - 1) (suc k + unit p emax)) ∙ ap (λ (y : ℕ). 2 ^ y) (omega arith) ∙ pow-add 2 p (k + unit p emax)) in
        place (suc k) 0 (omega (arith, half_twice p F.some_digits)) (pow_pos (p - 1)) ∙ ap (fin s) (rw add-zero m)

    stands : q ≤ 2 ^ p → (k ≡ 0) ⊎ (hid p ≤ q) → Stands
    stands Q h = go (le_or_lt (hid p) q) (eq-or-lt_of_le Q) h
      where
        go : (hid p ≤ q) ⊎ (q < hid p) → (q ≡ 2 ^ p) ⊎ (q < 2 ^ p) → (k ≡ 0) ⊎ (hid p ≤ q) → Stands
        go (inl g) (inl e) h = carried e
        go (inl g) (inr w) h = normal g w
        go (inr g) w (inl z) = subnormal z g
        go (inr g) w (inr y) = absurd (omega arith)

-- ---- the value of a rounded number's pattern, by the size of the rounded number

module _ (p emax : ℕ) (F : Format p emax) (E : 1 ≤ emax) (s : Bool) (n : ℕ) where
  abbrev gone : ℕ
  gone = dropped p emax n

  abbrev digits : ℕ
  digits = closest n (step p emax n)

  few : digits ≤ 2 ^ p
  few = kept_le p emax n gone refl

  lead : (gone ≡ 0) ⊎ (hid p ≤ digits)
  lead = kept_ge p emax n F.some_digits

  in_units : rounded p emax n ≡ digits * 2 ^ gone * 2 ^ unit p emax
  unfolding rounded
  in_units = ap (λ (x : ℕ). digits * x) (ap (λ (x : ℕ). 2 ^ x) (add_comm (unit p emax) gone) ∙ pow-add 2 gone (unit p emax))
      ∙ sym (mul_assoc digits (2 ^ gone) (2 ^ unit p emax))

  bound : 2 ^ (1075 + emax) ≡ 2 ^ ((p - 1) + 2 * emax) * 2 ^ unit p emax
  bound = ap (λ (x : ℕ). 2 ^ x) (omega arith) ∙ pow-add 2 ((p - 1) + 2 * emax) (unit p emax)

  -- the sign can be taken off again
  unsigned : (b : ℕ) → b ≤ ones emax * hid p → signed p emax s b % top p emax ≡ b
  unsigned b h = go s
    where
      l : b < top p emax
      l = omega (arith, top_is p emax, pow_pos (p - 1))

      go : (s : Bool) → signed p emax s b % top p emax ≡ b
      go true = add-mod_left (top p emax) b ∙ mod-eq_of_lt l
      go false = rw zero-add (mod-eq_of_lt l)

  module _ (l : rounded p emax n < 2 ^ (1075 + emax)) where
    under : gone * hid p + digits < ones emax * hid p
    under = stays_finite p gone digits F.some_digits lead few emax E
        (lt_of_mul-lt-mul_right (2 ^ unit p emax) (rw (← in_units, ← bound) l))

    bits_under : bits p emax (fin s n) ≡ signed p emax s (gone * hid p + digits)
    unfolding bits packed
    bits_under = ap (signed p emax s) (min-eq_left (le_of_lt under))

    value_under : value p emax (bits p emax (fin s n)) ≡ fin s (rounded p emax n)
    unfolding rounded
    value_under = ap (value p emax) bits_under ∙ stands p emax F s gone digits under few lead
        ∙ ap (λ (x : ℕ). fin s (digits * 2 ^ x)) (add_comm gone (unit p emax))

    finite_under : finite p emax (bits p emax (fin s n)) ≡ true
    unfolding finite
    finite_under = rw (bits_under, unsigned (gone * hid p + digits) (le_of_lt under))
        (lt-ltb (gone * hid p + digits) (ones emax * hid p) under)

  module _ (l : 2 ^ (1075 + emax) ≤ rounded p emax n) where
    over : ones emax * hid p ≤ gone * hid p + digits
    over = gets_infinite p gone digits F.some_digits lead few emax E
        (le_of_mul-le-mul_right (rw (← in_units, ← bound) l) (pow_pos (unit p emax)))

    bits_over : bits p emax (fin s n) ≡ bits p emax (inf s)
    unfolding bits packed
    bits_over = ap (signed p emax s) (min-eq_right over)

    value_over : value p emax (bits p emax (fin s n)) ≡ inf s
    value_over = ap (value p emax) bits_over ∙ inf_is p emax F s

    finite_over : finite p emax (bits p emax (fin s n)) ≡ false
    unfolding finite bits
    finite_over =
        let o = ones emax * hid p in
        rw (bits_over, unsigned o (le_refl o)) (le-ltb o o (le_refl o))

-- ---- the nearest: `closest` is one of the two multiples beside n, and the nearer of them

module _ (n u : ℕ) (U : 0 < u) where
  abbrev Down : Type 0
  Down = (closest n u * u ≡ n / u * u) × (n % u * 2 ≤ u)

  abbrev Up : Type 0
  Up = (closest n u * u ≡ n / u * u + u) × (u ≤ n % u * 2)

  up_by : closest n u ≡ n / u + 1 → closest n u * u ≡ n / u * u + u
  up_by e = ap (λ (x : ℕ). x * u) e ∙ omega arith

  beside : Down ⊎ Up
  beside = go (le_or_lt (n % u * 2) u)
    where
      tie : n % u * 2 ≡ u → (n / u % 2 ≡ 0) ⊎ (0 < n / u % 2) → Down ⊎ Up
      tie e (inl z) = inl (ap (λ (x : ℕ). x * u) (closest_tie n u e ∙ omega arith), le_of_eq e)
      tie e (inr z) = inr (up_by (closest_tie n u e ∙ omega arith), le_of_eq (sym e))

      less : (n % u * 2 ≡ u) ⊎ (n % u * 2 < u) → Down ⊎ Up
      less (inl e) = tie e (eq-zero-or-pos (n / u % 2))
      less (inr l) = inl (ap (λ (x : ℕ). x * u) (closest_down n u l), le_of_lt l)

      go : (n % u * 2 ≤ u) ⊎ (u < n % u * 2) → Down ⊎ Up
      go (inl l) = less (eq-or-lt_of_le l)
      go (inr l) = inr (up_by (closest_up n u l), le_of_lt l)

  nearest_multiple : (a : ℕ) → apart (closest n u * u) n ≤ apart (a * u) n
  nearest_multiple a = go beside (le_or_lt a (n / u))
    where
      go : Down ⊎ Up → (a ≤ n / u) ⊎ (n / u < a) → apart (closest n u * u) n ≤ apart (a * u) n
      go (inl d) (inl l) = omega (arith, div-add-mod' n u, mod-lt n U, mul-le-mul_right u l)
      go (inl d) (inr l) = omega (arith, div-add-mod' n u, mod-lt n U, mul-le-mul_right u l)
      go (inr d) (inl l) = omega (arith, div-add-mod' n u, mod-lt n U, mul-le-mul_right u l)
      go (inr d) (inr l) = omega (arith, div-add-mod' n u, mod-lt n U, mul-le-mul_right u l)

-- so is the rounded number among the format's
module _ (p emax : ℕ) (F : Format p emax) (E : 1 ≤ emax) (n : ℕ) where
  best : (j i : ℕ) → j < 2 ^ p → apart (rounded p emax n) n ≤ apart (j * 2 ^ (unit p emax + i)) n
  unfolding rounded
  best j i l = go (le_or_lt k i)
    where
      c : ℕ
      c = unit p emax

      k : ℕ
      k = dropped p emax n

      u : ℕ
      u = step p emax n

      go : (k ≤ i) ⊎ (i < k) → apart (closest n u * u) n ≤ apart (j * 2 ^ (c + i)) n
      go (inl g) =
          let s : (i - k) + (c + k) ≡ c + i = omega arith in
          let e : j * 2 ^ (i - k) * u ≡ j * 2 ^ (c + i) = mul_assoc j (2 ^ (i - k)) u
          ∙ ap (λ (x : ℕ). j * x) (sym (pow-add 2 (i - k) (c + k)) ∙ ap (λ (x : ℕ). 2 ^ x) s) in
          rw (← e) (nearest_multiple n u (pow_pos (c + k)) (j * 2 ^ (i - k)))
      go (inr g) =
          let s : p + (c + i) ≤ (p - 1) + (c + k) = omega arith in
          let v : j * 2 ^ (c + i) < hid p * u = lt_of_lt_of_le (shl_lt p (c + i) l)
          (le_trans (pow_mono s) (le_of_eq (pow-add 2 (p - 1) (c + k)))) in
          let b : hid p * u ≤ n = reaches p emax n F.some_digits (omega arith) in
          omega (arith, nearest_multiple n u (pow_pos (c + k)) (hid p))

  best_value : (b m : ℕ) (s : Bool) → value p emax b ≡ fin s m → apart (rounded p emax n) n ≤ apart m n
  best_value b m s e = go (read p emax F E b) e
    where
      go : {t : Bool} {v : Num} {a : ℕ} → Read p emax t v a → v ≡ fin s m → apart (rounded p emax n) n ≤ apart m n
      go (number k q g l h) e =
          let w : q * 2 ^ (k + unit p emax) ≡ m = cc in
          subst (λ (a : ℕ). apart (rounded p emax n) n ≤ apart a n) (ap (λ (a : ℕ). q * 2 ^ a) (add_comm (unit p emax) k) ∙ w) (best q k l)
      go infinite e = absurd (let z : ◌≡◌ {A = ℕ} 0 1 = cc in omega arith)
      go none e = absurd (let z : ◌≡◌ {A = ℕ} 0 1 = cc in omega arith)

  tie_even : n % step p emax n * 2 ≡ step p emax n → closest n (step p emax n) % 2 ≡ 0
  tie_even e = let t = closest_tie n (step p emax n) e in omega arith

-- ---- the threshold: below it n is rounded to less than 2 ^ (emax + 1), and from there on to that or more

one_less : (a b : ℕ) → (2 ^ a - 1) * 2 ^ b + 2 ^ b ≡ 2 ^ (a + b)
one_less a b = sym (suc-mul (2 ^ a - 1) (2 ^ b)) ∙ ap (λ (x : ℕ). x * 2 ^ b) (suc_ones a) ∙ sym (pow-add 2 a b)

-- with h for half of u, l for the largest value, m for the next power of two, t for the threshold and r for what n is rounded to
nearer : (h u l m t r n : ℕ) → 0 < h → u ≡ h + h → l + u ≡ m → t + h ≡ m → n < t → apart r n ≤ apart l n → r < m
nearer h u l m t r n z a b e d g = omega arith

between : (h u l m t : ℕ) → u ≡ h + h → l + u ≡ m → t + h ≡ m → t ≡ l + h
between h u l m t a b e = omega arith

module _ (p emax : ℕ) (F : Format p emax) (E : 1 ≤ emax) where
  -- the place of the largest values' last digit, and of its half
  abbrev last : ℕ
  last = unit p emax + (2 * emax - 1)

  abbrev half : ℕ
  half = 1074 + emax - p

  last_is : last ≡ suc half
  last_is = omega arith

  whole_is : p + last ≡ 1075 + emax
  whole_is = omega arith

  two_halves : 2 ^ last ≡ 2 ^ half + 2 ^ half
  two_halves = ap (λ (x : ℕ). 2 ^ x) last_is ∙ two-pow-succ half

  largest_under : (2 ^ p - 1) * 2 ^ last + 2 ^ last ≡ 2 ^ (1075 + emax)
  largest_under = one_less p last ∙ ap (λ (x : ℕ). 2 ^ x) whole_is

  threshold_under : threshold p emax + 2 ^ half ≡ 2 ^ (1075 + emax)
  unfolding threshold
  threshold_under = one_less (p + 1) half ∙ ap (λ (x : ℕ). 2 ^ x) (omega arith)

  -- the threshold is the largest value and half of its last place, where that value is a whole number, as in the three formats
  pub threshold_is : p ≤ emax + 1 → threshold p emax ≡ largest p emax * 2 ^ 1074 + 2 ^ (1074 + emax - p)
  unfolding largest
  threshold_is h =
      let a = 2 ^ p - 1 in
      let e : a * 2 ^ (emax + 1 - p) * 2 ^ 1074 ≡ a * 2 ^ last =
      mul_assoc a (2 ^ (emax + 1 - p)) (2 ^ 1074) ∙ ap (λ (x : ℕ). a * x)
      (sym (pow-add 2 (emax + 1 - p) 1074) ∙ ap (λ (x : ℕ). 2 ^ x) (omega arith)) in
      rw e (between (2 ^ half) (2 ^ last) (a * 2 ^ last) (2 ^ (1075 + emax)) (threshold p emax) two_halves largest_under threshold_under)

  -- at the threshold itself there is a tie, and 2 ^ p is even
  closest_threshold : closest (threshold p emax) (2 ^ last) ≡ 2 ^ p
  unfolding threshold
  closest_threshold =
      let a = 2 ^ (p + 1) - 1 in
      let g : half ≤ last = omega (arith, last_is) in
      let o : last - half ≡ 1 = omega (arith, last_is) in
      let w : 2 ^ (p + 1) ≡ 2 ^ p * 2 = pow-add 2 p 1 in
      let e : 2 ^ p ≡ hid p * 2 = sym (half_twice p F.some_digits) in
      let z = pow_pos (p - 1) in
      let d : a / 2 ≡ 2 ^ p - 1 = omega arith in
      let v : 2 ^ p - 1 ≡ (hid p - 1) * 2 + 1 = omega arith in
      let r : a / 2 % 2 ≡ 1 = rw (d, v) (digits_mod (hid p - 1) (le_refl 2)) in
      closest_shr a half last g ∙ ap (λ (x : ℕ). closest a (2 ^ x)) o ∙ closest_tie a 2 (omega arith) ∙ omega arith

  module _ (n : ℕ) where
    round_below : n < threshold p emax → rounded p emax n < 2 ^ (1075 + emax)
    round_below h =
        nearer (2 ^ half) (2 ^ last) ((2 ^ p - 1) * 2 ^ last) (2 ^ (1075 + emax)) (threshold p emax) (rounded p emax n) n
        (pow_pos half) two_halves largest_under threshold_under h (best p emax F E n (2 ^ p - 1) (2 * emax - 1) (ones_lt p))

    -- from the threshold on the places dropped reach the largest values' last
    many : threshold p emax ≤ n → 2 * emax - 1 ≤ dropped p emax n
    unfolding dropped
    many h =
        let c = unit p emax in
        let j = (p - 1) + (2 * emax - 1) in
        let e : j + c ≡ 1074 + emax = omega arith in
        let g : half ≤ 1074 + emax = omega arith in
        let s : 1075 + emax ≡ suc (1074 + emax) = omega arith in
        let w : 2 ^ (1075 + emax) ≡ 2 ^ (1074 + emax) + 2 ^ (1074 + emax) = ap (λ (x : ℕ). 2 ^ x) s ∙ two-pow-succ (1074 + emax) in
        let b : 2 ^ (1074 + emax) ≤ n = middle (pow_mono g) threshold_under w h in
        let l : j < size (n / 2 ^ c) =
        size_gt (n / 2 ^ c) j ((le-div_iff_mul-le (pow_pos c)).1 (le_trans (le_of_eq (sym (pow-add 2 j c) ∙ ap (λ (x : ℕ). 2 ^ x) e)) b)) in
        omega arith
      where
        middle : {h m d t : ℕ} → h ≤ m → t + h ≡ d → d ≡ m + m → t ≤ n → m ≤ n
        middle a b e d = omega arith

    round_above : threshold p emax ≤ n → 2 ^ (1075 + emax) ≤ rounded p emax n
    unfolding rounded
    round_above h = go (eq-or-lt_of_le (many h))
      where
        c : ℕ
        c = unit p emax

        k : ℕ
        k = dropped p emax n

        go : (2 * emax - 1 ≡ k) ⊎ (2 * emax - 1 < k) → 2 ^ (1075 + emax) ≤ closest n (2 ^ (c + k)) * 2 ^ (c + k)
        go (inl e) =
            let m : 2 ^ p ≤ closest n (2 ^ last) =
            le_trans (le_of_eq (sym closest_threshold)) (closest_mono (threshold p emax) (2 ^ last) n (2 ^ last) (pow_pos last)
            (pow_pos last) (mul-le-mul_right (2 ^ last) h)) in
            subst (λ (x : ℕ). 2 ^ (1075 + emax) ≤ closest n (2 ^ (c + x)) * 2 ^ (c + x)) e
            (le_trans (le_of_eq (ap (λ (x : ℕ). 2 ^ x) (sym whole_is) ∙ pow-add 2 p last)) (mul-le-mul_right (2 ^ last) m))
        go (inr g) =
            let d : 1075 + emax ≤ (p - 1) + (c + k) = omega arith in
            le_trans (pow_mono d) (le_trans (le_of_eq (pow-add 2 (p - 1) (c + k)))
            (mul-le-mul_right (2 ^ (c + k)) (leading (kept_ge p emax n F.some_digits) (omega arith))))

-- ---- a number that the format has is kept

rounded_exact : (p emax m e : ℕ) → m < 2 ^ p → unit p emax ≤ e → rounded p emax (m * 2 ^ e) ≡ m * 2 ^ e
unfolding rounded dropped
rounded_exact p emax m e l g =
    let c = unit p emax in
    let k = size (m * 2 ^ e / 2 ^ c) - p in
    let w : size (m * 2 ^ e / 2 ^ c) ≤ p + (e - c) =
    size-le (m * 2 ^ e / 2 ^ c) (p + (e - c)) (subst (λ (x : ℕ). x < 2 ^ (p + (e - c))) (sym (cut_up m e c g)) (shl_lt p (e - c) l)) in
    let d : c + k ≤ e = omega arith in
    ap (λ (x : ℕ). x * 2 ^ (c + k)) (closest_shl m e (c + k) d) ∙ sym (raised m e (c + k) d)

-- the values of a format with no more digits and no larger exponents
module _ (p emax : ℕ) (F : Format p emax) (P : 2 ≤ p) (E : 1 ≤ emax) (p₀ emax₀ : ℕ) (F₀ : Format p₀ emax₀) (E₀ : 1 ≤ emax₀) (wide : p₀ ≤ p)
    (far : emax₀ ≤ emax) where
  value_kept : (b : ℕ) → value p emax (bits p emax (value p₀ emax₀ b)) ≡ value p₀ emax₀ b
  value_kept b = go (read p₀ emax₀ F₀ E₀ b)
    where
      go : {t : Bool} {v : Num} {a : ℕ} → Read p₀ emax₀ t v a → value p emax (bits p emax v) ≡ v
      go {t = s} (number k q g l h) =
          let e = k + unit p₀ emax₀ in
          let r : rounded p emax (q * 2 ^ e) ≡ q * 2 ^ e = rounded_exact p emax q e (lt_of_lt_of_le l (pow_mono wide)) (omega arith) in
          let b : p₀ + e ≤ 1075 + emax = omega arith in
          value_under p emax F E s (q * 2 ^ e) (lt_of_le_of_lt (le_of_eq r) (lt_of_lt_of_le (shl_lt p₀ e l) (pow_mono b))) ∙ ap (fin s) r
      go {t = s} infinite = inf_is p emax F s
      go none = nan_is p emax F P

-- ---- the pattern of a pattern's value

module _ (p emax : ℕ) (F : Format p emax) (E : 1 ≤ emax) where
  -- of the digits q with k places below them
  packed_at : (k q : ℕ) → k < 2 * emax → q < 2 ^ p → (k ≡ 0) ⊎ (hid p ≤ q) → packed p emax (q * 2 ^ (k + unit p emax)) ≡ k * hid p + q
  unfolding packed dropped
  packed_at k q b l h =
      let c = unit p emax in
      let g : c ≤ k + c = omega arith in
      let r : k + c - c ≡ k = omega arith in
      let d : dropped p emax (q * 2 ^ (k + c)) ≡ k =
      ap (λ (x : ℕ). size x - p) (cut_up q (k + c) c g ∙ ap (λ (x : ℕ). q * 2 ^ x) r) ∙ size_kept p k q F.some_digits h l in
      let g' : c + k ≤ k + c = omega arith in
      let r' : k + c - (c + k) ≡ 0 = omega arith in
      let e : closest (q * 2 ^ (k + c)) (2 ^ (c + k)) ≡ q = closest_shl q (k + c) (c + k) g' ∙ ap (λ (x : ℕ). q * 2 ^ x) r' ∙ mul-one q in
      rw (d, e) (min-eq_left (omega (arith, mul-le-mul_right (hid p) b, half_twice p F.some_digits)))

  -- a pattern is its sign and the rest
  parts : (b : ℕ) → b < 2 * top p emax → signed p emax (leb (top p emax) b) (b / hid p % (2 * emax + 2) * hid p + b % hid p) ≡ b
  parts b l = ap (signed p emax (leb (top p emax) b)) rest ∙ go (le_or_lt (top p emax) b)
    where
      rest : b / hid p % (2 * emax + 2) * hid p + b % hid p ≡ b % top p emax
      rest = sym (ap (λ (y : ℕ). b % y) (mul_comm (hid p) (2 * emax + 2)) ∙ mod-mul b (omega arith) (pow_pos (p - 1)))

      go : (top p emax ≤ b) ⊎ (b < top p emax) → signed p emax (leb (top p emax) b) (b % top p emax) ≡ b
      go (inl h) = let m : b - top p emax < top p emax = omega arith in rw (le-leb (top p emax) b h, mod-eq-sub-mod h, mod-eq_of_lt m)
          (omega arith)
      go (inr h) = rw (lt-leb (top p emax) b h, mod-eq_of_lt h, zero-add)

  value_back : (b : ℕ) → b < 2 * top p emax → (value p emax b ≡ nan → ⊥) → bits p emax (value p emax b) ≡ b
  unfolding bits
  value_back b l w = go (read p emax F E b) w ∙ parts b l
    where
      go : {t : Bool} {v : Num} {a : ℕ} → Read p emax t v a → (v ≡ nan → ⊥) → bits p emax v ≡ signed p emax t a
      go {t = s} (number k q g l h) w = ap (signed p emax s) (packed_at k q g l h)
      go infinite w = refl
      go none w = absurd (w refl)

-- ---- so it is right, in every format with two digits and two exponents at least

pub right : (p emax : ℕ) → Format p emax → 2 ≤ p → 1 ≤ emax → Right p emax
right p emax F P E = record {
  below = λ (s : Bool) (n : ℕ) (h : n < threshold p emax). value_under p emax F E s n (round_below p emax F E n h);
  below_finite = λ (s : Bool) (n : ℕ) (h : n < threshold p emax). finite_under p emax F E s n (round_below p emax F E n h);
  above = λ (s : Bool) (n : ℕ) (h : threshold p emax ≤ n). value_over p emax F E s n (round_above p emax F E n h);
  above_finite = λ (s : Bool) (n : ℕ) (h : threshold p emax ≤ n). finite_over p emax F E s n (round_above p emax F E n h);
  nearest_value = best_value p emax F E;
  nearest = best p emax F E;
  even = tie_even p emax F E;
  kept = value_kept p emax F P E;
  back = value_back p emax F E;
  infinity = inf_is p emax F;
  not_a_number = nan_is p emax F P;
}

format16 : Format 11 15
format16 = omega arith

format32 : Format 24 127
format32 = omega arith

pub right16 : Right 11 15
right16 = right 11 15 format16 (omega arith) (omega arith)

pub right32 : Right 24 127
right32 = right 24 127 format32 (omega arith) (omega arith)

pub right64 : Right 53 1023
right64 = right 53 1023 (omega arith) (omega arith) (omega arith)

-- a wider format keeps every value of a narrower one
pub widened_16_32 : (b : ℕ) → binary32 value (binary32 bits (binary16 value b)) ≡ binary16 value b
widened_16_32 = right32.kept 11 15 format16 (omega arith) (omega arith) (omega arith)

pub widened_16_64 : (b : ℕ) → binary64 value (binary64 bits (binary16 value b)) ≡ binary16 value b
widened_16_64 = right64.kept 11 15 format16 (omega arith) (omega arith) (omega arith)

pub widened_32_64 : (b : ℕ) → binary64 value (binary64 bits (binary32 value b)) ≡ binary32 value b
widened_32_64 = right64.kept 24 127 format32 (omega arith) (omega arith) (omega arith)
