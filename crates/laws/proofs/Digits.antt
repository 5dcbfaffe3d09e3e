-- Laws on binary digits, on rounding to the nearest whole number, and on the digits that a format keeps of a number.
use mathlib.Core.Path.{◌≡◌, refl, sym, ap, ◌∙◌, subst}
use mathlib.Core.Logic.{◌⊎◌, inl, inr}
use mathlib.Core.Bool.{not}
use Prim.Native.Nat.{ℕ, suc, ◌+◌, ◌-◌, ◌*◌, ◌/◌, ◌%◌, ◌^◌, ◌≤◌, ◌<◌, compare, Ordering}
use native.Mathlib.Nat.{le_antisymm, le_trans, le_of_eq, lt_of_lt_of_le, lt_of_le_of_lt, lt_of_not-le, not-le_of_lt, eq-or-lt_of_le}
use native.Mathlib.Nat.{zero-lt-suc, pow-suc, mul_assoc, mul-one, mul-le-mul}
use native.Mathlib.Nat.{mul-le-mul_right, le_of_mul-le-mul_right, lt_of_mul-lt-mul_right, le-div_iff_mul-le, div-eq_of_lt, mod-eq_of_lt}
use native.Mathlib.Nat.{div-one, mod-one, zero-div}
use native.Mathlib.Omega.{arith}
use native.Mathlib.Decide.{dec_le}
use lib.Dec.{T, is_le, compare_is_eq, eqb, leb→le, nleb→lt, eqb→eq, eqb_refl}
use lib.Arith.{lt_of_le-ne}
use lib.Pow.{pow_pos, pow-lt, pow_mono, pow-add, shr_lt, shl_lt, shr-shr, shl-shr}
use lib.Ieee.{size, nearest}
use lib.Ieee.Digits.{size-lt, size-le, size_reaches}
use lib.Ieee.Fits.{nearest-le, kept-lt}
use lib.Ieee.Nearest.{closest_same, div_same, nearest-ge}
use Rattle.meaning.specs.Floats.{closest, unit, hid, ones, top, dropped, packed}

pub le_or_lt : (a b : ℕ) → (a ≤ b) ⊎ (b < a)
le_or_lt a b = elim (dec_le a b) [ yes h ↦ inl h | no h ↦ inr (lt_of_not-le h) ]

-- ---- rounding to a whole number: what `compare` says, and so what `closest` is

abbrev Cmp : Ordering → ℕ → ℕ → Type 0
Cmp Ordering.lt a b = a < b
Cmp Ordering.eq a b = a ≡ b
Cmp Ordering.gt a b = b < a

cmp : (a b : ℕ) → Cmp (compare a b) a b
cmp a b = go (compare a b) (leb→le a b) (nleb→lt a b) (eqb→eq a b) (λ (e : a ≡ b). subst (λ (x : ℕ). T (eqb a x)) e (eqb_refl a))
  where
    go : (o : Ordering) → (T (is_le o) → a ≤ b) → (T (not (is_le o)) → b < a) → (T (compare_is_eq o) → a ≡ b) → (a ≡ b → T (compare_is_eq o)) → Cmp o a b
    go Ordering.lt h k e n = lt_of_le-ne (h tt) n
    go Ordering.eq h k e n = e tt
    go Ordering.gt h k e n = k tt

near : (q : ℕ) (o : Ordering) (a b : ℕ) → Cmp o a b → (a < b → nearest q o ≡ q) × (a ≡ b → nearest q o ≡ q + q % 2)
    × (b < a → nearest q o ≡ q + 1)
near q Ordering.lt a b c = omega arith
near q Ordering.eq a b c = omega arith
near q Ordering.gt a b c = omega arith

module _ (a b : ℕ) where
  pub closest_down : a % b * 2 < b → closest a b ≡ a / b
  closest_down = (near (a / b) (compare (a % b * 2) b) (a % b * 2) b (cmp (a % b * 2) b)).0

  pub closest_tie : a % b * 2 ≡ b → closest a b ≡ a / b + a / b % 2
  closest_tie = (near (a / b) (compare (a % b * 2) b) (a % b * 2) b (cmp (a % b * 2) b)).1

  pub closest_up : b < a % b * 2 → closest a b ≡ a / b + 1
  closest_up = (near (a / b) (compare (a % b * 2) b) (a % b * 2) b (cmp (a % b * 2) b)).2

  -- a half or less goes to 0
  pub closest_small : 0 < b → a * 2 ≤ b → closest a b ≡ 0
  closest_small p h = go (eq-or-lt_of_le h)
    where
      l : a < b
      l = omega arith

      d : a / b ≡ 0
      d = div-eq_of_lt l

      m : a % b ≡ a
      m = mod-eq_of_lt l

      go : (a * 2 ≡ b) ⊎ (a * 2 < b) → closest a b ≡ 0
      go (inl e) = closest_tie (rw m e) ∙ rw d refl
      go (inr k) = closest_down (rw m k) ∙ d

pub closest_one : (a : ℕ) → closest a 1 ≡ a
closest_one a = closest_down a 1 (rw mod-one (zero-lt-suc 0)) ∙ div-one a

pub half_twice : (k : ℕ) → 0 < k → 2 ^ (k - 1) * 2 ≡ 2 ^ k
half_twice k h = sym (pow-suc 2 (k - 1)) ∙ ap (λ (x : ℕ). 2 ^ x) (omega arith)

-- ---- m * 2 ^ e in the unit 2 ^ d: rounded and cut

module _ (m e d : ℕ) where
  pub raised : d ≤ e → m * 2 ^ e ≡ m * 2 ^ (e - d) * 2 ^ d
  raised h =
      let s : e ≡ (e - d) + d = omega arith in
      ap (λ (x : ℕ). m * 2 ^ x) s ∙ ap (λ (x : ℕ). m * x) (pow-add 2 (e - d) d) ∙ sym (mul_assoc m (2 ^ (e - d)) (2 ^ d))

  lowered : e ≤ d → m * 2 ^ e * 2 ^ (d - e) ≡ m * 2 ^ d
  lowered h =
      let s : e + (d - e) ≡ d = omega arith in
      mul_assoc m (2 ^ e) (2 ^ (d - e)) ∙ ap (λ (x : ℕ). m * x) (sym (pow-add 2 e (d - e)) ∙ ap (λ (x : ℕ). 2 ^ x) s)

  pub closest_shl : d ≤ e → closest (m * 2 ^ e) (2 ^ d) ≡ m * 2 ^ (e - d)
  closest_shl h =
      closest_same (m * 2 ^ e) (2 ^ d) (m * 2 ^ (e - d)) 1 (pow_pos d) (zero-lt-suc 0) (mul-one (m * 2 ^ e) ∙ raised h)
      ∙ closest_one (m * 2 ^ (e - d))

  pub closest_shr : e ≤ d → closest (m * 2 ^ e) (2 ^ d) ≡ closest m (2 ^ (d - e))
  closest_shr h = closest_same (m * 2 ^ e) (2 ^ d) m (2 ^ (d - e)) (pow_pos d) (pow_pos (d - e)) (lowered h)

  pub cut_up : d ≤ e → m * 2 ^ e / 2 ^ d ≡ m * 2 ^ (e - d)
  cut_up h = ap (λ (x : ℕ). x / 2 ^ d) (raised h) ∙ shl-shr (m * 2 ^ (e - d)) d

  pub cut_down : e ≤ d → m * 2 ^ e / 2 ^ d ≡ m / 2 ^ (d - e)
  cut_down h = div_same (m * 2 ^ e) (2 ^ d) m (2 ^ (d - e)) (pow_pos d) (pow_pos (d - e)) (lowered h)

-- ---- how many digits a number has

pub size_gt : (n j : ℕ) → 2 ^ j ≤ n → j < size n
size_gt n j l = lt_of_not-le (λ (g : size n ≤ j). not-le_of_lt (lt_of_lt_of_le (size-lt n) (pow_mono g)) l)

pub size_is : (n j : ℕ) → 2 ^ j ≤ n → n < 2 ^ suc j → size n ≡ suc j
size_is n j l h = le_antisymm (size-le n (suc j) h) (size_gt n j l)

pub size_none : (n : ℕ) → n ≡ 0 → size n ≡ 0
size_none n e = let h : size 0 ≤ 0 = size-le 0 0 (zero-lt-suc 0) in rw e (omega arith)

-- of m * 2 ^ e / 2 ^ c, where m has j + 1 digits
pub size_shifted : (m e c j : ℕ) → 2 ^ j ≤ m → m < 2 ^ suc j → size (m * 2 ^ e / 2 ^ c) ≡ suc j + e - c
size_shifted m e c j l h = go (le_or_lt c (j + e))
  where
    hi : m * 2 ^ e < 2 ^ (suc j + e)
    hi = shl_lt (suc j) e h

    go : (c ≤ j + e) ⊎ (j + e < c) → size (m * 2 ^ e / 2 ^ c) ≡ suc j + e - c
    go (inl g) =
        let d = j + e - c in
        let s : d + c ≡ j + e = omega arith in
        let s' : suc d + c ≡ suc j + e = omega arith in
        let lo : 2 ^ d * 2 ^ c ≤ m * 2 ^ e = le_trans (le_of_eq (sym (pow-add 2 d c) ∙ ap (λ (x : ℕ). 2 ^ x) s ∙ pow-add 2 j e))
        (mul-le-mul_right (2 ^ e) l) in
        size_is (m * 2 ^ e / 2 ^ c) d ((le-div_iff_mul-le (pow_pos c)).1 lo)
        (shr_lt (suc d) c (subst (λ (x : ℕ). m * 2 ^ e < 2 ^ x) (sym s') hi))
        ∙ omega arith
    go (inr g) =
        let g' : suc j + e ≤ c = omega arith in
        size_none (m * 2 ^ e / 2 ^ c) (div-eq_of_lt (lt_of_lt_of_le hi (pow_mono g'))) ∙ omega arith

-- ---- the digits that a format keeps

-- What the laws on a format ask of its two numbers: a digit at least, and no more digits and no larger exponents than
-- binary64 has, so that its values are whole multiples of 2 ^ -1074. The three formats are such.
pub record Format (p emax : ℕ) : Type 0 where
  pub some_digits : 1 ≤ p
  pub few_digits : p ≤ 53
  pub few_exponents : emax ≤ 1023

-- the infinity's pattern and the sign
pub top_is : (p emax : ℕ) → ones emax * hid p + hid p ≡ top p emax
top_is p emax = omega arith

-- p digits at most, or 2 ^ p after a carry
pub kept_le : (p emax n k : ℕ) → k ≡ dropped p emax n → closest n (2 ^ (unit p emax + k)) ≤ 2 ^ p
unfolding dropped
kept_le p emax n k e =
    let c = unit p emax in
    let l : n / 2 ^ (c + k) < 2 ^ p = rw e (subst (λ (x : ℕ). x < 2 ^ p) (shr-shr n c (size (n / 2 ^ c) - p)) (kept-lt p (n / 2 ^ c))) in
    le_trans (nearest-le (n / 2 ^ (c + k)) (compare (n % 2 ^ (c + k) * 2) (2 ^ (c + k)))) l

-- where places are dropped, n is at least the least number with p digits there
pub reaches : (p emax n : ℕ) → 1 ≤ p → 0 < dropped p emax n → hid p * 2 ^ (unit p emax + dropped p emax n) ≤ n
unfolding dropped
reaches p emax n P g =
    let c = unit p emax in
    let w = n / 2 ^ c in
    let k = size w - p in
    let a : (p - 1) + k < size w = omega arith in
    let s : (p - 1) + (c + k) ≡ ((p - 1) + k) + c = omega arith in
    le_trans (le_of_eq (sym (pow-add 2 (p - 1) (c + k)) ∙ ap (λ (x : ℕ). 2 ^ x) s ∙ pow-add 2 ((p - 1) + k) c))
    ((le-div_iff_mul-le (pow_pos c)).0 (size_reaches w ((p - 1) + k) a))

-- so of the digits kept the leading one is in its place, unless nothing was dropped
pub kept_ge : (p emax n : ℕ) → 1 ≤ p → (dropped p emax n ≡ 0) ⊎ (hid p ≤ closest n (2 ^ (unit p emax + dropped p emax n)))
kept_ge p emax n P = go (le_or_lt (dropped p emax n) 0)
  where
    u : ℕ
    u = 2 ^ (unit p emax + dropped p emax n)

    go : (dropped p emax n ≤ 0) ⊎ (0 < dropped p emax n) → (dropped p emax n ≡ 0) ⊎ (hid p ≤ closest n u)
    go (inl h) = inl (omega arith)
    go (inr h) = inr (le_trans ((le-div_iff_mul-le (pow_pos (unit p emax + dropped p emax n))).1 (reaches p emax n P h))
        (nearest-ge (n / u) (compare (n % u * 2) u)))

pub dropped_zero : (p emax : ℕ) → dropped p emax 0 ≡ 0
unfolding dropped
dropped_zero p emax = let s : size (0 / 2 ^ unit p emax) ≡ 0 = size_none (0 / 2 ^ unit p emax) (zero-div (2 ^ unit p emax)) in omega arith

pub packed_zero : (p emax : ℕ) → packed p emax 0 ≡ 0
unfolding packed
packed_zero p emax =
    let u = 2 ^ (unit p emax + 0) in
    let n : closest 0 u ≡ 0 = closest_small 0 u (pow_pos (unit p emax + 0)) (omega arith) in
    rw (dropped_zero p emax) (omega arith)

-- ---- q digits with k places below them, where q has its leading one or nothing is below it

pub leading : {k h q : ℕ} → (k ≡ 0) ⊎ (h ≤ q) → 0 < k → h ≤ q
leading (inl z) g = absurd (omega arith)
leading (inr l) g = l

module _ (p k q : ℕ) (P : 1 ≤ p) (h : (k ≡ 0) ⊎ (hid p ≤ q)) where
  -- the places below are the ones that p digits leave out
  pub size_kept : q < 2 ^ p → size (q * 2 ^ k) - p ≡ k
  size_kept l = go h
    where
      go : (k ≡ 0) ⊎ (hid p ≤ q) → size (q * 2 ^ k) - p ≡ k
      go (inl z) = rw (z, mul-one) (omega (arith, size-le q p l))
      go (inr g) =
          let lo : 2 ^ ((p - 1) + k) ≤ q * 2 ^ k = le_trans (le_of_eq (pow-add 2 (p - 1) k)) (mul-le-mul_right (2 ^ k) g) in
          let s : p + k ≡ suc ((p - 1) + k) = omega arith in
          omega (arith, size_is (q * 2 ^ k) ((p - 1) + k) lo (subst (λ (x : ℕ). q * 2 ^ k < 2 ^ x) s (shl_lt p k l)))

  -- the pattern k * hid + q reaches the infinity's exactly where q * 2 ^ k reaches what lies above the format's values
  module _ (Q : q ≤ 2 ^ p) (emax : ℕ) (E : 1 ≤ emax) where
    -- at the last exponent
    edge : suc k ≡ 2 * emax → 2 ^ ((p - 1) + 2 * emax) ≡ 2 ^ p * 2 ^ k
    edge e = ap (λ (x : ℕ). 2 ^ x) (omega arith) ∙ pow-add 2 p k

    far : 2 * emax ≤ k → 2 ^ ((p - 1) + 2 * emax) ≤ q * 2 ^ k
    far g = le_trans (le_of_eq (pow-add 2 (p - 1) (2 * emax))) (mul-le-mul (leading h (omega arith)) (pow_mono g))

    pub stays_finite : q * 2 ^ k < 2 ^ ((p - 1) + 2 * emax) → k * hid p + q < ones emax * hid p
    stays_finite l = go (le_or_lt (2 * emax) k)
      where
        low : (suc k ≡ 2 * emax) ⊎ (suc k < 2 * emax) → k * hid p + q < ones emax * hid p
        low (inl e) =
            let m : q < 2 ^ p = lt_of_mul-lt-mul_right (2 ^ k) (lt_of_lt_of_le l (le_of_eq (edge e))) in
            omega (arith, ap (λ (x : ℕ). x * hid p) e, half_twice p P)
        low (inr g) = omega (arith, mul-le-mul_right (hid p) g, half_twice p P, pow_pos (p - 1))

        go : (2 * emax ≤ k) ⊎ (k < 2 * emax) → k * hid p + q < ones emax * hid p
        go (inl g) = absurd (not-le_of_lt l (far g))
        go (inr g) = low (eq-or-lt_of_le g)

    pub gets_infinite : 2 ^ ((p - 1) + 2 * emax) ≤ q * 2 ^ k → ones emax * hid p ≤ k * hid p + q
    gets_infinite l = go (le_or_lt (2 * emax) k)
      where
        low : (suc k ≡ 2 * emax) ⊎ (suc k < 2 * emax) → ones emax * hid p ≤ k * hid p + q
        low (inl e) =
            let m : 2 ^ p ≤ q = le_of_mul-le-mul_right (le_trans (le_of_eq (sym (edge e))) l) (pow_pos k) in
            omega (arith, ap (λ (x : ℕ). x * hid p) e, half_twice p P)
        low (inr g) =
            let a : q * 2 ^ k ≤ 2 ^ (p + k) = le_trans (mul-le-mul_right (2 ^ k) Q) (le_of_eq (sym (pow-add 2 p k))) in
            let s : p + k < (p - 1) + 2 * emax = omega arith in
            absurd (not-le_of_lt (lt_of_le_of_lt a (pow-lt s)) l)

        go : (2 * emax ≤ k) ⊎ (k < 2 * emax) → ones emax * hid p ≤ k * hid p + q
        go (inl g) = omega (arith, leading h (omega arith), mul-le-mul_right (hid p) g)
        go (inr g) = low (eq-or-lt_of_le g)
