-- Laws on rounding and packing as the code has the numbers: `k` places dropped, `half` and `rest` of what is dropped.
use mathlib.Core.Path.{◌≡◌, sym, ap, ◌∙◌}
use mathlib.Core.Logic.{◌⊎◌, inl, inr}
use Prim.Native.Nat.{ℕ, suc, ◌+◌, ◌-◌, ◌*◌, ◌/◌, ◌%◌, ◌^◌, ◌≤◌, ◌<◌, min}
use native.Mathlib.Nat.{le_trans, le_of_eq, lt_of_not-le, eq-or-lt_of_le, mod-eq_of_lt}
use native.Mathlib.Nat.{mul-le-mul_left, mul-le-mul_right, one-mul, zero-mul}
use native.Mathlib.Omega.{arith}
use lib.Pow.{pow_pos, pow_mono}
use lib.Bits.{bit_and, and_mask}
use lib.Count.{count_leading_zeros, leading_top}
use Rattle.meaning.specs.Floats.{closest, unit, hid, ones, dropped, packed}
use Rattle.laws.proofs.Digits.{Format, closest_down, closest_tie, closest_up, closest_small, half_twice, closest_shl}
use Rattle.laws.proofs.Digits.{size_shifted, kept_le, packed_zero}

-- ---- `round_shift`

module _ (m k : ℕ) where
  pub far : m < 2 ^ 64 → 64 < k → 0 ≡ closest m (2 ^ k)
  far l h = let g : 2 ^ 65 ≤ 2 ^ k = pow_mono h in sym (closest_small m (2 ^ k) (pow_pos k) (omega arith))

  module _ {half : ℕ} (p : 0 < k) (h : half ≡ 2 ^ (k - 1)) where
    twice : half * 2 ≡ 2 ^ k
    twice = rw h (half_twice k p)

    -- with o for the last digit of the quotient, which is 1 where the quotient is odd
    module _ {rest : ℕ} (r : rest ≡ m % 2 ^ k) where
      abbrev q : ℕ
      q = m / 2 ^ k

      abbrev o : ℕ
      o = bit_and q 1

      odd : o ≡ q % 2
      odd = and_mask q 1

      tie : half ≡ rest → q + q % 2 ≡ closest m (2 ^ k)
      tie e = sym (closest_tie m (2 ^ k) (omega (arith, twice)))

      pub up : half < rest + o → q + 1 ≡ closest m (2 ^ k)
      up g = let l : half ≤ rest = omega (arith, odd) in go (eq-or-lt_of_le l)
        where
          go : (half ≡ rest) ⊎ (half < rest) → q + 1 ≡ closest m (2 ^ k)
          go (inl e) = omega (arith, odd, tie e)
          go (inr l) = sym (closest_up m (2 ^ k) (omega (arith, twice)))

      pub down : rest + o ≤ half → q ≡ closest m (2 ^ k)
      down g = let l : rest ≤ half = omega arith in go (eq-or-lt_of_le l)
        where
          go : (rest ≡ half) ⊎ (rest < half) → q ≡ closest m (2 ^ k)
          go (inl e) = omega (arith, odd, tie (sym e))
          go (inr l) = sym (closest_down m (2 ^ k) (omega (arith, twice)))

-- ---- `scaled`

pub shifted_up : (m e d : ℕ) → d ≤ e → m * 2 ^ (e - d) < 2 ^ 64 → m * 2 ^ (e - d) % 2 ^ 64 ≡ closest (m * 2 ^ e) (2 ^ d)
shifted_up m e d h l = mod-eq_of_lt l ∙ sym (closest_shl m e d h)

-- ---- `pack`

pub packs_zero : (p emax m e : ℕ) → m ≡ 0 → 0 ≡ packed p emax (m * 2 ^ e)
packs_zero p emax m e h = rw (h, zero-mul) (sym (packed_zero p emax))

-- with u for the format's unit
module _ (p emax m e : ℕ) {u : ℕ} (U : u ≡ unit p emax) where
  -- the leading zeros give the places that the format drops
  pub places : {d k : ℕ} → 0 < m → m < 2 ^ 64 → d ≡ 64 - count_leading_zeros 64 m + e - u → k ≡ d - p → k ≡ dropped p emax (m * 2 ^ e)
  unfolding dropped
  places pos l D K =
      let t = leading_top 64 m pos l in
      let s : 64 - count_leading_zeros 64 m ≡ suc t.0 = omega (arith, t.1) in
      rw (← U) (K ∙ ap (λ (x : ℕ). x - p) (D ∙ ap (λ (x : ℕ). x + e - u) s ∙ sym (size_shifted m e u t.0 t.2 t.3)))

  module _ (F : Format p emax) {k : ℕ} (K : k ≡ dropped p emax (m * 2 ^ e)) where
    abbrev kept : ℕ
    kept = closest (m * 2 ^ e) (2 ^ (u + k))

    kept_le_53 : kept ≤ 2 ^ 53
    kept_le_53 = rw U (le_trans (kept_le p emax (m * 2 ^ e) k K) (pow_mono F.few_digits))

    -- digits that are shifted up stay within those kept
    pub room_up : 0 < m → u + k ≤ e → (e - (u + k) < 64) × (m * 2 ^ (e - (u + k)) < 2 ^ 64)
    room_up pos h =
        let j = e - (u + k) in
        let a : m * 2 ^ j ≤ 2 ^ 53 = le_trans (le_of_eq (sym (closest_shl m e (u + k) h))) kept_le_53 in
        let b : 1 * 2 ^ j ≤ m * 2 ^ j = mul-le-mul_right (2 ^ j) pos in
        (lt_of_not-le (λ (g : 64 ≤ j). let c : 2 ^ 64 ≤ 2 ^ j = pow_mono g in omega (arith, one-mul (2 ^ j))), omega arith)

    module _ {a q : ℕ} (A : a ≡ k * hid p) (Q : q ≡ kept) where
      pub sum_fits : k < 2164 → a + q < 2 ^ 64
      sum_fits b =
          let g : p - 1 ≤ 52 = omega arith in
          let h : k * hid p ≤ k * 2 ^ 52 = mul-le-mul_left k (pow_mono g) in
          omega (arith, kept_le_53)

      pub packs : {t r : ℕ} → t ≡ ones emax * hid p → r ≡ min (a + q) t → r ≡ packed p emax (m * 2 ^ e)
      unfolding packed
      packs T R = rw (R, A, Q, T, U) (ap (λ (j : ℕ). min (j * hid p + closest (m * 2 ^ e) (2 ^ (unit p emax + j))) (ones emax * hid p)) K)
