-- Laws on a number cut to a whole one, and on where numbers stand in a range.
use mathlib.Core.Path.{◌≡◌, sym, ap, ◌∙◌}
use mathlib.Core.Logic.{◌⊎◌, inl, inr}
use mathlib.Core.Bool.{Bool, true, false, not, cond}
use Prim.Native.Nat.{ℕ, suc, ◌+◌, ◌-◌, ◌*◌, ◌/◌, ◌%◌, ◌^◌, ◌≤◌, ◌<◌, min}
use native.Mathlib.Nat.{lt_of_lt_of_le, lt_of_not-le, not-le_of_lt, div-lt_iff_lt-mul, le-div_iff_mul-le, div-eq_of_lt, mod-eq_of_lt}
use native.Mathlib.Nat.{add_comm, zero-add, add-mod_left, mul_assoc, mul-le-mul_right, lt_of_mul-lt-mul_right, mul-lt-mul_of_pos_right}
use native.Mathlib.Nat.{zero-mul, one-mul}
use native.Mathlib.Omega.{arith}
use Rattle.std.proofs.lemmas.Nat.{one_shl}
use lib.Dec.{leb, ltb, eqb}
use lib.Pow.{pow_pos, pow_mono, pow-add}
use borrow.Author.Tests.{le-leb, lt-leb, lt-ltb, le-ltb, eq-eqb, ne_eqb}
use Rattle.meaning.specs.Floats.{nan, inf, fin, hid, ones, top, bits, finite, largest}
use Rattle.laws.proofs.Digits.{Format, le_or_lt, top_is, raised, cut_down, cut_up}
use Rattle.laws.proofs.Rounding.{threshold, Right, right}

-- ---- `cut`, with d for 1074

module _ (m e l d : ℕ) where
  pub none_left : m < 2 ^ 64 → e ≤ d → 63 < d - e → 0 ≡ min (m * 2 ^ e / 2 ^ d) l
  none_left b h k =
      let q : m / 2 ^ (d - e) ≡ 0 = div-eq_of_lt (lt_of_lt_of_le b (pow_mono k)) in
      rw (cut_down m e d h, q) (omega arith)

  pub some_left : {r : ℕ} → e ≤ d → r ≡ min (m / 2 ^ (d - e)) l → r ≡ min (m * 2 ^ e / 2 ^ d) l
  some_left h k = rw (cut_down m e d h) k

-- `up` places more than 64 bits have
pub far_up : (m l u : ℕ) → l < 2 ^ 64 → 0 < m → 63 < u → l < m * 2 ^ u
far_up m l u b p k =
    let a : 2 ^ 64 ≤ 2 ^ u = pow_mono k in
    let q : 1 * 2 ^ u ≤ m * 2 ^ u = mul-le-mul_right (2 ^ u) p in
    omega (arith, one-mul (2 ^ u))

module _ (m e l d : ℕ) (h : d ≤ e) where
  pub over : l < m * 2 ^ (e - d) → l ≡ min (m * 2 ^ e / 2 ^ d) l
  over k = rw (cut_up m e d h) (omega arith)

  pub under : l < 2 ^ 64 → m ≤ l / 2 ^ (e - d) → m * 2 ^ (e - d) % 2 ^ 64 ≡ min (m * 2 ^ e / 2 ^ d) l
  under b k =
      let q : m * 2 ^ (e - d) ≤ l = (le-div_iff_mul-le (pow_pos (e - d))).0 k in
      let s : m * 2 ^ (e - d) < 2 ^ 64 = omega arith in
      rw (cut_up m e d h, mod-eq_of_lt s) (omega arith)

-- ---- tests that say the same

same : (a b c d : ℕ) → (a ≤ b → c ≤ d) → (c ≤ d → a ≤ b) → leb a b ≡ leb c d
same a b c d f g = go (le_or_lt a b)
  where
    go : (a ≤ b) ⊎ (b < a) → leb a b ≡ leb c d
    go (inl h) = le-leb a b h ∙ sym (le-leb c d (f h))
    go (inr h) = lt-leb a b h ∙ sym (lt-leb c d (lt_of_not-le (λ (k : c ≤ d). not-le_of_lt h (g k))))

not_less : (a b : ℕ) → not (ltb a b) ≡ leb b a
not_less a b = go (le_or_lt b a)
  where
    go : (b ≤ a) ⊎ (a < b) → not (ltb a b) ≡ leb b a
    go (inl h) = rw (le-ltb a b h, le-leb b a h)
    go (inr h) = rw (lt-ltb a b h, lt-leb b a h)

scale : (a b d : ℕ) → ltb a b ≡ ltb (a * 2 ^ d) (b * 2 ^ d)
scale a b d = same (suc a) b (suc (a * 2 ^ d)) (b * 2 ^ d) (λ (h : a < b). mul-lt-mul_of_pos_right h (pow_pos d))
    (lt_of_mul-lt-mul_right (2 ^ d))

pub positive : (m e : ℕ) → ltb 0 m ≡ ltb 0 (m * 2 ^ e)
positive m e = scale 0 m e ∙ ap (λ (x : ℕ). ltb x (m * 2 ^ e)) (zero-mul (2 ^ e))

-- ---- `beyond`

module _ (m e l d : ℕ) where
  module _ (h : d ≤ e) where
    at_up : ltb l (m * 2 ^ (e - d)) ≡ ltb (l * 2 ^ d) (m * 2 ^ e)
    at_up = rw (raised m e d h) (scale l (m * 2 ^ (e - d)) d)

    pub beyond_far : l < m * 2 ^ (e - d) → true ≡ ltb (l * 2 ^ d) (m * 2 ^ e)
    beyond_far k = sym (lt-ltb l (m * 2 ^ (e - d)) k) ∙ at_up

    pub beyond_up : ltb (l / 2 ^ (e - d)) m ≡ ltb (l * 2 ^ d) (m * 2 ^ e)
    beyond_up = let i = div-lt_iff_lt-mul (pow_pos (e - d)) in same (suc (l / 2 ^ (e - d))) m (suc l) (m * 2 ^ (e - d)) i.0 i.1
        ∙ at_up

  module _ (h : e ≤ d) (p : 0 < m) where
    at_down : ltb (l * 2 ^ (d - e)) m ≡ ltb (l * 2 ^ d) (m * 2 ^ e)
    at_down = rw (raised l d e h) (scale (l * 2 ^ (d - e)) m e)

    pub beyond_near : m < 2 ^ 64 → 63 < d - e → eqb l 0 ≡ ltb (l * 2 ^ d) (m * 2 ^ e)
    beyond_near b k = go (le_or_lt l 0) ∙ at_down
      where
        u : ℕ
        u = 2 ^ (d - e)

        go : (l ≤ 0) ⊎ (0 < l) → eqb l 0 ≡ ltb (l * u) m
        go (inl z) = let z' : l ≡ 0 = omega arith in rw (eq-eqb l 0 z') (sym (lt-ltb (l * u) m (rw (z', zero-mul) p)))
        go (inr z) = rw (ne_eqb l 0 (omega arith)) (sym (le-ltb (l * u) m (omega (arith, far_up l m (d - e) b z k))))

    pub beyond_down : leb l ((m - 1) / 2 ^ (d - e)) ≡ ltb (l * 2 ^ d) (m * 2 ^ e)
    beyond_down =
        let i = le-div_iff_mul-le (pow_pos (d - e)) in
        same l ((m - 1) / 2 ^ (d - e)) (suc (l * 2 ^ (d - e))) m (λ (g : l ≤ (m - 1) / 2 ^ (d - e)). omega (arith, i.0 g))
        (λ (g : l * 2 ^ (d - e) < m). i.1 (omega arith)) ∙ at_down

-- ---- `within`, with d for 1074, `largest` and `threshold`

pub inside : (l n d : ℕ) {a : ℕ} {b : Bool} → a ≡ l → b ≡ ltb (a * 2 ^ d) n → not b ≡ leb n (l * 2 ^ d)
inside l n d A B = rw (B, A) (not_less (l * 2 ^ d) n)

pub largest_is : (p emax d : ℕ) → p < 64 → (1 * 2 ^ p % 2 ^ 64 - 1) * 2 ^ (emax + 1 - p + d) ≡ largest p emax * 2 ^ d
unfolding largest
largest_is p emax d h =
    rw (one_shl p 64 h) (ap (λ (x : ℕ). (2 ^ p - 1) * x) (pow-add 2 (emax + 1 - p) d)
    ∙ sym (mul_assoc (2 ^ p - 1) (2 ^ (emax + 1 - p)) (2 ^ d)))

pub threshold_is : (p emax : ℕ) → p < 63 → (1 * 2 ^ (p + 1) % 2 ^ 64 - 1) * 2 ^ (emax + 1074 - p) ≡ threshold p emax
unfolding threshold
threshold_is p emax h = rw (one_shl (p + 1) 64 (omega arith), add_comm emax 1074)

-- ---- `rounds_finite`: a number below the threshold, and no NaN and no infinity

module _ {p emax : ℕ} (L : Format p emax) (two : 2 ≤ p) (some : 1 ≤ emax) where
  pub nan_not : false ≡ finite p emax (bits p emax nan)
  unfolding finite bits
  nan_not =
      let b = ones emax * hid p + hid p / 2 in
      let l : b < top p emax = omega (arith, top_is p emax, pow_pos (p - 1)) in
      rw (mod-eq_of_lt l) (sym (le-ltb b (ones emax * hid p) (omega arith)))

  pub inf_not : (s : Bool) → false ≡ finite p emax (bits p emax (inf s))
  unfolding finite bits
  inf_not s = rw (rest s) (sym (le-ltb (ones emax * hid p) (ones emax * hid p) (omega arith)))
    where
      l : ones emax * hid p < top p emax
      l = omega (arith, top_is p emax, pow_pos (p - 1))

      rest : (s : Bool) → (cond s (top p emax) 0 + ones emax * hid p) % top p emax ≡ ones emax * hid p
      rest true = add-mod_left (top p emax) (ones emax * hid p) ∙ mod-eq_of_lt l
      rest false = rw zero-add (mod-eq_of_lt l)

  pub fin_below : (s : Bool) (n : ℕ) → ltb n (threshold p emax) ≡ finite p emax (bits p emax (fin s n))
  fin_below s n = go (le_or_lt (threshold p emax) n)
    where
      R : Right p emax
      R = right p emax L two some

      go : (threshold p emax ≤ n) ⊎ (n < threshold p emax) → ltb n (threshold p emax) ≡ finite p emax (bits p emax (fin s n))
      go (inl h) = le-ltb n (threshold p emax) h ∙ sym (R.above_finite s n h)
      go (inr h) = lt-ltb n (threshold p emax) h ∙ sym (R.below_finite s n h)
