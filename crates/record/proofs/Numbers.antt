-- Numbers of some bytes.
use mathlib.Core.Path.{◌≡◌, refl, sym, ap, ◌∙◌, subst}
use mathlib.Core.Bool.{Bool, true, false, ◌||◌}
use mathlib.Core.List.{List, [], ◌∷◌, ◌++◌}
use Prim.Native.Nat.{ℕ, zero, suc, ◌+◌, ◌*◌, ◌/◌, ◌%◌, ◌^◌, ◌≤◌, ◌<◌}
use native.Mathlib.Omega.{arith}
use native.Mathlib.Numerals.{add-one}
use native.Mathlib.Nat.{add-zero, pow-suc, div-one, div-div-eq-div-mul}
use lib.Dec.{T, eqb, eqb→eq}
use Rattle.std.specs.Int.{bytes_low_first}
use lib.ListN.{length, get_or, drop}
use lib.Seq.{drop-cons}
use Rattle.meaning.specs.Records.{le}
use Rattle.laws.proofs.Sound.{Bytes}
use Rattle.record.specs.Bytes.{Width, number_at}
use Rattle.record.proofs.Places.{at_of, past}

-- the two bytes of a number
pub halves : (l h : ℕ) → l < 256 → h < 256 → ((l + 256 * h) % 256 ≡ l) × ((l + 256 * h) / 256 % 256 ≡ h)
halves l h x y = let p : (l + 256 * h) / 256 ≡ h = omega arith in (omega arith, rw p (omega arith))

-- ---- the number that stands at a place

pub number_fits : (s : List ℕ) (at w : ℕ) → Bytes s → number_at s at w < 256 ^ w
unfolding number_at
number_fits s at zero b = omega arith
number_fits s at (suc w) b = omega (arith, number_fits s (suc at) w b, b at, pow-suc 256 w)

-- its bytes are those that stand there
pub number_here : (s : List ℕ) (at w : ℕ) → Bytes s → at + w ≤ length s → drop at s ≡ le w (number_at s at w) ++ drop (at + w) s
unfolding number_at le
number_here s at zero b h = ap (λ (i : ℕ). drop i s) (sym (add-zero at))
number_here s at (suc w) b h =
    let n = number_at s (suc at) w in
    let l = b at in
    let m : (get_or s at 0 + 256 * n) % 256 ≡ get_or s at 0 = omega arith in
    let d : (get_or s at 0 + 256 * n) / 256 ≡ n = omega arith in
    let k : suc at + w ≡ at + suc w = omega arith in
    drop-cons s at 0 (omega arith) ∙ (rw (m, d) (ap (λ (x : List ℕ). get_or s at 0 ∷ x) (rw k at (number_here s (suc at) w b (omega arith)))))

-- a number whose bytes stand there is that number
pub number_of : (s rest : List ℕ) (at w p : ℕ) → drop at s ≡ le w p ++ rest → p < 256 ^ w → number_at s at w ≡ p
unfolding number_at le
number_of s rest at zero p h l = omega arith
number_of s rest at (suc w) p h l =
    let b : get_or s at 0 ≡ p % 256 = ap (λ (i : ℕ). get_or s i 0) (sym (add-zero at)) ∙ at_of s _ at h 0 in
    let d : drop (suc at) s ≡ le w (p / 256) ++ rest = ap (λ (i : ℕ). drop i s) (sym (add-one at))
    ∙ past s (p % 256 ∷ []) (le w (p / 256) ++ rest) at h in
    let q : p / 256 < 256 ^ w = let m : p < 256 ^ w * 256 = rw pow-suc at l in omega arith in
    omega (arith, number_of s rest (suc at) w (p / 256) d q)

-- ---- as the library writes them

low_first : (w i n : ℕ) → le w (n / 256 ^ i) ≡ bytes_low_first i w n
unfolding le
low_first zero i n = refl
low_first (suc w) zero n = rw (div-one n, low_first w 1 n)
low_first (suc w) (suc i) n = rw (div-div-eq-div-mul, ← pow-suc 256 (suc i), low_first w (suc (suc i)) n)

-- its bytes, as the library has them
pub le_is : (w n : ℕ) → le w n ≡ bytes_low_first 0 w n
le_is w n = ap (le w) (sym (div-one n)) ∙ low_first w 0 n

-- ---- the widths

or_else : (P : ℕ → Type 0) (w n : ℕ) (r : Bool) → P n → (T r → P w) → T (eqb w n || r) → P w
or_else P w n r p f h = go (eqb w n) refl h
  where
    go : (b : Bool) → eqb w n ≡ b → T (b || r) → P w
    go true e q = subst P (sym (eqb→eq w n (subst T (sym e) tt))) p
    go false e q = f q

-- what holds of each width holds of a width
pub each_width : (P : ℕ → Type 0) → P 8 → P 4 → P 2 → P 1 → P 0 → (w : ℕ) → Width w → P w
each_width P a b c d e w =
    or_else P w 8 _ a (or_else P w 4 _ b (or_else P w 2 _ c (or_else P w 1 _ d (λ h. subst P (sym (eqb→eq w 0 h)) e))))

module _ (w : ℕ) (h : Width w) where
  -- by the order of the widths
  pub width_eight : 4 < w → w ≡ 8
  width_eight = each_width (λ n. 4 < n → n ≡ 8) (λ q. omega arith) (λ q. omega arith) (λ q. omega arith) (λ q. omega arith)
      (λ q. omega arith) w h

  pub width_four : 2 < w → w ≤ 4 → w ≡ 4
  width_four = each_width (λ n. 2 < n → n ≤ 4 → n ≡ 4) (λ q r. omega arith) (λ q r. omega arith) (λ q r. omega arith) (λ q r. omega arith)
      (λ q r. omega arith) w h
