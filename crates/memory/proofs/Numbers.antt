-- Numbers in memory: what was written is read, and what is read writes the same bytes.
use mathlib.Core.Path.{◌≡◌, refl, ap, ap₂, ◌∙◌}
use mathlib.Core.List.{List, [], ◌∷◌, ◌++◌}
use Prim.Native.Nat.{ℕ, zero, suc, ◌+◌, ◌*◌, ◌/◌, ◌%◌, ◌^◌, ◌≤◌, ◌<◌}
use native.Mathlib.Omega.{arith}
use native.Mathlib.Nat.{pow-suc, one-le-pow}
use lib.Dec.{T, ltb→lt, lt→ltb}
use lib.ListN.{length, take}
use Rattle.meaning.specs.Kinds.{Kind, bool, aint, afloat, i32, u32, f32, f16, payloads}
use Rattle.meaning.specs.Records.{le, good_lit}
use Rattle.meaning.specs.Layout.{laid_kind, scalar_size, number_of, mem_scalar}
use Rattle.laws.proofs.Sound.{Bytes}

pub number_back : (w p : ℕ) (rest : List ℕ) → p < 256 ^ w → number_of (take w (le w p ++ rest)) ≡ p
unfolding number_of le
number_back zero p rest h = omega arith
number_back (suc w) p rest h =
    let h' : p < 256 ^ w * 256 = rw pow-suc at h in
    omega (arith, number_back w (p / 256) rest (omega arith))

pub number_less : (w : ℕ) (s : List ℕ) → Bytes s → number_of (take w s) < 256 ^ w
unfolding number_of
number_less zero s b = omega arith
number_less (suc w) [] b = one-le-pow (suc w) 256 (omega arith)
number_less (suc w) (x ∷ s) b = rw pow-suc (omega (arith, b 0, number_less w s (λ i. b (suc i))))

pub number_same : (w : ℕ) (s : List ℕ) → Bytes s → w ≤ length s → le w (number_of (take w s)) ≡ take w s
unfolding number_of le
number_same zero s b h = refl
number_same (suc w) [] b h = absurd (omega arith)
number_same (suc w) (x ∷ s) b h =
    let n : ℕ = number_of (take w s) in
    let x' = b 0 in
    let l : (x + 256 * n) % 256 ≡ x = omega arith in
    let q : (x + 256 * n) / 256 ≡ n = omega arith in
    ap₂ ◌∷◌ l (ap (le w) q ∙ number_same w s (λ i. b (suc i)) (omega arith))

-- ---- a scalar's payload is as wide as the scalar

laid_range : (k : Kind) → T (laid_kind k) → payloads k ≡ 256 ^ scalar_size k
unfolding laid_kind payloads scalar_size
laid_range bool h = absurd h
laid_range aint h = absurd h
laid_range afloat h = absurd h
laid_range i32 h = refl
laid_range u32 h = refl
laid_range f32 h = refl
laid_range f16 h = refl

module _ (k : Kind) (h : T (laid_kind k)) where
  pub scalar_back : (p : ℕ) (rest : List ℕ) → T (good_lit k p) → mem_scalar k (le (scalar_size k) p ++ rest) ≡ p
  unfolding mem_scalar good_lit
  scalar_back p rest g = number_back (scalar_size k) p rest (rw (laid_range k h) at (ltb→lt p (payloads k) g))

  pub scalar_good : (s : List ℕ) → Bytes s → T (good_lit k (mem_scalar k s))
  unfolding mem_scalar good_lit
  scalar_good s b = lt→ltb (mem_scalar k s) (payloads k) (rw (laid_range k h) (number_less (scalar_size k) s b))
