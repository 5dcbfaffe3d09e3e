-- The next multiple of an alignment.
use mathlib.Core.Path.{◌≡◌, refl, sym, subst}
use mathlib.Core.Bool.{Bool, true, false, ◌||◌, cond}
use Prim.Native.Nat.{ℕ, ◌+◌, ◌-◌, ◌*◌, ◌/◌, ◌%◌, ◌≤◌, ◌<◌, max}
use native.Mathlib.Omega.{arith}
use lib.Dec.{T, eqb, eqb→eq}
use Rattle.meaning.specs.Kinds.{Kind, bool, aint, afloat, i32, u32, f32, f16}
use Rattle.meaning.specs.Trees.{Ty, Ts, Tv, Tm, Ta, Tu, Tys, [·], ◌▸◌}
use Rattle.meaning.specs.Layout.{scalar_size, round_up, vec_align, align_of, most_align}
use Rattle.memory.specs.Sizes.{Align}

-- what holds of 1, 2, 4, 8 and 16 holds of every alignment
pub by_align : (P : ℕ → Type 0) → P 1 → P 2 → P 4 → P 8 → P 16 → (a : ℕ) → Align a → P a
by_align P p1 p2 p4 p8 p16 a h = go (eqb a 1) (eqb a 2) (eqb a 4) (eqb a 8) (eqb a 16) refl refl refl refl refl h
  where
    at : {n : ℕ} → P n → eqb a n ≡ true → P a
    at {n} p e = subst P (sym (eqb→eq a n (rw e tt))) p

    go : (b1 b2 b4 b8 b16 : Bool) → eqb a 1 ≡ b1 → eqb a 2 ≡ b2 → eqb a 4 ≡ b4 → eqb a 8 ≡ b8 → eqb a 16 ≡ b16
        → T (b1 || (b2 || (b4 || (b8 || b16)))) → P a
    go true b2 b4 b8 b16 e1 e2 e4 e8 e16 h = at p1 e1
    go false true b4 b8 b16 e1 e2 e4 e8 e16 h = at p2 e2
    go false false true b8 b16 e1 e2 e4 e8 e16 h = at p4 e4
    go false false false true b16 e1 e2 e4 e8 e16 h = at p8 e8
    go false false false false true e1 e2 e4 e8 e16 h = at p16 e16
    go false false false false false e1 e2 e4 e8 e16 h = absurd h

module _ (a : ℕ) (h : Align a) where
  pub align_some : 1 ≤ a
  align_some = by_align (λ a. 1 ≤ a) (omega arith) (omega arith) (omega arith) (omega arith) (omega arith) a h

  pub align_small : a ≤ 16
  align_small = by_align (λ a. a ≤ 16) (omega arith) (omega arith) (omega arith) (omega arith) (omega arith) a h

  -- it is not before n, less than the alignment behind it, and a multiple of the alignment
  pub up_more : (n : ℕ) → n ≤ round_up a n
  unfolding round_up
  up_more n = by_align (λ a. n ≤ (n + (a - 1)) / a * a) (omega arith) (omega arith) (omega arith) (omega arith) (omega arith) a h

  pub up_less : (n : ℕ) → round_up a n < n + a
  unfolding round_up
  up_less n = by_align (λ a. (n + (a - 1)) / a * a < n + a) (omega arith) (omega arith) (omega arith) (omega arith) (omega arith) a h

  pub up_whole : (n : ℕ) → round_up a n % a ≡ 0
  unfolding round_up
  up_whole n = by_align (λ a. (n + (a - 1)) / a * a % a ≡ 0) (omega arith) (omega arith) (omega arith) (omega arith) (omega arith) a h

  -- n itself where it is a multiple, else what is missing to one is added
  pub up_same : (n : ℕ) → n % a ≡ 0 → round_up a n ≡ n
  unfolding round_up
  up_same n = by_align (λ a. n % a ≡ 0 → (n + (a - 1)) / a * a ≡ n) (λ e. omega arith) (λ e. omega arith) (λ e. omega arith)
      (λ e. omega arith) (λ e. omega arith) a h

  pub up_missing : (n : ℕ) → 0 < n % a → round_up a n ≡ n + (a - n % a)
  unfolding round_up
  up_missing n = by_align (λ a. 0 < n % a → (n + (a - 1)) / a * a ≡ n + (a - n % a)) (λ e. omega arith) (λ e. omega arith)
      (λ e. omega arith) (λ e. omega arith) (λ e. omega arith) a h

-- ---- the alignments of types

size_align : (k : Kind) → Align (scalar_size k)
unfolding scalar_size
size_align bool = tt
size_align aint = tt
size_align afloat = tt
size_align i32 = tt
size_align u32 = tt
size_align f32 = tt
size_align f16 = tt

pub vec_align_lem : (n : ℕ) (k : Kind) → Align (vec_align n k)
unfolding vec_align scalar_size
vec_align_lem n k = go (eqb n 2) k
  where
    go : (b : Bool) (k : Kind) → Align (cond b 2 4 * scalar_size k)
    go true bool = tt
    go true aint = tt
    go true afloat = tt
    go true i32 = tt
    go true u32 = tt
    go true f32 = tt
    go true f16 = tt
    go false bool = tt
    go false aint = tt
    go false afloat = tt
    go false i32 = tt
    go false u32 = tt
    go false f32 = tt
    go false f16 = tt

max_align : (a b : ℕ) → Align a → Align b → Align (max a b)
max_align a b g h =
    by_align (λ a. Align (max a b)) (one 1 tt tt tt tt tt) (one 2 tt tt tt tt tt) (one 4 tt tt tt tt tt) (one 8 tt tt tt tt tt)
    (one 16 tt tt tt tt tt) a g
  where
    one : (x : ℕ) → Align (max x 1) → Align (max x 2) → Align (max x 4) → Align (max x 8) → Align (max x 16) → Align (max x b)
    one x p1 p2 p4 p8 p16 = by_align (λ b. Align (max x b)) p1 p2 p4 p8 p16 b h

mutual
  unfolding align_of most_align

  pub align_is : (t : Ty) → Align (align_of t)
  align_is (Ts k) = size_align k
  align_is (Tv n k) = vec_align_lem n k
  align_is (Tm c r k) = vec_align_lem r k
  align_is (Ta n t) = align_is t
  align_is (Tu i m) = most_align_lem m

  pub most_align_lem : (m : Tys) → Align (most_align m)
  most_align_lem [·] = tt
  most_align_lem (t ▸ m) = max_align (align_of t) (most_align m) (align_is t) (most_align_lem m)
