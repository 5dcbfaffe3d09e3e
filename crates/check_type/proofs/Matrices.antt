-- The rules for matrices, by what the code asks.
use mathlib.Core.Path.{◌≡◌, refl}
use mathlib.Core.Bool.{Bool}
use mathlib.Core.Option.{none, some}
use mathlib.Core.List.{List, [], ◌∷◌}
use Prim.Native.Nat.{ℕ}
use lib.ListN.{length}
use Rattle.meaning.specs.Kinds.{Kind}
use Rattle.meaning.specs.Trees.{Ty, Ts, Tv, Tm, Ta, Tu}
use Rattle.meaning.specs.Answers.{ok, no, need, ◌>>◌}
use Rattle.meaning.specs.Convert.{common}
use Rattle.meaning.specs.Build.{mat_shape, same_size, to_inner}
use Rattle.meaning.specs.Typing.{typeable, type_one, type_more, type_mat, type_mat_one}
use Rattle.laws.proofs.AgreeQm.{shape_set}
use Rattle.shape.proofs.Downs.{GoesTo}
use Rattle.check_type.specs.Rules.{type_down}

-- ---- down to the target's kind

module _ (c r n : ℕ) (k : Kind) (t : Ty) where
  pub down_no : to_inner k t ≡ none → type_down c r k n t ≡ no 7
  unfolding type_down
  down_no h = rw h

  pub down_yes : GoesTo k t → type_down c r k n t ≡ (mat_shape c r t n >> ok (Tm c r k))
  unfolding type_down
  down_yes g = rw (g.into, shape_set c r t k n)

-- ---- by the common type

module _ (c r : ℕ) (k : Kind) (l : List Ty) where
  pub mat_none : common l ≡ none → type_mat c r k l ≡ no 10
  unfolding type_mat
  mat_none h = rw h

  pub mat_some : {n : ℕ} {t : Ty} → n ≡ length l → common l ≡ some t → type_mat c r k l ≡ type_down c r k n t
  unfolding type_mat type_down
  mat_some e h = rw (h, e)

-- ---- one matrix

module _ (c r : ℕ) (j : Kind) {t : Ty} where
  -- of whichever size
  pub mat_sized : {a b : ℕ} {k : Kind} → t ≡ Tm a b k → {s : Bool} → same_size c r a b ≡ s
      → type_mat_one c r j t ≡ (need s 7 >> ok (Tm c r j))
  unfolding type_mat_one
  mat_sized e q = rw (e, q)

  pub mat_other : ((a b : ℕ) (k : Kind) → t ≡ Tm a b k → ⊥) → type_mat_one c r j t ≡ type_mat c r j (t ∷ [])
  unfolding type_mat_one
  mat_other f = go t f
    where
      go : (u : Ty) → ((a b : ℕ) (k : Kind) → u ≡ Tm a b k → ⊥) → type_mat_one c r j u ≡ type_mat c r j (u ∷ [])
      go (Ts k) f = refl
      go (Tv n k) f = refl
      go (Tm a b k) f = absurd (f a b k refl)
      go (Ta n u) f = refl
      go (Tu i m) f = refl

pub matrix_typeable : (c r : ℕ) (j : Kind) → typeable (Tm c r j) ≡ ok tt
unfolding typeable
matrix_typeable c r j = refl

pub matrix_one : (c r : ℕ) (j : Kind) (a : Ty) → type_one (Tm c r j) a ≡ type_mat_one c r j a
unfolding type_one
matrix_one c r j a = refl

pub matrix_more : (c r : ℕ) (j : Kind) (l : List Ty) → type_more (Tm c r j) l ≡ type_mat c r j l
unfolding type_more
matrix_more c r j l = refl
