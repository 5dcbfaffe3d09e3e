-- A type by its front, where the front is none of those that have rules of their own.
use mathlib.Core.Path.{◌≡◌, ap, ◌∙◌}
use Prim.Native.Nat.{ℕ}
use Rattle.meaning.specs.Kinds.{Kind, kind_no}
use Rattle.meaning.specs.Trees.{Ty, Ts, Tv, Tm, Ta, Tu, Tys}
use Rattle.ty.specs.Heads.{head_of}
use Rattle.ty.specs.declared.Head.{Head}
use Rattle.ty.specs.declared.Head.TheVariants.{Scalar, Vector, Matrix}

-- what holds of matrices, arrays and structs holds of a type that is neither scalar nor vector
pub neither : (t : Ty) {h : Head} → h ≡ head_of t → ((k : ℕ) → h ≡ Scalar k → ⊥) → ((n k : ℕ) → h ≡ Vector n k → ⊥)
    → (P : Ty → Type 0) → ((c r : ℕ) (k : Kind) → P (Tm c r k)) → ((n : ℕ) (u : Ty) → P (Ta n u))
    → ((i : ℕ) (m : Tys) → P (Tu i m)) → P t
unfolding head_of
neither (Ts k) q a b P f g j = absurd (a (kind_no k) q)
neither (Tv n k) q a b P f g j = absurd (b n (kind_no k) q)
neither (Tm c r k) q a b P f g j = f c r k
neither (Ta n u) q a b P f g j = g n u
neither (Tu i m) q a b P f g j = j i m

-- a type whose front is no matrix's is no matrix
pub no_matrix : {t : Ty} {h : Head} → h ≡ head_of t → ((c r k : ℕ) → h ≡ Matrix c r k → ⊥) → (c r : ℕ) (k : Kind)
    → t ≡ Tm c r k → ⊥
unfolding head_of
no_matrix q f c r k e = f c r (kind_no k) (q ∙ ap head_of e)
