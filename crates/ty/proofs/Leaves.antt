-- The scalar kind at the bottom of a type, and the byte that says it.
use mathlib.Core.Path.{◌≡◌, refl, sym, ap, ◌∙◌}
use mathlib.Core.Option.{some}
use mathlib.Core.List.{List, [], ◌∷◌, ◌++◌}
use Prim.Native.Nat.{ℕ, ◌+◌, ◌-◌, ◌/◌, ◌%◌}
use native.Mathlib.Omega.{arith}
use Rattle.meaning.specs.Kinds.{Kind, kind_no}
use Rattle.meaning.specs.Trees.{Ty, Ts, Tv, Tm, Ta, Tu, leaf, set_leaf}
use Rattle.meaning.specs.Records.{ty_bytes, le}
use Rattle.ty.specs.Stands.{Stands}
use Rattle.ty.specs.Heads.{head_of, leaf_of, LeafAt}
use Rattle.ty.specs.declared.Head.TheVariants.{Scalar, Vector, Matrix, Array, Struct}
use Rattle.ty.proofs.Heads.{scalar_is, vector_is, matrix_is, array_is, struct_is}
use Rattle.std.specs.declared.option.Option.{Option}
use Rattle.std.specs.declared.option.Option.TheVariants.{None, Some}

-- ---- by the front of a type

module _ {d : ℕ} {s : List ℕ} {at : ℕ} {t : Ty} {e : ℕ} (w : Stands d s at t e) where
  pub scalar_leaf : {k : ℕ} → Scalar k ≡ head_of t → Some k ≡ leaf_of (leaf t)
  unfolding leaf leaf_of
  scalar_leaf h = let x = scalar_is w h in ap Some x.no ∙ ap (λ (u : Ty). leaf_of (leaf u)) (sym x.is)

  pub vector_leaf : {n k : ℕ} → Vector n k ≡ head_of t → Some k ≡ leaf_of (leaf t)
  unfolding leaf leaf_of
  vector_leaf h = let x = vector_is w h in ap Some x.no ∙ ap (λ (u : Ty). leaf_of (leaf u)) (sym x.is)

  pub matrix_leaf : {c r k : ℕ} → Matrix c r k ≡ head_of t → Some k ≡ leaf_of (leaf t)
  unfolding leaf leaf_of
  matrix_leaf h = let x = matrix_is w h in ap Some x.no ∙ ap (λ (u : Ty). leaf_of (leaf u)) (sym x.is)

  pub array_leaf : {n : ℕ} {r : Option ℕ} → Array n ≡ head_of t → LeafAt (d - 1) s (at + 4) r → r ≡ leaf_of (leaf t)
  unfolding leaf
  array_leaf h f = let x = array_is w h in rw x.is (f x.elem e x.part)

  pub struct_leaf : {i n : ℕ} → Struct i n ≡ head_of t → None ≡ leaf_of (leaf t)
  unfolding leaf leaf_of
  struct_leaf h = let x = struct_is w h in rw x.is

-- ---- the record of a type without a struct in the way ends with its kind byte, and another kind there is another kind byte

pub record LastIs (t : Ty) (k : Kind) : Type 0 where
  pub front : List ℕ
  pub bytes : ty_bytes t ≡ front ++ (kind_no k ∷ [])
  pub other : (j : Kind) → ty_bytes (set_leaf j t) ≡ front ++ (kind_no j ∷ [])

pub leaf_last : (t : Ty) {k : Kind} → leaf t ≡ some k → LastIs t k
unfolding leaf ty_bytes set_leaf le
leaf_last (Ts j) {k} h = record { front = 84 ∷ 115 ∷ []; bytes = (let q : j ≡ k = cc in rw q); other = λ i. refl }
leaf_last (Tv n j) {k} h = record { front = 84 ∷ 118 ∷ n ∷ 84 ∷ 115 ∷ []; bytes = (let q : j ≡ k = cc in rw q); other = λ i. refl }
leaf_last (Tm c r j) {k} h = record { front = 84 ∷ 109 ∷ c ∷ r ∷ 84 ∷ 115 ∷ []; bytes = (let q : j ≡ k = cc in rw q); other = λ i. refl }
leaf_last (Ta n t) {k} h =
    let x = leaf_last t h in
    let a : List ℕ = 84 ∷ 97 ∷ n % 256 ∷ n / 256 % 256 ∷ [] in
    record { front = a ++ x.front; bytes = ap (λ (l : List ℕ). a ++ l) x.bytes; other = λ i. ap (λ (l : List ℕ). a ++ l) (x.other i) }
leaf_last (Tu i m) {k} h = absurd (let z : ◌≡◌ {A = ℕ} 0 1 = cc in omega arith)
