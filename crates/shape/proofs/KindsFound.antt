-- Scalar kinds by their numbers, and the kinds that stand in types.
use mathlib.Core.Path.{◌≡◌, refl, sym, ap, ◌∙◌}
use mathlib.Core.Option.{Option as Maybe, none, some}
use mathlib.Core.Bool.{Bool, true, false, cond}
use mathlib.Core.List.{List}
use Prim.Native.Nat.{ℕ, ◌+◌, ◌-◌}
use native.Mathlib.Omega.{arith}
use borrow.Author.Tests.{ne_eqb}
use Rattle.meaning.specs.Kinds.{Kind, kind_no, kind_of, is_float, same_kind}
use Rattle.meaning.specs.Trees.{Ty, Ts, Tv, Tm, Ta, Tu, Tys, inner}
use Rattle.meaning.specs.Answers.{map_some}
use Rattle.meaning.specs.Convert.{converts, float_kind, meet}
use Rattle.meaning.specs.Build.{lit_kind}
use Rattle.laws.proofs.AgreeConv.{none_some}
use Rattle.laws.proofs.AgreeLit.{kind_back}
use Rattle.laws.proofs.Sound.{kind_no_lem}
use Rattle.kind.specs.Ends.{of_kind, tested}
use Rattle.ty.specs.Stands.{Stands, Standing}
use Rattle.ty.specs.Heads.{head_of}
use Rattle.ty.specs.declared.Head.TheVariants.{Scalar, Vector, Matrix, Array, Struct}
use Rattle.ty.proofs.Heads.{scalar_is, vector_is, matrix_is, array_is, struct_is}
use Rattle.ty.proofs.Bottom.{KindIs}
use Rattle.shape.specs.Kinds.{found_of, meet_kind, float_found, LitKindAt}
use Rattle.std.specs.declared.option.Option.{Option}
use Rattle.std.specs.declared.option.Option.TheVariants.{None, Some}

-- ---- a kind that was found, or none

pub found_kind : {k : ℕ} (o : Maybe Kind) → Some k ≡ found_of o → KindIs k o
unfolding found_of
found_kind none e = absurd (let z : ◌≡◌ {A = ℕ} 0 1 = cc in omega arith)
found_kind (some j) e = record { kind = j; is = refl; no = cc }

pub found_none : (o : Maybe Kind) → None ≡ found_of o → o ≡ none
unfolding found_of
found_none none e = refl
found_none (some j) e = absurd (let z : ◌≡◌ {A = ℕ} 0 1 = cc in omega arith)

-- ---- the common kind of two

module _ {j k : ℕ} (a b : Kind) (e : j ≡ kind_no a) (f : k ≡ kind_no b) where
  module _ {x : Bool} (p : x ≡ converts (Ts a) (Ts b)) where
    pub meet_next : x ≡ true → Some k ≡ found_of (meet_kind a b)
    unfolding meet_kind found_of
    meet_next h = rw (sym p ∙ h, f)

    module _ {y : Bool} (q : y ≡ converts (Ts b) (Ts a)) (h : x ≡ false) where
      pub meet_first : y ≡ true → Some j ≡ found_of (meet_kind a b)
      unfolding meet_kind found_of
      meet_first i = rw (sym p ∙ h, sym q ∙ i, e)

      pub meet_none : y ≡ false → None ≡ found_of (meet_kind a b)
      unfolding meet_kind found_of
      meet_none i = rw (sym p ∙ h, sym q ∙ i)

-- it is the common type of the scalars
pub kinds_meet : (a b : Kind) → meet (some (Ts a)) (Ts b) ≡ map_some Ts (meet_kind a b)
unfolding meet map_some meet_kind
kinds_meet a b = go (converts (Ts a) (Ts b)) (converts (Ts b) (Ts a))
  where
    go : (p q : Bool) → cond p (some (Ts b)) (cond q (some (Ts a)) none) ≡ map_some Ts (cond p (some b) (cond q (some a) none))
    go true q = refl
    go false true = refl
    go false false = refl

-- ---- "float, AbstractInt becoming AbstractFloat"

pub float_int : {k : ℕ} → k ≡ 1 → Some 2 ≡ float_found k
unfolding float_found found_of of_kind kind_of float_kind same_kind kind_no
float_int h = rw h

module _ {k : ℕ} (h : k ≡ 1 → ⊥) {b : Bool} (q : b ≡ tested is_float k) where
  pub float_yes : b ≡ true → Some k ≡ float_found k
  unfolding float_found of_kind found_of float_kind same_kind kind_no
  float_yes e = go (kind_of k) refl (sym e ∙ q)
    where
      go : (o : Maybe Kind) → kind_of k ≡ o → true ≡ of_kind false is_float o → Some k ≡ found_of (of_kind none (λ j. float_kind (Ts j)) o)
      go none p u = absurd (let z : ◌≡◌ {A = ℕ} 0 1 = cc in omega arith)
      go (some j) p u = let n : k ≡ kind_no j = kind_no_lem k j p in rw (ne_eqb (kind_no j) 1 (λ z. h (n ∙ z)), sym u) (ap Some n)

  pub float_not : b ≡ false → None ≡ float_found k
  unfolding float_found of_kind found_of float_kind same_kind kind_no
  float_not e = go (kind_of k) refl (sym e ∙ q)
    where
      go : (o : Maybe Kind) → kind_of k ≡ o → false ≡ of_kind false is_float o → None ≡ found_of (of_kind none (λ j. float_kind (Ts j)) o)
      go none p u = refl
      go (some j) p u = let n : k ≡ kind_no j = kind_no_lem k j p in rw (ne_eqb (kind_no j) 1 (λ z. h (n ∙ z)), sym u)

-- ---- one level down

pub lit_is : (t : Ty) {k : Kind} → lit_kind t ≡ some k → t ≡ Ts k
unfolding lit_kind
lit_is (Ts j) h = cc
lit_is (Tv n j) h = absurd (none_some h)
lit_is (Tm c r j) h = absurd (none_some h)
lit_is (Ta n t) h = absurd (none_some h)
lit_is (Tu i m) h = absurd (none_some h)

no_float : (t : Ty) → lit_kind t ≡ none → float_kind t ≡ none
unfolding lit_kind float_kind
no_float (Ts k) h = absurd (none_some (sym h))
no_float (Tv n k) h = refl
no_float (Tm c r k) h = refl
no_float (Ta n t) h = refl
no_float (Tu i m) h = refl

module _ (t : Ty) where
  pub inner_float : {k : ℕ} {r : Option ℕ} → Some k ≡ found_of (lit_kind (inner t)) → r ≡ float_found k → r ≡ found_of (float_kind (inner t))
  unfolding float_found of_kind
  inner_float {k} h q = let y = found_kind (lit_kind (inner t)) h in q ∙ go y.kind y.no (lit_is (inner t) y.is)
    where
      go : (j : Kind) → k ≡ kind_no j → inner t ≡ Ts j → float_found k ≡ found_of (float_kind (inner t))
      go j n e = rw (n, kind_back j, e)

  pub inner_nothing : None ≡ found_of (lit_kind (inner t)) → None ≡ found_of (float_kind (inner t))
  unfolding found_of
  inner_nothing h = ap found_of (sym (no_float (inner t) (found_none (lit_kind (inner t)) h)))

-- ---- by the front of a type: the kind that f finds in it, or that it finds none

module _ (f : Ty → Maybe Kind) {d : ℕ} {s : List ℕ} {i : ℕ} {t : Ty} {e : ℕ} (w : Stands d s i t e) where
  pub scalar_found : {k : ℕ} → Scalar k ≡ head_of t → ((j : Kind) → f (Ts j) ≡ some j) → Some k ≡ found_of (f t)
  unfolding found_of
  scalar_found h g = let x = scalar_is w h in ap Some x.no ∙ ap found_of (sym (ap f x.is ∙ g x.kind))

  pub vector_found : {n k : ℕ} → Vector n k ≡ head_of t → ((j : Kind) → f (Tv n j) ≡ some j) → Some k ≡ found_of (f t)
  unfolding found_of
  vector_found h g = let x = vector_is w h in ap Some x.no ∙ ap found_of (sym (ap f x.is ∙ g x.kind))

  pub matrix_found : {c r k : ℕ} → Matrix c r k ≡ head_of t → ((j : Kind) → f (Tm c r j) ≡ some j) → Some k ≡ found_of (f t)
  unfolding found_of
  matrix_found h g = let x = matrix_is w h in ap Some x.no ∙ ap found_of (sym (ap f x.is ∙ g x.kind))

  pub vector_nothing : {n k : ℕ} → Vector n k ≡ head_of t → ((j : Kind) → f (Tv n j) ≡ none) → None ≡ found_of (f t)
  unfolding found_of
  vector_nothing h g = let x = vector_is w h in ap found_of (sym (ap f x.is ∙ g x.kind))

  pub matrix_nothing : {c r k : ℕ} → Matrix c r k ≡ head_of t → ((j : Kind) → f (Tm c r j) ≡ none) → None ≡ found_of (f t)
  unfolding found_of
  matrix_nothing h g = let x = matrix_is w h in ap found_of (sym (ap f x.is ∙ g x.kind))

  pub array_nothing : {n : ℕ} → Array n ≡ head_of t → ((u : Ty) → f (Ta n u) ≡ none) → None ≡ found_of (f t)
  unfolding found_of
  array_nothing h g = let x = array_is w h in ap found_of (sym (ap f x.is ∙ g x.elem))

  pub struct_nothing : {m n : ℕ} → Struct m n ≡ head_of t → ((l : Tys) → f (Tu m l) ≡ none) → None ≡ found_of (f t)
  unfolding found_of
  struct_nothing h g = let x = struct_is w h in ap found_of (sym (ap f x.is ∙ g x.members))

-- the elements of an array, one level down
module _ {d : ℕ} {s : List ℕ} {i : ℕ} {t : Ty} {e : ℕ} (w : Stands d s i t e) {n : ℕ} (h : Array n ≡ head_of t) where
  pub elem_stands : Standing (d - 1) s (i + 4)
  elem_stands = record { type = _; end = _; stands = (array_is w h).part }

  pub array_inner : {r : Option ℕ} → LitKindAt (d - 1) s (i + 4) r → r ≡ found_of (lit_kind (inner t))
  unfolding inner
  array_inner f = let x = array_is w h in f x.elem e x.part ∙ ap (λ (u : Ty). found_of (lit_kind (inner u))) (sym x.is)
