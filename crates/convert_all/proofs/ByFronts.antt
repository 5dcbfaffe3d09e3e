-- Whether a type converts to another by the fronts of both: a scalar, a vector or a matrix converts to its like of
-- another kind as the kind does, and to nothing else.
use mathlib.Core.Path.{◌≡◌, refl, sym, ap, ap₂, ◌∙◌, subst}
use mathlib.Core.Option.{some}
use mathlib.Core.Bool.{Bool, true, false}
use Prim.Native.Nat.{ℕ}
use native.Mathlib.Omega.{arith}
use lib.Dec.{T}
use Rattle.meaning.specs.Kinds.{Kind, kind_no, kind_rank}
use Rattle.meaning.specs.Scalars.{some?}
use Rattle.meaning.specs.Trees.{Ty, Ts, Tv, Tm, Ta, Tu, leaf, set_leaf}
use Rattle.meaning.specs.Convert.{converts}
use Rattle.laws.proofs.AgreeCommon.{converts_by}
use Rattle.laws.proofs.AgreeConv.{How, stays, changes, how, some_kind, none_some}
use Rattle.laws.proofs.AgreeVec.{converts_lit}
use Rattle.ty.specs.Heads.{head_of}
use Rattle.ty.specs.declared.Head.{Head}
use Rattle.ty.specs.declared.Head.TheVariants.{Scalar, Vector, Matrix}
use Rattle.record.proofs.Equal.{both_ways}
use Rattle.rank.specs.Ranked.{KindConverts}

-- the type t is g of the kind whose number j is
pub record OfKind (g : Kind → Ty) (j : ℕ) (t : Ty) : Type 0 where
  pub kind : Kind
  pub no : j ≡ kind_no kind
  pub is : t ≡ g kind

-- g makes a type of a kind, which is all that its front f does not fix
pub record Shape (g : Kind → Ty) (f : ℕ → Head) : Type 0 where
  pub front : (k : Kind) → head_of (g k) ≡ f (kind_no k)
  pub back : (t : Ty) (j : ℕ) → f j ≡ head_of t → OfKind g j t
  pub bottom : (k : Kind) → leaf (g k) ≡ some k
  pub set : (j k : Kind) → set_leaf k (g j) ≡ g k

pub scalars : Shape Ts Scalar
unfolding head_of leaf set_leaf
scalars = record { front = λ k. refl; back = go; bottom = λ k. refl; set = λ j k. refl }
  where
    go : (t : Ty) (j : ℕ) → Scalar j ≡ head_of t → OfKind Ts j t
    go (Ts k) j e = record { kind = k; no = cc; is = refl }
    go (Tv n k) j e = absurd (let z : ◌≡◌ {A = ℕ} 0 1 = cc in omega arith)
    go (Tm c r k) j e = absurd (let z : ◌≡◌ {A = ℕ} 0 1 = cc in omega arith)
    go (Ta n u) j e = absurd (let z : ◌≡◌ {A = ℕ} 0 1 = cc in omega arith)
    go (Tu i m) j e = absurd (let z : ◌≡◌ {A = ℕ} 0 1 = cc in omega arith)

pub vectors : (n : ℕ) → Shape (Tv n) (Vector n)
unfolding head_of leaf set_leaf
vectors n = record { front = λ k. refl; back = go; bottom = λ k. refl; set = λ j k. refl }
  where
    go : (t : Ty) (j : ℕ) → Vector n j ≡ head_of t → OfKind (Tv n) j t
    go (Ts k) j e = absurd (let z : ◌≡◌ {A = ℕ} 0 1 = cc in omega arith)
    go (Tv m k) j e = record { kind = k; no = cc; is = cc }
    go (Tm c r k) j e = absurd (let z : ◌≡◌ {A = ℕ} 0 1 = cc in omega arith)
    go (Ta m u) j e = absurd (let z : ◌≡◌ {A = ℕ} 0 1 = cc in omega arith)
    go (Tu i m) j e = absurd (let z : ◌≡◌ {A = ℕ} 0 1 = cc in omega arith)

pub matrices : (c r : ℕ) → Shape (Tm c r) (Matrix c r)
unfolding head_of leaf set_leaf
matrices c r = record { front = λ k. refl; back = go; bottom = λ k. refl; set = λ j k. refl }
  where
    go : (t : Ty) (j : ℕ) → Matrix c r j ≡ head_of t → OfKind (Tm c r) j t
    go (Ts k) j e = absurd (let z : ◌≡◌ {A = ℕ} 0 1 = cc in omega arith)
    go (Tv m k) j e = absurd (let z : ◌≡◌ {A = ℕ} 0 1 = cc in omega arith)
    go (Tm a b k) j e = record { kind = k; no = cc; is = cc }
    go (Ta m u) j e = absurd (let z : ◌≡◌ {A = ℕ} 0 1 = cc in omega arith)
    go (Tu i m) j e = absurd (let z : ◌≡◌ {A = ℕ} 0 1 = cc in omega arith)

module _ {g : Kind → Ty} {f : ℕ → Head} (x : Shape g f) where
  as_kinds : (a b : Kind) → converts (Ts a) (Ts b) ≡ converts (g a) (g b)
  as_kinds a b =
      both_ways (converts (Ts a) (Ts b)) (converts (g a) (g b))
      (λ p. converts_by (g a) (g b) a b (x.bottom a) (x.bottom b) (x.set a b) (subst T (converts_lit a b) p))
      (λ p. subst T (sym (converts_lit a b)) (go (how (g a) (g b) p)))
    where
      go : How (g a) (g b) → T (some? (kind_rank a b))
      go (stays e l) = absurd (none_some (sym l ∙ x.bottom b))
      go (changes i k e l q r) =
          subst (λ (h : Kind). T (some? (kind_rank h b))) (some_kind (sym e ∙ x.bottom a))
          (subst (λ (h : Kind). T (some? (kind_rank i h))) (some_kind (sym l ∙ x.bottom b)) r)

  module _ (j : ℕ) (t u : Ty) (h : f j ≡ head_of t) where
    -- to its like, as the kinds do
    pub like : (k : ℕ) → f k ≡ head_of u → {r : Bool} → KindConverts j k r → r ≡ converts t u
    like k l c =
        let a = x.back t j h in
        let b = x.back u k l in
        c a.kind b.kind a.no b.no ∙ (as_kinds a.kind b.kind ∙ ap₂ converts (sym a.is) (sym b.is))

    -- to nothing else
    pub unlike : {a b : Head} → a ≡ head_of u → a ≡ b → ((k : ℕ) → b ≡ f k → ⊥) → false ≡ converts t u
    unlike p o n = go (converts t u) refl
      where
        no_how : How t u → ⊥
        no_how (stays e l) = let a = x.back t j h in none_some (sym l ∙ (ap leaf (sym e ∙ a.is) ∙ x.bottom a.kind))
        no_how (changes i k e l q r) = let a = x.back t j h in n (kind_no k)
            (sym o ∙ (p ∙ (ap head_of (sym q ∙ (ap (set_leaf k) a.is ∙ x.set a.kind k)) ∙ x.front k)))

        go : (b : Bool) → converts t u ≡ b → false ≡ b
        go true e = absurd (no_how (how t u (subst T (sym e) tt)))
        go false e = refl
