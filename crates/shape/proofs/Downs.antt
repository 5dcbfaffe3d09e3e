-- The kind one level down, to another one.
use mathlib.Core.Path.{◌≡◌, refl, sym, ap, ◌∙◌}
use mathlib.Core.Option.{Option, none, some}
use mathlib.Core.Bool.{Bool, true, false, cond}
use Prim.Native.Nat.{ℕ}
use native.Mathlib.Omega.{arith}
use Rattle.meaning.specs.Kinds.{Kind, kind_no}
use Rattle.meaning.specs.Scalars.{some?}
use Rattle.meaning.specs.Trees.{Ty, Ts, set_leaf, inner}
use Rattle.meaning.specs.Convert.{converts}
use Rattle.meaning.specs.Build.{lit_kind, to_inner}
use Rattle.laws.proofs.AgreeMat.{Down, down}
use Rattle.laws.proofs.AgreeVec.{not_to_scalar}
use Rattle.rank.specs.Ranked.{KindConverts}
use Rattle.shape.specs.Kinds.{found_of}
use Rattle.shape.proofs.KindsFound.{found_kind, found_none, lit_is}
use Rattle.std.specs.declared.option.Option.TheVariants.{None, Some}

-- an option that the test says of
pub some_of : {A : Type 0} (o : Option A) → true ≡ some? o → (a : A) × (o ≡ some a)
unfolding some?
some_of none h = absurd (let z : ◌≡◌ {A = ℕ} 0 1 = cc in omega arith)
some_of (some a) h = (a, refl)

pub none_of : {A : Type 0} (o : Option A) → false ≡ some? o → o ≡ none
unfolding some?
none_of none h = refl
none_of (some a) h = absurd (let z : ◌≡◌ {A = ℕ} 0 1 = cc in omega arith)

down_by : (j : Kind) (t : Ty) → some? (to_inner j t) ≡ converts (inner t) (Ts j)
unfolding to_inner some?
down_by j t = go (converts (inner t) (Ts j))
  where
    go : (b : Bool) → some? (cond b (some (set_leaf j t)) none) ≡ b
    go true = refl
    go false = refl

module _ {k : ℕ} (j : Kind) (n : k ≡ kind_no j) (t : Ty) where
  -- by whether the kind one level down converts
  pub by_kind : {i : ℕ} → Some i ≡ found_of (lit_kind (inner t)) → {b : Bool} → KindConverts i k b → b ≡ some? (to_inner j t)
  by_kind {i} h f = let y = found_kind (lit_kind (inner t)) h in f y.kind j y.no n
      ∙ sym (down_by j t ∙ ap (λ (u : Ty). converts u (Ts j)) (lit_is (inner t) y.is))

  pub down_other : None ≡ found_of (lit_kind (inner t)) → false ≡ some? (to_inner j t)
  down_other h = sym (down_by j t ∙ not_to_scalar (inner t) j (found_none (lit_kind (inner t)) h))

-- what the answer of `goes_down` means
pub goes_no : (j : Kind) (t : Ty) → false ≡ some? (to_inner j t) → to_inner j t ≡ none
goes_no j t h = none_of (to_inner j t) h

pub record GoesTo (j : Kind) (t : Ty) : Type 0 where
  pub into : to_inner j t ≡ some (set_leaf j t)
  pub down : Down j t (set_leaf j t)

pub goes_to : (j : Kind) (t : Ty) → true ≡ some? (to_inner j t) → GoesTo j t
goes_to j t h =
    let o = some_of (to_inner j t) h in
    let d = down j t o.0 o.1 in
    record { into = o.1 ∙ ap some (sym d.is); down = record { kind = d.kind; at = d.at; is = refl; ranks = d.ranks } }

-- the same, of the kind one level down and whether it converts
module _ {k : ℕ} (j : Kind) (n : k ≡ kind_no j) (t : Ty) {i : ℕ} (h : Some i ≡ found_of (lit_kind (inner t))) {b : Bool}
    (f : KindConverts i k b) where
  pub kind_stays : b ≡ false → to_inner j t ≡ none
  kind_stays e = goes_no j t (sym e ∙ by_kind j n t h f)

  pub kind_goes : b ≡ true → GoesTo j t
  kind_goes e = goes_to j t (sym e ∙ by_kind j n t h f)
