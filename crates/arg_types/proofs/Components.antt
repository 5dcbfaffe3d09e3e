-- The components that types bring to a vector: their kind, and their number.
use mathlib.Core.Path.{◌≡◌, refl, sym, ap, ◌∙◌}
use mathlib.Core.Option.{Option as Maybe, none, some}
use mathlib.Core.List.{List, [], ◌∷◌}
use mathlib.Core.Bool.{Bool, true, false}
use Prim.Native.Nat.{ℕ, ◌+◌, ◌≤◌}
use native.Mathlib.Omega.{arith}
use lib.Dec.{T, leb, leb→le}
use lib.ListN.{length}
use Rattle.meaning.specs.Kinds.{Kind, kind_no}
use Rattle.meaning.specs.Trees.{Ty, Ts, Tv, Tm, Ta, Tu}
use Rattle.meaning.specs.Records.{ty_bytes, le, side, shaped_ty}
use Rattle.meaning.specs.Answers.{no}
use Rattle.meaning.specs.Convert.{converts}
use Rattle.meaning.specs.Typing.{part_kind, part_count, part_of, part_to, total}
use Rattle.laws.proofs.Back.{and_r}
use Rattle.laws.proofs.AgreeConv.{none_some}
use Rattle.laws.proofs.Sound.{some_inj}
use Rattle.ty.specs.Stands.{Stands}
use Rattle.ty.proofs.Bottom.{KindIs}
use Rattle.shape.proofs.KindsFound.{found_kind, found_none}
use Rattle.arg_types.specs.Components.{ComponentKind, Passes}
use Rattle.std.specs.Option.{is_some}
use Rattle.std.specs.declared.option.Option.{Option}
use Rattle.std.specs.declared.option.Option.TheVariants.{None, Some}

module _ {s : List ℕ} {i : ℕ} {t : Ty} {e : ℕ} (w : Stands 15 s i t e) {r : Option ℕ} (f : ComponentKind s i r) where
  pub part_some : {k : ℕ} → r ≡ Some k → KindIs k (part_kind t)
  part_some h = found_kind (part_kind t) (sym h ∙ f t e w)

  pub part_none : r ≡ None → part_kind t ≡ none
  part_none h = found_none (part_kind t) (sym h ∙ f t e w)

module _ {o : Maybe Kind} where
  pub same_kind_lem : {k : ℕ} {b : Kind} → KindIs k o → o ≡ some b → k ≡ kind_no b
  same_kind_lem {b = b} x h = let z : x.kind ≡ b = some_inj (sym x.is ∙ h) in x.no ∙ ap kind_no z

  pub no_kind : {b : Kind} → o ≡ none → o ≡ some b → ⊥
  no_kind e h = none_some (sym e ∙ h)

module _ (t : Ty) where
  pub to_none : (j : Kind) → part_kind t ≡ none → part_to j t ≡ no 12
  unfolding part_to part_of
  to_none j h = rw h

  pub to_kind : (j : Kind) {k : ℕ} (x : KindIs k (part_kind t)) (r : Bool) → r ≡ converts (Ts x.kind) (Ts j) → Passes 12 (part_to j t) r
  unfolding part_to part_of
  to_kind j x true p = record { value = x.kind; is = rw (x.is, sym p) }
  to_kind j x false p = rw (x.is, sym p)

-- a part is what brings components
pub passes_part : {s : List ℕ} {i : ℕ} {t : Ty} {e : ℕ} → Stands 15 s i t e → {r : Option ℕ} → ComponentKind s i r
    → Passes 12 (part_of t) (is_some r)
unfolding part_of
passes_part {t = t} w {r} f = go r refl
  where
    go : (x : Option ℕ) → r ≡ x → Passes 12 (part_of t) (is_some x)
    go (Some k) h = let x = part_some w f h in record { value = x.kind; is = rw x.is }
    go None h = rw (part_none w f h)

-- a component takes a byte at least
pub count_small : (t : Ty) → T (shaped_ty t) → part_count t ≤ length (ty_bytes t)
unfolding part_count ty_bytes shaped_ty side le
count_small (Ts k) g = omega arith
count_small (Tv n k) g = omega (arith, leb→le n 4 (and_r (leb 2 n) (leb n 4) g))
count_small (Tm c r k) g = omega arith
count_small (Ta n t) g = omega arith
count_small (Tu i m) g = omega arith

-- the sum so far, and what is left to be added
abbrev pub Adds : ℕ → ℕ → ℕ → List Ty → Type 0
Adds i sum n l = (sum ≤ i) × (sum + total l ≡ n)

module _ {s : List ℕ} {i sum n : ℕ} {t : Ty} (l : List Ty) {e c : ℕ} (w : Stands 15 s i t e) (q : Adds i sum n (t ∷ l))
    (p : c ≡ part_count t) where
  pub adds_on : Adds e (sum + c) n l
  unfolding total
  adds_on = (omega (arith, q.0, w.size, count_small t w.shaped), omega (arith, q.1))

pub adds_end : {i sum n : ℕ} → Adds i sum n [] → sum ≡ n
unfolding total
adds_end q = omega (arith, q.1)
