-- Which types have a layout: what the steps over a type's record come to.
use mathlib.Core.Path.{◌≡◌, refl, sym, ap, ◌∙◌}
use mathlib.Core.List.{List}
use mathlib.Core.Bool.{Bool, true, false, ◌&&◌}
use Prim.Native.Nat.{ℕ, ◌+◌, ◌-◌, ◌<◌}
use native.Mathlib.Omega.{arith}
use Rattle.meaning.specs.Kinds.{Kind, kind_no}
use Rattle.meaning.specs.Trees.{Tys}
use Rattle.meaning.specs.Layout.{laid_kind, has_layout, have_layouts}
use Rattle.laws.proofs.AgreeLit.{kind_back}
use Rattle.kind.specs.Ends.{of_kind, tested}
use Rattle.ty.specs.Stands.{StandAll, Standing}
use Rattle.ty.specs.Heads.{HeadAt}
use Rattle.ty.specs.declared.Head.TheVariants.{Scalar, Vector, Matrix, Array, Struct}
use Rattle.ty.proofs.Heads.{scalar_is, vector_is, matrix_is, array_is, struct_is, first_is, none_is, FirstIs}
use Rattle.layout.specs.Laid.{end_if, KindLaid, LaidAt, LaidAll}
use Rattle.std.specs.declared.option.Option.{Option}
use Rattle.std.specs.declared.option.Option.TheVariants.{None, Some}

-- ---- by the kind's number

laid_of : (j : Kind) → tested laid_kind (kind_no j) ≡ laid_kind j
unfolding of_kind
laid_of j = rw (kind_back j)

pub kind_laid : {b : Bool} {k : ℕ} (e : ℕ) (b' : Bool) → b ≡ tested laid_kind k → b ≡ b' → KindLaid k e (end_if b' e)
kind_laid e b' h q j p = ap (λ (x : Bool). end_if x e) (sym q ∙ (h ∙ (ap (tested laid_kind) p ∙ laid_of j)))

-- ---- what an answer says

pub at_end : {a e : ℕ} (b : Bool) → Some a ≡ end_if b e → (b ≡ true) × (a ≡ e)
at_end true h = (refl, cc)
at_end false h = absurd (let z : ◌≡◌ {A = ℕ} 0 1 = cc in omega arith)

pub bad_end : (e : ℕ) (b : Bool) → None ≡ end_if b e → b ≡ false
bad_end e true h = absurd (let z : ◌≡◌ {A = ℕ} 0 1 = cc in omega arith)
bad_end e false h = refl

-- ---- the arms of `walk_laid`

fixed_laid : {r : Option ℕ} {k a e : ℕ} (j : Kind) {b : Bool} → k ≡ kind_no j → b ≡ laid_kind j → a ≡ e → KindLaid k a r → r ≡ end_if b e
fixed_laid j p q i z = rw (q, ← i) (z j p)

module _ {d : ℕ} {s : List ℕ} {at : ℕ} {r : Option ℕ} where
  pub scalar_laid : {k : ℕ} → HeadAt d s at (Scalar k) → KindLaid k (at + 3) r → LaidAt d s at r
  unfolding has_layout
  scalar_laid h z t e w = let x = scalar_is w (h t e w) in fixed_laid x.kind x.no (ap has_layout x.is) x.end z

  pub vector_laid : {n k : ℕ} → HeadAt d s at (Vector n k) → KindLaid k (at + 6) r → LaidAt d s at r
  unfolding has_layout
  vector_laid h z t e w = let x = vector_is w (h t e w) in fixed_laid x.kind x.no (ap has_layout x.is) x.end z

  pub matrix_laid : {c l k : ℕ} → HeadAt d s at (Matrix c l k) → KindLaid k (at + 7) r → LaidAt d s at r
  unfolding has_layout
  matrix_laid h z t e w = let x = matrix_is w (h t e w) in fixed_laid x.kind x.no (ap has_layout x.is) x.end z

  pub array_laid : {n : ℕ} → HeadAt d s at (Array n) → LaidAt (d - 1) s (at + 4) r → LaidAt d s at r
  unfolding has_layout
  array_laid h z t e w = let x = array_is w (h t e w) in rw x.is (z x.elem e x.part)

  pub struct_laid : {i n : ℕ} → HeadAt d s at (Struct i n) → LaidAll (d - 1) s (at + 6) n r → LaidAt d s at r
  unfolding has_layout
  struct_laid h z t e w = let x = struct_is w (h t e w) in rw x.is (z x.members e x.parts)

-- ---- the loop over members: what is left of them, and all before them have a layout

pub record LaidLeft (d : ℕ) (s : List ℕ) (m₀ : Tys) (e i left : ℕ) : Type 0 where
  pub types : Tys
  pub stands : StandAll d s i left types e
  pub same : have_layouts types ≡ have_layouts m₀

module _ {d : ℕ} {s : List ℕ} {m₀ : Tys} {e i left : ℕ} (w : LaidLeft d s m₀ e i left) where
  firstly : 0 < left → FirstIs d s i left w.types e
  firstly h = first_is w.stands h

  pub laid_first : 0 < left → Standing d s i
  laid_first h = let f = firstly h in record { type = f.type; end = f.mid; stands = f.first }

  more : (h : 0 < left) → have_layouts m₀ ≡ (has_layout (firstly h).type && have_layouts (firstly h).others)
  unfolding have_layouts
  more h = sym w.same ∙ ap have_layouts (firstly h).is

  pub laid_again : 0 < left → {left' e' : ℕ} → left' ≡ left - 1 → LaidAt d s i (Some e') → LaidLeft d s m₀ e e' left'
  laid_again h k q =
      let f = firstly h in
      let x = at_end (has_layout f.type) (q f.type f.mid f.first) in
      record { types = f.others; stands = rw (x.1, k) f.rest; same = sym (rw x.0 at (more h)) }

  pub laid_bad : 0 < left → LaidAt d s i None → None ≡ end_if (have_layouts m₀) e
  laid_bad h q =
      let f = firstly h in
      let x = bad_end f.mid (has_layout f.type) (q f.type f.mid f.first) in
      rw (more h, x)

  pub laid_none : left ≡ 0 → Some i ≡ end_if (have_layouts m₀) e
  unfolding have_layouts
  laid_none h = let x = none_is w.stands h in rw (← w.same, x.0, x.1)
