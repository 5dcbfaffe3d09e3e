-- A type with another kind at the bottom.
use mathlib.Core.Path.{◌≡◌, refl, sym, ap, ◌∙◌}
use mathlib.Core.Option.{Option, none, some}
use mathlib.Core.List.{List, [], ◌∷◌, ◌++◌, append_assoc}
use mathlib.Core.Bool.{false, ◌&&◌}
use Prim.Native.Nat.{ℕ, suc, ◌+◌, ◌-◌, ◌<◌}
use native.Mathlib.Omega.{arith}
use lib.Dec.{T, leb}
use lib.ListN.{length, drop, set, length-append, length-set}
use lib.Seq.{set_at, drop-set-lt}
use Rattle.meaning.specs.Kinds.{Kind, kind_no, kind_of, is_float}
use Rattle.meaning.specs.Trees.{Ty, Ts, Tv, Tm, Ta, Tu, depth, leaf, set_leaf}
use Rattle.meaning.specs.Records.{ty_bytes, shaped_ty, side, u16}
use Rattle.laws.proofs.AgreeConv.{none_some}
use Rattle.laws.proofs.AgreeLit.{kind_back}
use Rattle.laws.proofs.Back.{and_l, and_r}
use Rattle.laws.proofs.Same.{both}
use Rattle.laws.proofs.Sound.{kind_no_lem}
use Rattle.kind.specs.Ends.{of_kind}
use Rattle.ty.specs.Stands.{Stands}
use Rattle.ty.specs.TypeFronts.{float_number}
use Rattle.ty.proofs.Leaves.{leaf_last}
use Rattle.shape.proofs.TypeRows.{some_type}

set_shaped : (t : Ty) (i : Kind) {j : Kind} → leaf t ≡ some j → T (is_float i) → T (shaped_ty t) → T (shaped_ty (set_leaf i t))
unfolding leaf set_leaf shaped_ty
set_shaped (Ts k) i h f g = tt
set_shaped (Tv n k) i h f g = g
set_shaped (Tm c r k) i h f g = both (side c && side r) (is_float i) (and_l (side c && side r) (is_float k) g) f
set_shaped (Ta n t) i h f g = both (leb 1 n && u16 n) (shaped_ty (set_leaf i t)) (and_l (leb 1 n && u16 n) (shaped_ty t) g)
    (set_shaped t i h f (and_r (leb 1 n && u16 n) (shaped_ty t) g))
set_shaped (Tu l m) i h f g = absurd (none_some h)

set_deep : (t : Ty) (i : Kind) → depth (set_leaf i t) ≡ depth t
unfolding set_leaf depth
set_deep (Ts k) i = refl
set_deep (Tv n k) i = refl
set_deep (Tm c r k) i = refl
set_deep (Ta n t) i = ap suc (set_deep t i)
set_deep (Tu l m) i = refl

pub float_is : {k : ℕ} (j : Kind) → k ≡ kind_no j → T (float_number k) → T (is_float j)
unfolding of_kind
float_is j n h = rw (n, kind_back j) at h

pub float_no : (k : ℕ) → T (float_number k) → (j : Kind) × (k ≡ kind_no j)
unfolding of_kind
float_no k h = go (kind_of k) refl h
  where
    go : (o : Option Kind) → kind_of k ≡ o → T (of_kind false is_float o) → (j : Kind) × (k ≡ kind_no j)
    go none e h = absurd h
    go (some j) e h = (j, kind_no_lem k j e)

-- the last byte of the record is the kind
pub set_stands : {ty : List ℕ} {t : Ty} {q : ℕ} (i : Kind) {j : Kind} {k : ℕ} → Stands 15 ty 0 t q → leaf t ≡ some j → k ≡ kind_no i
    → T (is_float i) → Stands 15 (set ty (q - 1) k) 0 (set_leaf i t) q
set_stands {ty} {t} {q} i {j} {k} w h n f =
    let x = leaf_last t h in
    let a : List ℕ = x.front in
    let l : length (ty_bytes t) ≡ length a + 1 = ap length x.bytes ∙ length-append a (kind_no j ∷ []) in
    let m : length (ty_bytes (set_leaf i t)) ≡ length a + 1 = ap length (x.other i) ∙ length-append a (kind_no i ∷ []) in
    let p : length a ≡ q - 1 = omega (arith, w.size) in
    let z : q - 1 < q = omega (arith, w.size) in
    let b : ty ≡ a ++ (kind_no j ∷ drop q ty) = w.here ∙ (ap (λ (s : List ℕ). s ++ drop q ty) x.bytes
    ∙ append_assoc a (kind_no j ∷ []) (drop q ty)) in
    let c : set ty (q - 1) k ≡ a ++ (k ∷ drop q ty) = ap (λ (s : List ℕ). set s (q - 1) k) b
    ∙ set_at a (kind_no j) (drop q ty) k (q - 1) p in
    let d : a ++ (k ∷ drop q ty) ≡ ty_bytes (set_leaf i t) ++ drop q ty = ap (λ (s : ℕ). a ++ (s ∷ drop q ty)) n
    ∙ (sym (append_assoc a (kind_no i ∷ []) (drop q ty)) ∙ ap (λ (s : List ℕ). s ++ drop q ty) (sym (x.other i))) in
    record {
      here = c ∙ (d ∙ ap (λ (s : List ℕ). ty_bytes (set_leaf i t) ++ s) (sym (drop-set-lt q ty (q - 1) k z)));
      size = omega (arith, w.size);
      within = rw (length-set ty (q - 1) k) w.within;
      shaped = set_shaped t i h f w.shaped;
      deep = omega (arith, w.deep, set_deep t i);
    }

-- a type's record has bytes
pub type_some : {d : ℕ} {ty : List ℕ} {t : Ty} {q : ℕ} → Stands d ty 0 t q → 0 < q
type_some {t = t} w = omega (arith, w.size, some_type t)
