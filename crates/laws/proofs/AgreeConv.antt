-- Values: conversion of a value whose type converts gives a value of the type exactly where every literal fits.
use mathlib.Core.Path.{◌≡◌, refl, sym, ap, ap₂, ◌∙◌, subst}
use mathlib.Core.Option.{Option, none, some}
use mathlib.Core.List.{List, [], ◌∷◌, ◌++◌, map}
use mathlib.Core.Bool.{Bool, true, false, ◌&&◌, and_assoc, cond}
use Prim.Native.Nat.{ℕ, suc, ◌*◌}
use lib.Dec.{T, leb, eqb}
use lib.ListN.{length}
use Rattle.meaning.specs.Kinds.{Kind, bool, aint, afloat, i32, u32, f32, f16, kind_rank, same_kind, kind_no, from_aint, from_afloat, from_same}
use Rattle.meaning.specs.Scalars.{Stage, fits_conv, conv, some?}
use Rattle.meaning.specs.Trees.{Ty, Ts, Tv, Tm, Ta, Tu, Val, Vs, Vv, Vm, Va, Vu, Vals, ⟨⟩, ◌▹◌, same_ty, type_of, types_of}
use Rattle.meaning.specs.Trees.{first, count_vals, leaf, set_leaf, tys_list}
use Rattle.meaning.specs.Answers.{all_some, map_some}
use Rattle.meaning.specs.Records.{every, good_lit, shaped_val, shaped_vals, shaped_ty, all_same, u16}
use Rattle.meaning.specs.Convert.{rank, leaf_rank, converts, conv_lits, conv_all, conv_leaf, conv_val}
use Rattle.laws.specs.Demand.{literals, literals_of, lit_fits, fits_leaf}
use Rattle.laws.proofs.AgreeLit.{LitO, conv_lit}
use Rattle.laws.proofs.Back.{and_l, and_r}
use Rattle.laws.proofs.Same.{same_ty_lem, same_refl, both}

-- ---- how a type converts

pub data How (a b : Ty) : Type 0 where
  stays : a ≡ b → leaf b ≡ none → How a b
  changes : (j k : Kind) → leaf a ≡ some j → leaf b ≡ some k → set_leaf k a ≡ b → T (some? (kind_rank j k)) → How a b

pub rank_refl : (k : Kind) → T (some? (kind_rank k k))
unfolding some? kind_rank same_kind kind_no from_aint from_afloat from_same
rank_refl bool = tt
rank_refl aint = tt
rank_refl afloat = tt
rank_refl i32 = tt
rank_refl u32 = tt
rank_refl f32 = tt
rank_refl f16 = tt

pub some_kind : {j k : Kind} → ◌≡◌ {A = Option Kind} (some j) (some k) → j ≡ k
some_kind h = cc

pub set_same : (t : Ty) (k : Kind) → leaf t ≡ some k → set_leaf k t ≡ t
unfolding leaf set_leaf
set_same (Ts j) k h = ap Ts (sym (some_kind h))
set_same (Tv n j) k h = ap (Tv n) (sym (some_kind h))
set_same (Tm c r j) k h = ap (Tm c r) (sym (some_kind h))
set_same (Ta n t) k h = ap (Ta n) (set_same t k h)
set_same (Tu i m) k h = refl

pub leaf_set : (t : Ty) (j k : Kind) → leaf t ≡ some j → leaf (set_leaf k t) ≡ some k
unfolding leaf set_leaf
leaf_set (Ts i) j k h = refl
leaf_set (Tv n i) j k h = refl
leaf_set (Tm c r i) j k h = refl
leaf_set (Ta n t) j k h = leaf_set t j k h
leaf_set (Tu i m) j k h = absurd (let z : ◌≡◌ {A = ℕ} 0 1 = cc in bad z)
  where
    bad : ◌≡◌ {A = ℕ} 0 1 → ⊥
    bad z = subst (λ (n : ℕ). T (eqb n 0)) z tt

pub how_same : (a b : Ty) → a ≡ b → (o : Option Kind) → leaf b ≡ o → How a b
how_same a b e none h = stays e h
how_same a b e (some k) h = changes k k (ap leaf e ∙ h) h (ap (set_leaf k) e ∙ set_same b k h) (rank_refl k)

how_leaf : (a b : Ty) (o p : Option Kind) → leaf a ≡ o → leaf b ≡ p → T (some? (leaf_rank a b o p)) → How a b
unfolding leaf_rank some?
how_leaf a b none p e f h = absurd h
how_leaf a b (some j) none e f h = absurd h
how_leaf a b (some j) (some k) e f h = go (same_ty (set_leaf k a) b) refl h
  where
    go : (t : Bool) → same_ty (set_leaf k a) b ≡ t → T (some? (cond t (kind_rank j k) none)) → How a b
    go true q r = changes j k e f (same_ty_lem (set_leaf k a) b (subst T (sym q) tt)) r
    go false q r = absurd r

pub how : (a b : Ty) → T (converts a b) → How a b
unfolding converts rank some?
how a b h = go (same_ty a b) refl h
  where
    go : (t : Bool) → same_ty a b ≡ t → T (some? (cond t (some 0) (leaf_rank a b (leaf a) (leaf b)))) → How a b
    go true q r = how_same a b (same_ty_lem a b (subst T (sym q) tt)) (leaf b) refl
    go false q r = how_leaf a b (leaf a) (leaf b) refl refl r

pub none_some : {k : Kind} → ◌≡◌ {A = Option Kind} none (some k) → ⊥
none_some h = let z : ◌≡◌ {A = ℕ} 0 1 = cc in subst (λ (n : ℕ). T (eqb n 0)) z tt

at_kind : {i j : Kind} (k : Kind) → ◌≡◌ {A = Option Kind} (some i) (some j) → T (some? (kind_rank j k)) → T (some? (kind_rank i k))
at_kind {i} {j} k e r = subst (λ (x : Kind). T (some? (kind_rank x k))) (sym (some_kind e)) r

pub true_of : (b : Bool) → T b → b ≡ true
true_of true h = refl
true_of false h = absurd h

-- ---- literals in a list

abbrev pub LitsO : Bool → Kind → ℕ → Option (List ℕ) → Type 0
LitsO true k n r = (qs : List ℕ) × (r ≡ some qs) × T (every (good_lit k) qs) × (length qs ≡ n)
LitsO false k n r = r ≡ none

lits_cons : (k : Kind) (n : ℕ) (a b : Bool) (x : Option ℕ) (y : Option (List ℕ)) → LitO a k x → LitsO b k n y
    → LitsO (a && b) k (suc n) (elim x [ none ↦ none | some q ↦ elim y [ none ↦ none | some qs ↦ some (q ∷ qs) ] ])
unfolding every
lits_cons k n true true x y (q, e, g) (qs, f, h, l) = (q ∷ qs, rw (e, f), both (good_lit k q) (every (good_lit k) qs) g h, ap suc l)
lits_cons k n true false x y (q, e, g) f = rw (e, f)
lits_cons k n false b x y e f = rw e

pub conv_all_lits : (s : Stage) (k j : Kind) → T (some? (kind_rank j k)) → (ps : List ℕ) → T (every (good_lit j) ps)
    → LitsO (every (lit_fits false s k) (map (λ p. (j, p)) ps)) k (length ps) (all_some (conv k j) ps)
unfolding every lit_fits all_some
conv_all_lits s k j r [] g = ([], refl, tt, refl)
conv_all_lits s k j r (p ∷ ps) g =
    lits_cons k (length ps) (fits_conv k j p) (every (lit_fits false s k) (map (λ p. (j, p)) ps)) (conv k j p) (all_some (conv k j) ps)
    (conv_lit k j p r (and_l (good_lit j p) (every (good_lit j) ps) g))
    (conv_all_lits s k j r ps (and_r (good_lit j p) (every (good_lit j) ps) g))

pub every_append : {A : Type 0} (f : A → Bool) (a b : List A) → every f (a ++ b) ≡ every f a && every f b
unfolding every
every_append f [] b = refl
every_append f (x ∷ a) b = ap (λ (t : Bool). f x && t) (every_append f a b) ∙ sym (and_assoc (f x) (every f a) (every f b))

-- ---- values

abbrev pub Conv : Bool → Ty → Option Val → Type 0
Conv true t r = (w : Val) × (r ≡ some w) × T (shaped_val w) × (type_of w ≡ t)
Conv false t r = r ≡ none

abbrev pub AllTy : Ty → Vals → Type 0
AllTy t ⟨⟩ = Unit {0}
AllTy t (v ▹ m) = (type_of v ≡ t) × AllTy t m

abbrev ConvAll : Bool → ℕ → Ty → Option Vals → Type 0
ConvAll true n t r = (w : Vals) × (r ≡ some w) × T (shaped_vals w) × AllTy t w × (count_vals w ≡ n)
ConvAll false n t r = r ≡ none

from_lit : (b : Bool) (k : Kind) (x : Option ℕ) → LitO b k x → Conv (b && true) (Ts k) (map_some (Vs k) x)
unfolding map_some shaped_val type_of
from_lit true k x (q, e, g) = (Vs k q, ap (map_some (Vs k)) e, g, refl)
from_lit false k x e = ap (map_some (Vs k)) e

from_vec : (b : Bool) (k : Kind) (n : ℕ) (x : Option (List ℕ)) → LitsO b k n x → Conv b (Tv n k) (map_some (Vv k) x)
unfolding map_some shaped_val type_of
from_vec true k n x (qs, e, g, l) = (Vv k qs, ap (map_some (Vv k)) e, g, ap (λ (i : ℕ). Tv i k) l)
from_vec false k n x e = ap (map_some (Vv k)) e

from_mat : (b : Bool) (c r : ℕ) (k : Kind) (n : ℕ) → T (eqb n (c * r)) → (x : Option (List ℕ)) → LitsO b k n x
    → Conv b (Tm c r k) (map_some (Vm c r k) x)
unfolding map_some shaped_val type_of
from_mat true c r k n t x (qs, e, g, l) = (
  Vm c r k qs,
  ap (map_some (Vm c r k)) e,
  both (every (good_lit k) qs) (eqb (length qs) (c * r)) g
      (subst (λ (i : ℕ). T (eqb i (c * r))) (sym l) t),
  refl,
)
from_mat false c r k n t x e = ap (map_some (Vm c r k)) e

same_all : (t : Ty) (m : Vals) → AllTy t m → T (every (same_ty t) (tys_list (types_of m)))
unfolding every tys_list types_of
same_all t ⟨⟩ a = tt
same_all t (v ▹ m) a = both (same_ty t (type_of v)) _ (subst (λ (u : Ty). T (same_ty t u)) (sym a.0) (same_refl t)) (same_all t m a.1)

pub all_same_lem : (t : Ty) (m : Vals) → AllTy t m → T (all_same (types_of m))
unfolding all_same types_of
all_same_lem t ⟨⟩ a = tt
all_same_lem t (v ▹ m) a = subst (λ (u : Ty). T (every (same_ty u) (tys_list (types_of m)))) (sym a.0) (same_all t m a.1)

pub first_all : (t : Ty) (m : Vals) → AllTy t m → T (leb 1 (count_vals m)) → first (types_of m) ≡ t
unfolding count_vals types_of first
first_all t ⟨⟩ a h = absurd h
first_all t (v ▹ m) a h = a.0

all_first' : (t : Ty) (m : Vals) → T (every (same_ty t) (tys_list (types_of m))) → AllTy t m
unfolding every tys_list types_of
all_first' t ⟨⟩ h = tt
all_first' t (v ▹ m) h = (
  sym (same_ty_lem t (type_of v) (and_l (same_ty t (type_of v)) (every (same_ty t) (tys_list (types_of m))) h)),
  all_first' t m (and_r (same_ty t (type_of v)) (every (same_ty t) (tys_list (types_of m))) h),
)

pub all_first : (m : Vals) → T (all_same (types_of m)) → AllTy (first (types_of m)) m
unfolding all_same types_of first
all_first ⟨⟩ h = tt
all_first (v ▹ m) h = (refl, all_first' (type_of v) m h)

from_arr : (b : Bool) (n : ℕ) (t : Ty) (x : Option Vals) → T (leb 1 n) → ConvAll b n t x → Conv b (Ta n t) (map_some Va x)
unfolding map_some shaped_val type_of
from_arr true n t x h (w, e, g, a, c) = (
  Va w,
  ap (map_some Va) e,
  both (all_same (types_of w)) (shaped_vals w) (all_same_lem t w a) g,
  ap₂ Ta c (first_all t w a (subst (λ (i : ℕ). T (leb 1 i)) (sym c) h)),
)
from_arr false n t x h e = ap (map_some Va) e

conv_cons : (a b : Bool) (n : ℕ) (t : Ty) (x : Option Val) (y : Option Vals) → Conv a t x → ConvAll b n t y
    → ConvAll (a && b) (suc n) t (elim x [ none ↦ none | some w ↦ map_some (w ▹◌) y ])
unfolding map_some shaped_vals count_vals
conv_cons true true n t x y (w, e, g, q) (ws, f, h, a, c) = (w ▹ ws, rw (e, f), both (shaped_val w) (shaped_vals ws) g h, (q, a), ap suc c)
conv_cons true false n t x y (w, e, g, q) f = rw (e, f)
conv_cons false b n t x y e f = rw e

mutual
  unfolding shaped_val shaped_ty type_of leaf set_leaf conv_lits literals every lit_fits count_vals u16

  pub conv_lits_lem : (v : Val) (s : Stage) (k j : Kind) → T (some? (kind_rank j k)) → T (shaped_val v) → T (shaped_ty (type_of v))
      → leaf (type_of v) ≡ some j
      → Conv (every (lit_fits false s k) (literals v)) (set_leaf k (type_of v)) (conv_lits k v)
  conv_lits_lem (Vs i p) s k j r g h e = from_lit (fits_conv k i p) k (conv k i p) (conv_lit k i p (at_kind k e r) g)
  conv_lits_lem (Vv i ps) s k j r g h e = from_vec (every (lit_fits false s k) (map (λ p. (i, p)) ps)) k (length ps) (all_some (conv k i) ps)
      (conv_all_lits s k i (at_kind k e r) ps g)
  conv_lits_lem (Vm c r' i ps) s k j r g h e =
      from_mat (every (lit_fits false s k) (map (λ p. (i, p)) ps)) c r' k (length ps)
      (and_r (every (good_lit i) ps) (eqb (length ps) (c * r')) g) (all_some (conv k i) ps)
      (conv_all_lits s k i (at_kind k e r) ps (and_l (every (good_lit i) ps) (eqb (length ps) (c * r')) g))
  conv_lits_lem (Va l) s k j r g h e =
      let n : ℕ = count_vals l in
      let t : Ty = first (types_of l) in
      from_arr (every (lit_fits false s k) (literals_of l)) n (set_leaf k t) (conv_all k l)
      (and_l (leb 1 n) (leb n 65535) (and_l (leb 1 n && leb n 65535) (shaped_ty t) h))
      (conv_all_lem l s k j t r (and_r (all_same (types_of l)) (shaped_vals l) g) (all_first l (and_l (all_same (types_of l)) (shaped_vals l) g))
      (and_r (leb 1 n && leb n 65535) (shaped_ty t) h) e)
  conv_lits_lem (Vu i l) s k j r g h e = absurd (none_some e)

  conv_all_lem : (m : Vals) (s : Stage) (k j : Kind) (t : Ty) → T (some? (kind_rank j k)) → T (shaped_vals m) → AllTy t m → T (shaped_ty t)
      → leaf t ≡ some j
      → ConvAll (every (lit_fits false s k) (literals_of m)) (count_vals m) (set_leaf k t) (conv_all k m)
  conv_all_lem ⟨⟩ s k j t r g a h e = (⟨⟩, refl, tt, tt, refl)
  conv_all_lem (v ▹ m) s k j t r g a h e =
      rw (every_append (lit_fits false s k) (literals v) (literals_of m))
      (conv_cons (every (lit_fits false s k) (literals v)) (every (lit_fits false s k) (literals_of m)) (count_vals m) (set_leaf k t)
      (conv_lits k v) (conv_all k m)
      (subst (λ (u : Ty). Conv (every (lit_fits false s k) (literals v)) (set_leaf k u) (conv_lits k v)) a.0
      (conv_lits_lem v s k j r (and_l (shaped_val v) (shaped_vals m) g) (subst (λ (u : Ty). T (shaped_ty u)) (sym a.0) h) (ap leaf a.0 ∙ e)))
      (conv_all_lem m s k j t r (and_r (shaped_val v) (shaped_vals m) g) a.1 h e))

-- a value to a type that its own type converts to
pub conv_val_lem : (t : Ty) (v : Val) (s : Stage) → T (shaped_val v) → T (shaped_ty (type_of v)) → T (converts (type_of v) t)
    → Conv (fits_leaf false s (leaf t) v) t (conv_val t v)
unfolding conv_val fits_leaf conv_leaf
conv_val_lem t v s g h c = rw (true_of (converts (type_of v) t) c) (go (how (type_of v) t c))
  where
    go : How (type_of v) t → Conv (fits_leaf false s (leaf t) v) t (conv_leaf (leaf t) v)
    go (stays e l) = rw l (v, refl, g, e)
    go (changes j k e f q r) =
        rw f (subst (λ (u : Ty). Conv (every (lit_fits false s k) (literals v)) u (conv_lits k v)) q (conv_lits_lem v s k j r g h e))

-- and to one that it does not convert to
pub conv_not : (t : Ty) (v : Val) → converts (type_of v) t ≡ false → conv_val t v ≡ none
unfolding conv_val
conv_not t v c = rw c
