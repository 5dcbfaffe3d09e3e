-- Conversion of types is an order whose lower sets are chains, and the common type is the list's greatest.
use mathlib.Core.Path.{◌≡◌, refl, sym, ap, ◌∙◌, subst}
use mathlib.Core.Option.{Option, none, some}
use mathlib.Core.List.{List, [], ◌∷◌}
use mathlib.Core.Bool.{Bool, true, false, not, ◌&&◌, ◌||◌, cond}
use Prim.Native.Nat.{ℕ}
use native.Mathlib.Omega.{arith}
use lib.Dec.{T}
use Rattle.meaning.specs.Kinds.{Kind, bool, aint, afloat, i32, u32, f32, f16, kind_rank, from_aint, from_afloat, from_same, same_kind, kind_no}
use Rattle.meaning.specs.Scalars.{some?}
use Rattle.meaning.specs.Trees.{Ty, Ts, Tv, Tm, Ta, Tu, leaf, set_leaf, same_ty}
use Rattle.meaning.specs.Records.{every}
use Rattle.meaning.specs.Convert.{rank, leaf_rank, converts, meet, common_from, common}
use Rattle.laws.proofs.AgreeConv.{How, stays, changes, how, some_kind, true_of, set_same}
use Rattle.laws.proofs.AgreeLit.{same_kind_lem}
use Rattle.laws.proofs.Back.{and_l, and_r}
use Rattle.laws.proofs.Same.{same_refl, both}

-- ---- a rule over kinds is one computed test

pub every_kind : (Kind → Bool) → Bool
every_kind f = f bool && (f aint && (f afloat && (f i32 && (f u32 && (f f32 && f f16)))))

pub kind_rule : (f : Kind → Bool) → T (every_kind f) → (k : Kind) → T (f k)
unfolding every_kind
kind_rule f h bool = and_l (f bool) _ h
kind_rule f h aint = and_l (f aint) _ (and_r (f bool) _ h)
kind_rule f h afloat = and_l (f afloat) _ (and_r (f aint) _ (and_r (f bool) _ h))
kind_rule f h i32 = and_l (f i32) _ (and_r (f afloat) _ (and_r (f aint) _ (and_r (f bool) _ h)))
kind_rule f h u32 = and_l (f u32) _ (and_r (f i32) _ (and_r (f afloat) _ (and_r (f aint) _ (and_r (f bool) _ h))))
kind_rule f h f32 = and_l (f f32) _ (and_r (f u32) _ (and_r (f i32) _ (and_r (f afloat) _ (and_r (f aint) _ (and_r (f bool) _ h)))))
kind_rule f h f16 = and_r (f f32) _ (and_r (f u32) _ (and_r (f i32) _ (and_r (f afloat) _ (and_r (f aint) _ (and_r (f bool) _ h)))))

to : Kind → Kind → Bool
to j k = some? (kind_rank j k)

implies : Bool → Bool → Bool
implies a b = not a || b

modus : (a b : Bool) → T (implies a b) → T a → T b
unfolding implies
modus true b h t = h
modus false b h t = absurd t

pub kind_trans : (i j k : Kind) → T (some? (kind_rank i j)) → T (some? (kind_rank j k)) → T (some? (kind_rank i k))
unfolding every_kind implies to some? kind_rank from_aint from_afloat from_same same_kind kind_no
kind_trans i j k a b =
    modus (to i j && to j k) (to i k)
    (kind_rule (λ k. implies (to i j && to j k) (to i k))
    (kind_rule (λ j. every_kind (λ k. implies (to i j && to j k) (to i k)))
    (kind_rule (λ i. every_kind (λ j. every_kind (λ k. implies (to i j && to j k) (to i k)))) tt i) j) k)
    (both (to i j) (to j k) a b)

-- two kinds that convert to a third: one converts to the other
pub kind_chain : (i j k : Kind) → T (some? (kind_rank i k)) → T (some? (kind_rank j k)) → T (some? (kind_rank i j) || some? (kind_rank j i))
unfolding every_kind implies to some? kind_rank from_aint from_afloat from_same same_kind kind_no
kind_chain i j k a b =
    modus (to i k && to j k) (to i j || to j i)
    (kind_rule (λ k. implies (to i k && to j k) (to i j || to j i))
    (kind_rule (λ j. every_kind (λ k. implies (to i k && to j k) (to i j || to j i)))
    (kind_rule (λ i. every_kind (λ j. every_kind (λ k. implies (to i k && to j k) (to i j || to j i)))) tt i) j) k)
    (both (to i k) (to j k) a b)

-- two kinds that convert to each other are one
kind_one : (j k : Kind) → T (some? (kind_rank j k)) → T (some? (kind_rank k j)) → j ≡ k
unfolding every_kind implies to some? kind_rank from_aint from_afloat from_same same_kind kind_no
kind_one j k a b =
    same_kind_lem j k
    (modus (to j k && to k j) (same_kind j k)
    (kind_rule (λ k. implies (to j k && to k j) (same_kind j k))
    (kind_rule (λ j. every_kind (λ k. implies (to j k && to k j) (same_kind j k))) tt j) k)
    (both (to j k) (to k j) a b))

-- ---- types

pub conv_refl : (a : Ty) → T (converts a a)
unfolding converts rank some?
conv_refl a = rw (true_of (same_ty a a) (same_refl a)) tt

pub set_set : (j k : Kind) (t : Ty) → set_leaf k (set_leaf j t) ≡ set_leaf k t
unfolding set_leaf
set_set j k (Ts i) = refl
set_set j k (Tv n i) = refl
set_set j k (Tm c r i) = refl
set_set j k (Ta n t) = ap (Ta n) (set_set j k t)
set_set j k (Tu i m) = refl

pub converts_by : (a b : Ty) (j k : Kind) → leaf a ≡ some j → leaf b ≡ some k → set_leaf k a ≡ b → T (some? (kind_rank j k))
    → T (converts a b)
unfolding converts rank leaf_rank some?
converts_by a b j k e f q r = go (same_ty a b)
  where
    unfolded : T (some? (leaf_rank a b (leaf a) (leaf b)))
    unfolded = rw (e, f, true_of (same_ty (set_leaf k a) b) (subst (λ (x : Ty). T (same_ty (set_leaf k a) x)) q (same_refl (set_leaf k a)))) r

    go : (t : Bool) → T (some? (cond t (some 0) (leaf_rank a b (leaf a) (leaf b))))
    go true = tt
    go false = unfolded

pub conv_trans : (a b c : Ty) → T (converts a b) → T (converts b c) → T (converts a c)
conv_trans a b c p q = go (how a b p) (how b c q)
  where
    go : How a b → How b c → T (converts a c)
    go (stays e l) h = subst (λ (x : Ty). T (converts x c)) (sym e) q
    go (changes j k e f s r) (stays d l) = subst (λ (x : Ty). T (converts a x)) d p
    go (changes j k e f s r) (changes i m d g t u) =
        converts_by a c j m e g (sym (set_set k m a) ∙ (ap (set_leaf m) s ∙ t))
        (kind_trans j k m r (subst (λ (x : Kind). T (some? (kind_rank x m))) (some_kind (sym d ∙ f)) u))

-- two types that convert to each other are one
pub conv_one_lem : (a b : Ty) → T (converts a b) → T (converts b a) → a ≡ b
conv_one_lem a b p q = go (how a b p) (how b a q)
  where
    go : How a b → How b a → a ≡ b
    go (stays e l) h = e
    go (changes j k e f s r) (stays d l) = sym d
    go (changes j k e f s r) (changes i m d g t u) =
        let v : T (some? (kind_rank k j)) =
        subst (λ (x : Kind). T (some? (kind_rank x j))) (some_kind (sym d ∙ f))
        (subst (λ (x : Kind). T (some? (kind_rank i x))) (some_kind (sym g ∙ e)) u) in
        sym (set_same a j e) ∙ (ap (λ (x : Kind). set_leaf x a) (kind_one j k r v) ∙ s)

-- ---- the common type

pub from_none : (l : List Ty) → common_from none l ≡ none
unfolding common_from meet
from_none [] = refl
from_none (b ∷ l) = from_none l

pub some_ty : {a b : Ty} → ◌≡◌ {A = Option Ty} (some a) (some b) → a ≡ b
some_ty h = cc

pub none_ty : {a : Ty} → ◌≡◌ {A = Option Ty} none (some a) → ⊥
none_ty h = let z : ◌≡◌ {A = ℕ} 0 1 = cc in omega arith

common_from_lem : (a : Ty) (l : List Ty) (t : Ty) → common_from (some a) l ≡ some t → T (converts a t) × T (every (λ x. converts x t) l)
unfolding common_from meet every
common_from_lem a [] t h = (subst (λ (x : Ty). T (converts a x)) (some_ty h) (conv_refl a), tt)
common_from_lem a (b ∷ l) t h = go (λ x. common_from_lem x l t) (converts a b) refl (converts b a) refl h
  where
    go : ((x : Ty) → common_from (some x) l ≡ some t → T (converts x t) × T (every (λ x. converts x t) l))
        → (p : Bool) → converts a b ≡ p → (q : Bool) → converts b a ≡ q → common_from (cond p (some b) (cond q (some a) none)) l ≡ some t
        → T (converts a t) × T (converts b t && every (λ x. converts x t) l)
    go ih true e q f h =
        let r = ih b h in
        (conv_trans a b t (subst T (sym e) tt) r.0, both (converts b t) (every (λ x. converts x t) l) r.0 r.1)
    go ih false e true f h =
        let r = ih a h in
        (r.0, both (converts b t) (every (λ x. converts x t) l) (conv_trans b a t (subst T (sym f) tt) r.0) r.1)
    go ih false e false f h = absurd (none_ty (sym (from_none l) ∙ h))

-- every type of the list converts to the common one
pub common_all : (l : List Ty) (t : Ty) → common l ≡ some t → T (every (λ x. converts x t) l)
unfolding common every
common_all [] t h = tt
common_all (a ∷ l) t h =
    let r = common_from_lem a l t h in
    both (converts a t) (every (λ x. converts x t) l) r.0 r.1

-- ---- where every type of a list converts to u, there is a common type, and it converts to u

-- two types that convert to a third: one converts to the other
pub conv_chain : (a b u : Ty) → T (converts a u) → T (converts b u) → T (converts a b || converts b a)
conv_chain a b u p q = go (how a u p) (how b u q)
  where
    left : (x y : Bool) → T x → T (x || y)
    left true y h = tt
    left false y h = absurd h

    right : (x y : Bool) → T y → T (x || y)
    right true y h = tt
    right false y h = h

    pick : (j i k : Kind) → leaf a ≡ some j → leaf b ≡ some i → set_leaf k a ≡ u → set_leaf k b ≡ u → (x y : Bool) → some? (kind_rank j i) ≡ x
        → some? (kind_rank i j) ≡ y → T (x || y) → T (converts a b || converts b a)
    pick j i k e f s t true y g h z =
        left (converts a b) (converts b a) (converts_by a b j i e f
        (sym (set_set k i a) ∙ (ap (set_leaf i) (s ∙ sym t) ∙ (set_set k i b ∙ set_same b i f))) (subst T (sym g) tt))
    pick j i k e f s t false y g h z =
        right (converts a b) (converts b a) (converts_by b a i j f e
        (sym (set_set k j b) ∙ (ap (set_leaf j) (t ∙ sym s) ∙ (set_set k j a ∙ set_same a j e))) (subst T (sym h) z))

    go : How a u → How b u → T (converts a b || converts b a)
    go (stays e l) h = right (converts a b) (converts b a) (subst (λ (x : Ty). T (converts b x)) (sym e) q)
    go (changes j k e f s r) (stays d l) = left (converts a b) (converts b a) (subst (λ (x : Ty). T (converts a x)) (sym d) p)
    go (changes j k e f s r) (changes i m d g t v) =
        let w : m ≡ k = some_kind (sym g ∙ f) in
        pick j i k e d s (ap (λ (x : Kind). set_leaf x b) (sym w) ∙ t) (some? (kind_rank j i)) (some? (kind_rank i j)) refl refl
        (kind_chain j i k r (subst (λ (x : Kind). T (some? (kind_rank i x))) w v))

pub chain_from : (a : Ty) (l : List Ty) (u : Ty) → T (converts a u) → T (every (λ x. converts x u) l) → (t : Ty)
    × (common_from (some a) l ≡ some t) × T (converts t u)
unfolding common_from meet every
chain_from a [] u h g = (a, refl, h)
chain_from a (b ∷ l) u h g =
    go (λ x. chain_from x l u) (converts a b) refl (converts b a) refl
    (conv_chain a b u h (and_l (converts b u) (every (λ x. converts x u) l) g))
  where
    go : ((x : Ty) → T (converts x u) → T (every (λ x. converts x u) l) → (t : Ty) × (common_from (some x) l ≡ some t) × T (converts t u))
        → (p : Bool) → converts a b ≡ p → (q : Bool) → converts b a ≡ q → T (p || q)
        → (t : Ty) × (common_from (cond p (some b) (cond q (some a) none)) l ≡ some t) × T (converts t u)
    go ih true e q f w = ih b (and_l (converts b u) (every (λ x. converts x u) l) g) (and_r (converts b u) (every (λ x. converts x u) l) g)
    go ih false e true f w = ih a h (and_r (converts b u) (every (λ x. converts x u) l) g)
    go ih false e false f w = absurd w
