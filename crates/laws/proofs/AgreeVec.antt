-- The third demand at the level of trees: vector types.
use mathlib.Core.Path.{◌≡◌, refl, sym, ap, ap₂, ◌∙◌, subst}
use mathlib.Core.Option.{Option, none, some}
use mathlib.Core.List.{List, [], ◌∷◌, ◌++◌, map}
use mathlib.Core.Bool.{Bool, true, false, not, ◌&&◌, and_assoc, cond}
use Prim.Native.Nat.{ℕ, zero, suc, ◌+◌}
use native.Mathlib.Omega.{arith}
use lib.Dec.{T, le→leb, leb→le, leb, eqb, eqb→eq}
use lib.ListN.{length, replicate, length-replicate, length-append}
use Rattle.meaning.specs.Kinds.{Kind, same_kind, is_abstract, kind_rank}
use Rattle.meaning.specs.Scalars.{Stage, fits_conv, fits_ctor, conv, some?}
use Rattle.meaning.specs.Trees.{Ty, Ts, Tv, Tm, Ta, Tu, Val, Vs, Vv, Vm, Va, Vu, Target, Of}
use Rattle.meaning.specs.Trees.{same_ty, type_of, count_vals, leaf, set_leaf, vals_of}
use Rattle.meaning.specs.Answers.{Result, ok, no, miscount, ◌>>=◌, ◌>>◌, need, need_count, or_no, all, all_some}
use Rattle.meaning.specs.Records.{every, good_lit, shaped_val, shaped_vals, shaped_ty, side}
use Rattle.meaning.specs.Convert.{rank, leaf_rank, converts, conv_val}
use Rattle.meaning.specs.Build.{build, build_one, build_more, ctor_lit, vec_one, vec_parts, parts, flattened, payload, lit_kind}
use Rattle.meaning.specs.Typing.{typed, typeable, type_one, type_more, type_vec_one, type_vec, part_to, part_of, part_kind, part_count, total}
use Rattle.laws.specs.Demand.{literals, lit_fits, fits_leaf, fits_in, by_ctor, by_ctor_one, lands, counted, nothing_stops, refused}
use Rattle.laws.proofs.AgreeLit.{Lit, LitO, ctor_lit_lem, conv_lit, same_kind_lem}
use Rattle.laws.proofs.AgreeConv.{every_append, conv_not, AllTy, true_of, rank_refl}
use Rattle.laws.proofs.AgreeBuild.{Made, Agrees, AllOk, ConvL, conv_list, conv_list_not, need_cases, true_false}
use Rattle.laws.proofs.Back.{and_l, and_r}
use Rattle.laws.proofs.Same.{same_kind_refl, both}

-- ---- scalars to scalars

pub converts_lit : (j k : Kind) → converts (Ts j) (Ts k) ≡ some? (kind_rank j k)
unfolding converts rank leaf_rank same_ty leaf set_leaf some?
converts_lit j k = go (same_kind j k) refl
  where
    go : (b : Bool) → same_kind j k ≡ b → some? (cond b (some 0) (cond (same_kind k k) (kind_rank j k) none)) ≡ some? (kind_rank j k)
    go true e = sym (true_of (some? (kind_rank j k)) (subst (λ (x : Kind). T (some? (kind_rank j x))) (same_kind_lem j k (subst T (sym e) tt))
        (rank_refl j)))
    go false e = rw (true_of (same_kind k k) (same_kind_refl k))

pub conv_no : (k j : Kind) (p : ℕ) → some? (kind_rank j k) ≡ false → conv k j p ≡ none
unfolding conv
conv_no k j p h = go (same_kind j k) refl
  where
    go : (b : Bool) → same_kind j k ≡ b → conv k j p ≡ none
    go true e = true_false (sym (true_of (some? (kind_rank j k))
        (subst (λ (x : Kind). T (some? (kind_rank j x))) (same_kind_lem j k (subst T (sym e) tt)) (rank_refl j))) ∙ h)
    go false e = rw (e, h)

-- a type that is no scalar never converts to one
pub not_to_scalar : (t : Ty) (k : Kind) → lit_kind t ≡ none → converts t (Ts k) ≡ false
unfolding lit_kind converts rank leaf_rank same_ty leaf set_leaf some?
not_to_scalar (Ts j) k h = absurd (let z : ◌≡◌ {A = ℕ} 0 1 = cc in omega arith)
not_to_scalar (Tv n j) k h = refl
not_to_scalar (Tm c r j) k h = refl
not_to_scalar (Ta n t) k h = go (leaf t)
  where
    go : (o : Option Kind) → some? (leaf_rank (Ta n t) (Ts k) o (some k)) ≡ false
    go none = refl
    go (some j) = refl
not_to_scalar (Tu i m) k h = refl

-- ---- one argument

pub splat_good : (k : Kind) (n q : ℕ) → T (good_lit k q) → T (every (good_lit k) (replicate n q))
unfolding every
splat_good k zero q g = tt
splat_good k (suc n) q g = both (good_lit k q) (every (good_lit k) (replicate n q)) g (splat_good k n q g)

pub from_splat : (b : Bool) (k : Kind) (n : ℕ) (x : Option ℕ) → LitO b k x
    → Made (((b && true) && true) && true) (Tv n k) (or_no 9 x >>= λ q. ok (Vv k (replicate n q)))
unfolding refused shaped_val type_of
from_splat true k n x (q, e, g) = rw e (Vv k (replicate n q), refl, splat_good k n q g, ap (λ (i : ℕ). Tv i k) (length-replicate n q))
from_splat false k n x e = rw e tt

abbrev pub LitsR : Bool → Kind → ℕ → Result (List ℕ) → Type 0
LitsR true k n r = (qs : List ℕ) × (r ≡ ok qs) × T (every (good_lit k) qs) × (length qs ≡ n)
LitsR false k n r = T (refused r)

pub stuck : {A B : Type 0} (r : Result A) (f : A → Result B) → T (refused r) → T (refused (r >>= f))
unfolding refused
stuck (ok a) f h = absurd h
stuck (no n) f h = tt
stuck (miscount w g) f h = tt

lits_cons : (a b : Bool) (k : Kind) (n : ℕ) (x : Result ℕ) (y : Result (List ℕ)) → Lit a k x → LitsR b k n y
    → LitsR (a && b) k (suc n) (x >>= λ q. y >>= λ qs. ok (q ∷ qs))
unfolding every refused
lits_cons true true k n x y (q, e, g) (qs, f, h, l) = rw (e, f) (q ∷ qs, refl, both (good_lit k q) (every (good_lit k) qs) g h, ap suc l)
lits_cons true false k n x y (q, e, g) f = rw e (stuck y (λ qs. ok (q ∷ qs)) f)
lits_cons false b k n x y e f = stuck x (λ q. y >>= λ qs. ok (q ∷ qs)) e

pub ctor_all_lits : (s : Stage) (k j : Kind) → T (not (is_abstract k)) → (ps : List ℕ) → T (every (good_lit j) ps)
    → LitsR (every (lit_fits true s k) (map (λ p. (j, p)) ps)) k (length ps) (all (ctor_lit s k j) ps)
unfolding every lit_fits all
ctor_all_lits s k j c [] g = ([], refl, tt, refl)
ctor_all_lits s k j c (p ∷ ps) g =
    lits_cons (fits_ctor s k j p) (every (lit_fits true s k) (map (λ p. (j, p)) ps)) k (length ps) (ctor_lit s k j p) (all (ctor_lit s k j) ps)
    (ctor_lit_lem s k j p c (and_l (good_lit j p) (every (good_lit j) ps) g))
    (ctor_all_lits s k j c ps (and_r (good_lit j p) (every (good_lit j) ps) g))

from_lits : (b : Bool) (k : Kind) (m n : ℕ) → T (eqb m n) → (x : Result (List ℕ)) → LitsR b k m x
    → Made ((b && true) && true) (Tv n k) (x >>= λ qs. ok (Vv k qs))
unfolding refused shaped_val type_of
from_lits true k m n t x (qs, e, g, l) = rw e (Vv k qs, refl, g, ap (λ (i : ℕ). Tv i k) (l ∙ eqb→eq m n t))
from_lits false k m n t x e = stuck x (λ qs. ok (Vv k qs)) e

-- where no list of components converts, the count does not matter
vec_end : (b : Bool) (w g : ℕ) (x : Option (List Val)) (f : List Val → Result Val) → x ≡ none
    → T (refused (need_count b w g >> (or_no 9 x >>= f)))
unfolding refused
vec_end true w g x f e = rw e tt
vec_end false w g x f e = tt

vec_no : (n : ℕ) (k : Kind) (l : List Val) → all_some (conv_val (Ts k)) l ≡ none → T (refused (vec_parts n k l))
unfolding vec_parts
vec_no n k l e = vec_end (eqb (length l) n) n (length l) (all_some (conv_val (Ts k)) l)
    (λ ws. or_no 9 (all_some payload ws) >>= λ ps. ok (Vv k ps)) e

-- what is no vector and no literal is refused, alone too
pub other : (n : ℕ) (k : Kind) (v : Val) → lit_kind (type_of v) ≡ none → T (refused (vec_parts n k (v ∷ [])))
unfolding all_some
other n k v h = vec_no n k (v ∷ []) (rw (conv_not (Ts k) v (not_to_scalar (type_of v) k h), all_some))

pub agree_vec_one : (s : Stage) (n : ℕ) (k : Kind) (v : Val) → T (shaped_val v) → T (not (is_abstract k))
    → Agrees s (Of (Tv n k)) (v ∷ []) (typed (Of (Tv n k)) (type_of v ∷ [])) (build s (Of (Tv n k)) (v ∷ []))
unfolding typed build typeable type_one build_one type_vec_one vec_one type_of nothing_stops by_ctor by_ctor_one lands counted fits_in fits_leaf leaf
    every lit_fits literals shaped_val refused lit_kind
agree_vec_one s n k (Vs j p) g c =
    rw (true_of (not (is_abstract k)) c)
    (need_cases (λ x. Agrees s (Of (Tv n k)) (Vs j p ∷ []) x (vec_one s n k (Vs j p))) (converts (Ts j) (Ts k)) 7 (Tv n k)
    (λ h. from_splat (fits_conv k j p) k n (conv k j p) (conv_lit k j p (subst T (converts_lit j k) h) g))
    (λ h. rw (conv_no k j p (sym (converts_lit j k) ∙ h)) tt))
agree_vec_one s n k (Vv j ps) g c =
    rw (true_of (not (is_abstract k)) c) (go (eqb (length ps) n) refl)
  where
    go : (b : Bool) → eqb (length ps) n ≡ b → Agrees s (Of (Tv n k)) (Vv j ps ∷ []) (need b 7 >> ok (Tv n k))
        (need b 7 >> (all (ctor_lit s k j) ps >>= λ qs. ok (Vv k qs)))
    go true e = from_lits (every (lit_fits true s k) (map (λ p. (j, p)) ps)) k (length ps) n (subst T (sym e) tt) (all (ctor_lit s k j) ps)
        (ctor_all_lits s k j c ps g)
    go false e = tt
agree_vec_one s n k (Vm a b j ps) g c = rw (true_of (not (is_abstract k)) c) (other n k (Vm a b j ps) refl)
agree_vec_one s n k (Va l) g c = rw (true_of (not (is_abstract k)) c) (other n k (Va l) refl)
agree_vec_one s n k (Vu i l) g c = rw (true_of (not (is_abstract k)) c) (other n k (Vu i l) refl)

-- ---- several arguments

-- where every argument goes to one type, `fits_in` is a test of each
pub fits_every : (b : Bool) (s : Stage) (t : Ty) (l : List Val) → fits_in b s (replicate (length l) t) l ≡ every (fits_leaf b s (leaf t)) l
unfolding fits_in every
fits_every b s t [] = refl
fits_every b s t (v ∷ l) = ap (λ (x : Bool). fits_leaf b s (leaf t) v && x) (fits_every b s t l)

pub and_true : (b : Bool) → b && true ≡ b
and_true true = refl
and_true false = refl

every_parts : (s : Stage) (k j : Kind) (ps : List ℕ) → every (fits_leaf false s (some k)) (map (Vs j) ps) ≡ every (lit_fits false s k)
    (map (λ p. (j, p)) ps)
unfolding every fits_leaf literals
every_parts s k j [] = refl
every_parts s k j (p ∷ ps) = ap₂ ◌&&◌ (and_true (lit_fits false s k (j, p))) (every_parts s k j ps)

-- a literal or a vector has the same literals taken apart
pub fits_parts : (s : Stage) (k j : Kind) (v : Val) → part_kind (type_of v) ≡ some j
    → every (fits_leaf false s (some k)) (parts v) ≡ fits_leaf false s (some k) v
unfolding part_kind type_of parts every fits_leaf literals
fits_parts s k j (Vs i p) h = and_true (lit_fits false s k (i, p) && true)
fits_parts s k j (Vv i ps) h = every_parts s k i ps
fits_parts s k j (Vm c r i ps) h = absurd (let z : ◌≡◌ {A = ℕ} 0 1 = cc in omega arith)
fits_parts s k j (Va l) h = absurd (let z : ◌≡◌ {A = ℕ} 0 1 = cc in omega arith)
fits_parts s k j (Vu i l) h = absurd (let z : ◌≡◌ {A = ℕ} 0 1 = cc in omega arith)

ok_lits : (j : Kind) (ps : List ℕ) → T (every (good_lit j) ps) → AllOk (map (Vs j) ps)
unfolding every shaped_val shaped_ty type_of
ok_lits j [] g = tt
ok_lits j (p ∷ ps) g = (and_l (good_lit j p) (every (good_lit j) ps) g, tt, ok_lits j ps (and_r (good_lit j p) (every (good_lit j) ps) g))

ok_append : (a b : List Val) → AllOk a → AllOk b → AllOk (a ++ b)
ok_append [] b g h = h
ok_append (v ∷ a) b g h = (g.0, g.1, ok_append a b g.2 h)

ok_parts : (v : Val) → T (shaped_val v) → T (shaped_ty (type_of v)) → AllOk (parts v)
unfolding parts shaped_val
ok_parts (Vs k p) g h = (g, h, tt)
ok_parts (Vv k ps) g h = ok_lits k ps g
ok_parts (Vm c r k ps) g h = (g, h, tt)
ok_parts (Va l) g h = (g, h, tt)
ok_parts (Vu i l) g h = (g, h, tt)

pub ok_flat : (l : List Val) → AllOk l → AllOk (flattened l)
unfolding flattened
ok_flat [] g = tt
ok_flat (v ∷ l) g = ok_append (parts v) (flattened l) (ok_parts v g.0 g.1) (ok_flat l g.2)

unfoldable pub to_scalar : Kind → List Val → Bool
to_scalar k l = every (λ a. converts a (Ts k)) (map type_of l)

pub scalar_append : (k : Kind) (a b : List Val) → to_scalar k (a ++ b) ≡ to_scalar k a && to_scalar k b
unfolding to_scalar every
scalar_append k [] b = refl
scalar_append k (v ∷ a) b = ap (λ (x : Bool). converts (type_of v) (Ts k) && x) (scalar_append k a b)
    ∙ sym (and_assoc (converts (type_of v) (Ts k)) (to_scalar k a) (to_scalar k b))

scalar_lits : (k j : Kind) (ps : List ℕ) → T (leb 1 (length ps)) → to_scalar k (map (Vs j) ps) ≡ converts (Ts j) (Ts k)
unfolding to_scalar every type_of
scalar_lits k j [] h = absurd h
scalar_lits k j (p ∷ []) h = and_true (converts (Ts j) (Ts k))
scalar_lits k j (p ∷ q ∷ ps) h = ap (λ (x : Bool). converts (Ts j) (Ts k) && x)
    (scalar_lits k j (q ∷ ps) (le→leb 1 (suc (length ps)) (omega arith))) ∙ twice (converts (Ts j) (Ts k))
  where
    twice : (b : Bool) → b && b ≡ b
    twice true = refl
    twice false = refl

-- what typing says of several arguments, and what it means for the components
pub data Parts (k : Kind) (l : List Val) : Type 0 where
  fine : (ks : List Kind) → all (part_to k) (map type_of l) ≡ ok ks → T (to_scalar k (flattened l))
      → total (map type_of l) ≡ length (flattened l)
      → ((s : Stage) → every (fits_leaf false s (some k)) (flattened l) ≡ every (fits_leaf false s (some k)) l) → Parts k l
  bad : T (refused (all (part_to k) (map type_of l))) → to_scalar k (flattened l) ≡ false → Parts k l

-- of one argument
data Part (k : Kind) (v : Val) : Type 0 where
  fine : (j : Kind) → part_to k (type_of v) ≡ ok j → part_kind (type_of v) ≡ some j → T (to_scalar k (parts v))
      → part_count (type_of v) ≡ length (parts v) → Part k v
  bad : T (refused (part_to k (type_of v))) → to_scalar k (parts v) ≡ false → Part k v

pub length_map_vs : (j : Kind) (ps : List ℕ) → length ps ≡ length (map (Vs j) ps)
length_map_vs j [] = refl
length_map_vs j (p ∷ ps) = ap suc (length_map_vs j ps)

part_lit : (k j : Kind) (v : Val) → part_kind (type_of v) ≡ some j → to_scalar k (parts v) ≡ converts (Ts j) (Ts k)
    → part_count (type_of v) ≡ length (parts v) → Part k v
unfolding part_to part_of refused
part_lit k j v e f c = go (converts (Ts j) (Ts k)) refl
  where
    go : (b : Bool) → converts (Ts j) (Ts k) ≡ b → Part k v
    go true h = Part.fine j (rw (e, h)) e (subst T (sym (f ∙ h)) tt) c
    go false h = Part.bad (rw (e, h) tt) (f ∙ h)

part_none : (k : Kind) (v : Val) → part_kind (type_of v) ≡ none → parts v ≡ v ∷ [] → lit_kind (type_of v) ≡ none → Part k v
unfolding part_to part_of refused to_scalar every
part_none k v e f h = Part.bad (rw e tt) (rw (f, not_to_scalar (type_of v) k h))

part : (k : Kind) (v : Val) → T (shaped_ty (type_of v)) → Part k v
unfolding part_kind type_of parts lit_kind part_count shaped_ty side
part k (Vs j p) h = part_lit k j (Vs j p) refl (scalar_lits k j (p ∷ []) tt) refl
part k (Vv j ps) h =
    part_lit k j (Vv j ps) refl
    (scalar_lits k j ps (le→leb 1 (length ps) (omega (arith, leb→le 2 (length ps) (and_l (leb 2 (length ps)) (leb (length ps) 4) h)))))
    (length_map_vs j ps)
part k (Vm c r j ps) h = part_none k (Vm c r j ps) refl refl refl
part k (Va l) h = part_none k (Va l) refl refl refl
part k (Vu i l) h = part_none k (Vu i l) refl refl refl

pub and_false : (a : Bool) → a && false ≡ false
and_false true = refl
and_false false = refl

join : (k : Kind) (v : Val) (l : List Val) → Part k v → Parts k l → Parts k (v ∷ l)
unfolding flattened total all every
join k v l (fine j e pk c n) (fine ks f d m q) =
    Parts.fine (j ∷ ks) (rw (e, f))
    (subst T (sym (scalar_append k (parts v) (flattened l))) (both (to_scalar k (parts v)) (to_scalar k (flattened l)) c d))
    (ap₂ ◌+◌ n m ∙ sym (length-append (parts v) (flattened l)))
    (λ s. every_append (fits_leaf false s (some k)) (parts v) (flattened l) ∙ ap₂ ◌&&◌ (fits_parts s k j v pk) (q s))
join k v l (fine j e pk c n) (bad h f) =
    Parts.bad (rw e (stuck (all (part_to k) (map type_of l)) (λ bs. ok (j ∷ bs)) h))
    (scalar_append k (parts v) (flattened l) ∙ (ap (λ (x : Bool). to_scalar k (parts v) && x) f ∙ and_false (to_scalar k (parts v))))
join k v l (bad h f) r =
    Parts.bad (stuck (part_to k (type_of v)) (λ b. all (part_to k) (map type_of l) >>= λ bs. ok (b ∷ bs)) h)
    (scalar_append k (parts v) (flattened l) ∙ ap (λ (x : Bool). x && to_scalar k (flattened l)) f)

pub parts_all : (k : Kind) (l : List Val) → AllOk l → Parts k l
unfolding flattened total all to_scalar every
parts_all k [] g = Parts.fine [] refl tt refl (λ s. refl)
parts_all k (v ∷ l) g = join k v l (part k v g.1) (parts_all k l g.2)

-- the payloads of literals of one kind
abbrev Payloads : Kind → List Val → Type 0
Payloads k ws = (ps : List ℕ) × (all_some payload ws ≡ some ps) × T (every (good_lit k) ps) × (length ps ≡ count_vals (vals_of ws))

pub lit_of : (k : Kind) (w : Val) → T (shaped_val w) → type_of w ≡ Ts k → (p : ℕ) × (payload w ≡ some p) × T (good_lit k p)
unfolding shaped_val type_of payload
lit_of k (Vs j p) g e = (p, refl, subst (λ (i : Kind). T (good_lit i p)) (ts_inj e) g)
  where
    ts_inj : Ts j ≡ Ts k → j ≡ k
    ts_inj h = cc
lit_of k (Vv j ps) g e = absurd (let z : ◌≡◌ {A = ℕ} 0 1 = cc in omega arith)
lit_of k (Vm c r j ps) g e = absurd (let z : ◌≡◌ {A = ℕ} 0 1 = cc in omega arith)
lit_of k (Va l) g e = absurd (let z : ◌≡◌ {A = ℕ} 0 1 = cc in omega arith)
lit_of k (Vu i l) g e = absurd (let z : ◌≡◌ {A = ℕ} 0 1 = cc in omega arith)

some_cons : (x : Option ℕ) (y : Option (List ℕ)) (p : ℕ) (ps : List ℕ) → x ≡ some p → y ≡ some ps
    → ◌≡◌ {A = Option (List ℕ)} (elim x [ none ↦ none | some q ↦ elim y [ none ↦ none | some qs ↦ some (q ∷ qs) ] ]) (some (p ∷ ps))
some_cons x y p ps e f = rw (e, f)

pub payloads_of_lem : (k : Kind) (ws : List Val) → T (shaped_vals (vals_of ws)) → AllTy (Ts k) (vals_of ws) → Payloads k ws
unfolding shaped_vals vals_of count_vals all_some every
payloads_of_lem k [] g a = ([], refl, tt, refl)
payloads_of_lem k (w ∷ ws) g a =
    let x = lit_of k w (and_l (shaped_val w) (shaped_vals (vals_of ws)) g) a.0 in
    let y = payloads_of_lem k ws (and_r (shaped_val w) (shaped_vals (vals_of ws)) g) a.1 in (
      x.0 ∷ y.0,
      some_cons (payload w) (all_some payload ws) x.0 y.0 x.1 y.1,
      both (good_lit k x.0)
          (every (good_lit k) y.0) x.2 y.2,
      ap suc y.3,
    )

vec_made : (b : Bool) (k : Kind) (m n : ℕ) → m ≡ n → (x : Option (List Val)) → ConvL b m (Ts k) x
    → Made (b && true) (Tv n k) (or_no 9 x >>= λ ws. or_no 9 (all_some payload ws) >>= λ ps. ok (Vv k ps))
unfolding refused shaped_val type_of
vec_made true k m n h x (ws, e, g, a, c) =
    let y = payloads_of_lem k ws g a in
    rw (e, y.1) (Vv k y.0, refl, y.2, ap (λ (i : ℕ). Tv i k) (y.3 ∙ (c ∙ h)))
vec_made false k m n h x e = rw e tt

pub agrees_bad : {A : Type 0} (s : Stage) (g : Target) (l : List Val) (x : Result A) (y : Result Ty) (b : Result Val) → T (refused x)
    → T (refused b) → Agrees s g l (x >> y) b
unfolding refused
agrees_bad s g l (ok a) y b h k = absurd h
agrees_bad s g l (no n) y b h k = k
agrees_bad s g l (miscount w n) y b h k = k

flat_fits : (s : Stage) (k : Kind) (l : List Val) → every (fits_leaf false s (some k)) (flattened l) ≡ every (fits_leaf false s (some k)) l
    → fits_in false s (replicate (length (flattened l)) (Ts k)) (flattened l) ≡ fits_in false s (replicate (length l) (Ts k)) l
unfolding leaf
flat_fits s k l q = fits_every false s (Ts k) (flattened l) ∙ (q ∙ sym (fits_every false s (Ts k) l))

vec_count : (n : ℕ) (k : Kind) (l : List Val) (b : Bool) → eqb (length l) n ≡ b
    → vec_parts n k l ≡ (need_count b n (length l) >> (or_no 9 (all_some (conv_val (Ts k)) l) >>= λ ws. or_no 9 (all_some payload ws) >>= λ ps. ok
    (Vv k ps)))
unfolding vec_parts
vec_count n k l b h = ap (λ (x : Bool). need_count x n (length l) >>
    (or_no 9 (all_some (conv_val (Ts k)) l) >>= λ ws. or_no 9 (all_some payload ws) >>= λ ps. ok (Vv k ps))) h

pub vec_more : (s : Stage) (n : ℕ) (k : Kind) (v w : Val) (l : List Val) → AllOk (v ∷ w ∷ l) → Parts k (v ∷ w ∷ l)
    → Agrees s (Of (Tv n k)) (v ∷ w ∷ l) (type_vec n k (map type_of (v ∷ w ∷ l))) (vec_parts n k (flattened (v ∷ w ∷ l)))
unfolding type_vec to_scalar nothing_stops by_ctor lands counted refused
vec_more s n k v w l g (bad h f) =
    agrees_bad s (Of (Tv n k)) (v ∷ w ∷ l) (all (part_to k) (map type_of (v ∷ w ∷ l)))
    (need_count (eqb (total (map type_of (v ∷ w ∷ l))) n) n (length (map type_of (v ∷ w ∷ l))) >> ok (Tv n k))
    (vec_parts n k (flattened (v ∷ w ∷ l))) h
    (vec_no n k (flattened (v ∷ w ∷ l)) (conv_list_not (Ts k) (flattened (v ∷ w ∷ l)) f))
vec_more s n k v w l g (fine ks e c t q) = rw (e, t) (go (eqb (length (flattened (v ∷ w ∷ l))) n) refl)
  where
    fl : List Val
    fl = flattened (v ∷ w ∷ l)

    made : eqb (length fl) n ≡ true → Made (fits_in false s (replicate (length (v ∷ w ∷ l)) (Ts k)) (v ∷ w ∷ l) && true) (Tv n k)
        (need_count true n (length fl) >> (or_no 9 (all_some (conv_val (Ts k)) fl) >>= λ ws. or_no 9 (all_some payload ws) >>= λ ps. ok
        (Vv k ps)))
    made h =
        subst (λ (x : Bool). Made (x && true) (Tv n k) (or_no 9 (all_some (conv_val (Ts k)) fl) >>= λ ws. or_no 9 (all_some payload ws) >>= λ
        ps. ok (Vv k ps)))
        (flat_fits s k (v ∷ w ∷ l) (q s))
        (vec_made (fits_in false s (replicate (length fl) (Ts k)) fl) k (length fl) n (eqb→eq (length fl) n (subst T (sym h) tt))
        (all_some (conv_val (Ts k)) fl)
        (conv_list (Ts k) fl s (ok_flat (v ∷ w ∷ l) g) c))

    go : (b : Bool) → eqb (length fl) n ≡ b
        → Agrees s (Of (Tv n k)) (v ∷ w ∷ l) (need_count b n (length (map type_of (v ∷ w ∷ l))) >> ok (Tv n k)) (vec_parts n k fl)
    go true h = rw (vec_count n k fl true h) (made h)
    go false h = rw (vec_count n k fl false h) tt

pub agree_vec_more : (s : Stage) (n : ℕ) (k : Kind) (v w : Val) (l : List Val) → AllOk (v ∷ w ∷ l) → T (not (is_abstract k))
    → Agrees s (Of (Tv n k)) (v ∷ w ∷ l) (typed (Of (Tv n k)) (map type_of (v ∷ w ∷ l))) (build s (Of (Tv n k)) (v ∷ w ∷ l))
unfolding typed build typeable type_more build_more
agree_vec_more s n k v w l g c = rw (true_of (not (is_abstract k)) c) (vec_more s n k v w l g (parts_all k (v ∷ w ∷ l) g))
