-- The third demand at the level of trees: matrices.
use mathlib.Core.Path.{◌≡◌, refl, sym, ap, ap₂, ◌∙◌, subst}
use mathlib.Core.Option.{Option, none, some}
use mathlib.Core.List.{List, [], ◌∷◌, map}
use mathlib.Core.Bool.{Bool, true, false, not, ◌&&◌, cond}
use Prim.Native.Nat.{ℕ, suc, ◌*◌, ◌+◌}
use native.Mathlib.Omega.{arith}
use native.Mathlib.Nat.{suc-mul, zero-mul, add_comm, mul-one}
use lib.Dec.{T, eqb, eqb→eq, eqb_refl}
use lib.ListN.{length, replicate, length-append}
use Rattle.meaning.specs.Kinds.{Kind, kind_rank, is_abstract}
use Rattle.meaning.specs.Scalars.{Stage, some?}
use Rattle.meaning.specs.Trees.{Ty, Ts, Tv, Tm, Ta, Tu, Val, Vs, Vv, Vm, Va, Vu, Target, Of, type_of, vals_of, leaf}
use Rattle.meaning.specs.Trees.{set_leaf, inner, count_vals}
use Rattle.meaning.specs.Answers.{Result, ok, no, miscount, ◌>>=◌, ◌>>◌, or_no, all_some, all, need, need_count}
use Rattle.meaning.specs.Records.{every, good_lit, shaped_val, shaped_vals}
use Rattle.meaning.specs.Convert.{converts, conv_val, common, common_from}
use Rattle.meaning.specs.Build.{build, build_one, build_more, mat_one, mat_parts, mat_shape, to_inner, payloads_of, payloads_of_all, same_size}
use Rattle.meaning.specs.Build.{lit_kind, ctor_lit}
use Rattle.meaning.specs.Typing.{typed, typeable, type_one, type_more, type_mat_one, type_mat}
use Rattle.laws.specs.Demand.{fits_in, fits_leaf, lit_fits, literals, by_ctor, by_ctor_one, lands, counted, nothing_stops, refused}
use Rattle.laws.proofs.AgreeConv.{How, stays, changes, how, none_some, some_kind, true_of, AllTy, leaf_set, every_append}
use Rattle.laws.proofs.AgreeBuild.{Made, Agrees, AllOk, ConvL, conv_list, conv_list_not, length_map, true_false}
use Rattle.laws.proofs.AgreeVec.{converts_lit, not_to_scalar, fits_every, stuck, LitsR, ctor_all_lits}
use Rattle.laws.proofs.AgreeCommon.{some_ty, common_all, chain_from, converts_by, set_set, kind_trans, conv_trans}
use Rattle.laws.proofs.Back.{and_l, and_r}
use Rattle.laws.proofs.Same.{both}

-- ---- the scalar one level down

pub ts_inj : {j k : Kind} → Ts j ≡ Ts k → j ≡ k
ts_inj h = cc

none_ty : {A : Type 0} {a : Ty} → ◌≡◌ {A = Option Ty} none (some a) → A
none_ty h = absurd (let z : ◌≡◌ {A = ℕ} 0 1 = cc in omega arith)

pub leaf_inner : (x : Ty) (j : Kind) → inner x ≡ Ts j → leaf x ≡ some j
unfolding inner leaf
leaf_inner (Ts i) j h = ap some (ts_inj h)
leaf_inner (Tv n i) j h = ap some (ts_inj h)
leaf_inner (Tm c r i) j h = ap some (ts_inj h)
leaf_inner (Ta n t) j h = ap leaf h
leaf_inner (Tu i m) j h = absurd (let z : ◌≡◌ {A = ℕ} 0 1 = cc in omega arith)

inner_set : (x : Ty) (j k : Kind) → inner x ≡ Ts j → inner (set_leaf k x) ≡ Ts k
unfolding inner set_leaf
inner_set (Ts i) j k h = refl
inner_set (Tv n i) j k h = refl
inner_set (Tm c r i) j k h = refl
inner_set (Ta n t) j k h = ap (set_leaf k) h
inner_set (Tu i m) j k h = absurd (let z : ◌≡◌ {A = ℕ} 0 1 = cc in omega arith)

-- and back: a type whose shape is another's has its scalar where that has it
scalar_back : (y : Ty) (i j k : Kind) → leaf y ≡ some j → set_leaf k y ≡ Ts i → y ≡ Ts j
unfolding leaf set_leaf
scalar_back (Ts l) i j k e h = ap Ts (some_kind e)
scalar_back (Tv n l) i j k e h = absurd (let z : ◌≡◌ {A = ℕ} 0 1 = cc in omega arith)
scalar_back (Tm c r l) i j k e h = absurd (let z : ◌≡◌ {A = ℕ} 0 1 = cc in omega arith)
scalar_back (Ta n t) i j k e h = absurd (let z : ◌≡◌ {A = ℕ} 0 1 = cc in omega arith)
scalar_back (Tu l m) i j k e h = absurd (let z : ◌≡◌ {A = ℕ} 0 1 = cc in omega arith)

inner_back : (x : Ty) (i j k : Kind) → leaf x ≡ some j → inner (set_leaf k x) ≡ Ts i → inner x ≡ Ts j
unfolding inner set_leaf leaf
inner_back (Ts l) i j k e h = ap Ts (some_kind e)
inner_back (Tv n l) i j k e h = ap Ts (some_kind e)
inner_back (Tm c r l) i j k e h = ap Ts (some_kind e)
inner_back (Ta n t) i j k e h = scalar_back t i j k e h
inner_back (Tu l m) i j k e h = absurd (none_some e)

-- what `to_inner` means
pub record Down (k : Kind) (x u : Ty) : Type 0 where
  pub kind : Kind
  pub at : inner x ≡ Ts kind
  pub is : set_leaf k x ≡ u
  pub ranks : T (some? (kind_rank kind k))

scalar_of_lem : (t : Ty) (k : Kind) → T (converts t (Ts k)) → (j : Kind) × (t ≡ Ts j) × T (some? (kind_rank j k))
unfolding lit_kind
scalar_of_lem (Ts j) k h = (j, refl, subst T (converts_lit j k) h)
scalar_of_lem (Tv n j) k h = absurd (subst T (not_to_scalar (Tv n j) k refl) h)
scalar_of_lem (Tm c r j) k h = absurd (subst T (not_to_scalar (Tm c r j) k refl) h)
scalar_of_lem (Ta n t) k h = absurd (subst T (not_to_scalar (Ta n t) k refl) h)
scalar_of_lem (Tu i m) k h = absurd (subst T (not_to_scalar (Tu i m) k refl) h)

pub down : (k : Kind) (x u : Ty) → to_inner k x ≡ some u → Down k x u
unfolding to_inner
down k x u h = go (converts (inner x) (Ts k)) refl h
  where
    go : (b : Bool) → converts (inner x) (Ts k) ≡ b → cond b (some (set_leaf k x)) none ≡ some u → Down k x u
    go true e q = let r = scalar_of_lem (inner x) k (subst T (sym e) tt) in record { kind = r.0; at = r.1; is = some_ty q; ranks = r.2 }
    go false e q = none_ty q

up : (k : Kind) (x u : Ty) → Down k x u → to_inner k x ≡ some u
unfolding to_inner
up k x u d =
    rw (d.at, true_of (converts (Ts d.kind) (Ts k)) (subst T (sym (converts_lit d.kind k)) d.ranks)) (ap some d.is)

-- what is below the common type goes down to the same type
pub below : (k : Kind) (x a u : Ty) → T (converts x a) → Down k a u → Down k x u
below k x a u c d = go (how x a c)
  where
    go : How x a → Down k x u
    go (stays e l) = absurd (none_some (sym l ∙ leaf_inner a d.kind d.at))
    go (changes j i e f q r) =
        record {
          kind = j;
          at = inner_back x d.kind j i e (ap inner q ∙ d.at);
          is = sym (set_set i k x) ∙ (ap (set_leaf k) q ∙ d.is);
          ranks = kind_trans j i k r (subst (λ (z : Kind). T (some? (kind_rank z k))) (some_kind (sym (leaf_inner a d.kind d.at) ∙ f))
              d.ranks);
        }

-- it converts to that type
down_conv : (k : Kind) (x u : Ty) → Down k x u → T (converts x u)
down_conv k x u d =
    converts_by x u d.kind k (leaf_inner x d.kind d.at)
    (ap leaf (sym d.is) ∙ leaf_set x d.kind k (leaf_inner x d.kind d.at)) d.is d.ranks

pub down_leaf : (k : Kind) (x u : Ty) → Down k x u → leaf u ≡ some k
down_leaf k x u d = ap leaf (sym d.is) ∙ leaf_set x d.kind k (leaf_inner x d.kind d.at)

-- what converts to that type goes down to it
beside : (k : Kind) (x a u : Ty) → Down k x u → T (converts a u) → Down k a u
beside k x a u d c = go (how a u c)
  where
    lu : leaf u ≡ some k
    lu = ap leaf (sym d.is) ∙ leaf_set x d.kind k (leaf_inner x d.kind d.at)

    go : How a u → Down k a u
    go (stays e l) = absurd (none_some (sym l ∙ lu))
    go (changes j i e f q r) =
        let w : i ≡ k = some_kind (sym f ∙ lu) in
        record {
          kind = j;
          at = inner_back a k j i e (ap inner (q ∙ sym d.is) ∙ inner_set x d.kind k d.at);
          is = ap (λ (z : Kind). set_leaf z a) (sym w) ∙ q;
          ranks = subst (λ (z : Kind). T (some? (kind_rank j z))) w r;
        }

-- ---- the payloads of columns or scalars

abbrev Wide : Kind → ℕ → Ty → Type 0
Wide k m t = (w : Val) → T (shaped_val w) → type_of w ≡ t → T (every (good_lit k) (payloads_of w)) × (length (payloads_of w) ≡ m)

wide_scalar : (k : Kind) → Wide k 1 (Ts k)
unfolding shaped_val type_of payloads_of every
wide_scalar k (Vs j p) g e = (both (good_lit k p) true (subst (λ (i : Kind). T (good_lit i p)) (ts_inj e) g) tt, refl)
wide_scalar k (Vv j ps) g e = absurd (let z : ◌≡◌ {A = ℕ} 0 1 = cc in omega arith)
wide_scalar k (Vm c r j ps) g e = absurd (let z : ◌≡◌ {A = ℕ} 0 1 = cc in omega arith)
wide_scalar k (Va l) g e = absurd (let z : ◌≡◌ {A = ℕ} 0 1 = cc in omega arith)
wide_scalar k (Vu i l) g e = absurd (let z : ◌≡◌ {A = ℕ} 0 1 = cc in omega arith)

tv_inj : {n m : ℕ} {j k : Kind} → Tv n j ≡ Tv m k → (n ≡ m) × (j ≡ k)
tv_inj {n} {m} {j} {k} h = let p : n ≡ m = cc in let q : j ≡ k = cc in (p, q)

wide_column : (k : Kind) (m : ℕ) → Wide k m (Tv m k)
unfolding shaped_val type_of payloads_of every
wide_column k m (Vs j p) g e = absurd (let z : ◌≡◌ {A = ℕ} 0 1 = cc in omega arith)
wide_column k m (Vv j ps) g e = (subst (λ (i : Kind). T (every (good_lit i) ps)) (tv_inj e).1 g, (tv_inj e).0)
wide_column k m (Vm c r j ps) g e = absurd (let z : ◌≡◌ {A = ℕ} 0 1 = cc in omega arith)
wide_column k m (Va l) g e = absurd (let z : ◌≡◌ {A = ℕ} 0 1 = cc in omega arith)
wide_column k m (Vu i l) g e = absurd (let z : ◌≡◌ {A = ℕ} 0 1 = cc in omega arith)

wide_all : (k : Kind) (m : ℕ) (t : Ty) → Wide k m t → (ws : List Val) → T (shaped_vals (vals_of ws)) → AllTy t (vals_of ws)
    → T (every (good_lit k) (payloads_of_all ws)) × (length (payloads_of_all ws) ≡ count_vals (vals_of ws) * m)
unfolding shaped_vals vals_of payloads_of_all every count_vals
wide_all k m t f [] g a = (tt, sym (zero-mul m))
wide_all k m t f (w ∷ ws) g a =
    let x = f w (and_l (shaped_val w) (shaped_vals (vals_of ws)) g) a.0 in
    let y = wide_all k m t f ws (and_r (shaped_val w) (shaped_vals (vals_of ws)) g) a.1 in
    let n : ℕ = count_vals (vals_of ws) in
    let q : length (payloads_of w) + length (payloads_of_all ws) ≡ suc n * m = ap₂ ◌+◌ x.1 y.1
    ∙ (add_comm m (n * m) ∙ sym (suc-mul n m)) in (
      subst T (sym (every_append (good_lit k) (payloads_of w) (payloads_of_all ws)))
          (both (every (good_lit k) (payloads_of w)) (every (good_lit k) (payloads_of_all ws)) x.0 y.0),
      length-append (payloads_of w) (payloads_of_all ws) ∙ q,
    )

count_ok : (b : Bool) (w g : ℕ) → need_count b w g ≡ ok tt → T b
count_ok true w g h = tt
count_ok false w g h = absurd (let z : ◌≡◌ {A = ℕ} 0 1 = cc in omega arith)

column_ok : (a b : Bool) (w g : ℕ) → need a 14 >> need_count b w g ≡ ok tt → T a × T b
column_ok true b w g h = (tt, count_ok b w g h)
column_ok false b w g h = absurd (let z : ◌≡◌ {A = ℕ} 0 1 = cc in omega arith)

pub full : (k : Kind) (ps : List ℕ) (n : ℕ) → T (every (good_lit k) ps) → length ps ≡ n → T (every (good_lit k) ps && eqb (length ps) n)
full k ps n g e = both (every (good_lit k) ps) (eqb (length ps) n) g (subst (λ (i : ℕ). T (eqb i n)) (sym e) (eqb_refl n))

-- where the shape is right, the payloads are c * r of the kind
pub shape_pay : (c r : ℕ) (t : Ty) (k : Kind) (n : ℕ) → leaf t ≡ some k → mat_shape c r t n ≡ ok tt → (ws : List Val)
    → T (shaped_vals (vals_of ws)) → AllTy t (vals_of ws)
    → count_vals (vals_of ws) ≡ n → T (shaped_val (Vm c r k (payloads_of_all ws)))
unfolding leaf mat_shape shaped_val
shape_pay c r (Ts j) k n e h ws g a q =
    let y = wide_all k 1 (Ts k) (wide_scalar k) ws g (subst (λ (i : Kind). AllTy (Ts i) (vals_of ws)) (some_kind e) a) in
    full k (payloads_of_all ws) (c * r) y.0 (y.1 ∙ (mul-one (count_vals (vals_of ws))
    ∙ (q ∙ eqb→eq n (c * r) (count_ok (eqb n (c * r)) (c * r) n h))))
shape_pay c r (Tv m j) k n e h ws g a q =
    let y = wide_all k m (Tv m k) (wide_column k m) ws g (subst (λ (i : Kind). AllTy (Tv m i) (vals_of ws)) (some_kind e) a) in
    let z = column_ok (eqb m r) (eqb n c) c n h in
    full k (payloads_of_all ws) (c * r) y.0 (y.1 ∙ ap₂ ◌*◌ (q ∙ eqb→eq n c z.1) (eqb→eq m r z.0))
shape_pay c r (Tm a' b' j) k n e h ws g a q = absurd (let z : ◌≡◌ {A = ℕ} 0 1 = cc in omega arith)
shape_pay c r (Ta m t) k n e h ws g a q = absurd (let z : ◌≡◌ {A = ℕ} 0 1 = cc in omega arith)
shape_pay c r (Tu i m) k n e h ws g a q = absurd (let z : ◌≡◌ {A = ℕ} 0 1 = cc in omega arith)

mat_made : (b : Bool) (c r : ℕ) (k : Kind) (t : Ty) (n : ℕ) (x : Option (List Val)) → leaf t ≡ some k → mat_shape c r t n ≡ ok tt
    → ConvL b n t x
    → Made (b && true) (Tm c r k) (or_no 10 x >>= λ ws. mat_shape c r t n >> ok (Vm c r k (payloads_of_all ws)))
unfolding refused type_of
mat_made true c r k t n x e h (ws, f, g, a, q) = rw (f, h) (Vm c r k (payloads_of_all ws), refl, shape_pay c r t k n e h ws g a q, refl)
mat_made false c r k t n x e h f = rw f tt

mat_shut : (c r : ℕ) (k : Kind) (t : Ty) (n : ℕ) (x : Option (List Val)) → T (refused (mat_shape c r t n))
    → T (refused (or_no 10 x >>= λ ws. mat_shape c r t n >> ok (Vm c r k (payloads_of_all ws))))
unfolding refused
mat_shut c r k t n none h = tt
mat_shut c r k t n (some ws) h = go (mat_shape c r t n) h
  where
    go : (y : Result (Unit {0})) → T (refused y) → T (refused (y >> ok (Vm c r k (payloads_of_all ws))))
    go (ok u) h = absurd h
    go (no i) h = tt
    go (miscount w i) h = tt

-- ---- columns or scalars into a matrix type

-- where typing's types pass, building's do; where building's pass, typing's do
pub data Types (k : Kind) (x : Ty) (l : List Ty) : Type 0 where
  pass : (t : Ty) → to_inner k x ≡ some t → T (every (λ a. converts a t) (x ∷ l)) → (a : Ty) → common (x ∷ l) ≡ some a
      → to_inner k a ≡ some t → Types k x l
  shut : ((a t : Ty) → common (x ∷ l) ≡ some a → to_inner k a ≡ some t → ⊥) → to_inner k x ≡ none → Types k x l
  shut' : ((a t : Ty) → common (x ∷ l) ≡ some a → to_inner k a ≡ some t → ⊥) → (u : Ty) → to_inner k x ≡ some u
      → every (λ a. converts a u) (x ∷ l) ≡ false → Types k x l

every_map : (l : List Ty) (f g : Ty → Bool) → ((x : Ty) → T (f x) → T (g x)) → T (every f l) → T (every g l)
unfolding every
every_map [] f g h p = tt
every_map (x ∷ l) f g h p = both (g x) (every g l) (h x (and_l (f x) (every f l) p)) (every_map l f g h (and_r (f x) (every f l) p))

pub types : (k : Kind) (x : Ty) (l : List Ty) → Types k x l
unfolding every common
types k x l = go (to_inner k x) refl
  where
    head : (a : Ty) → common (x ∷ l) ≡ some a → T (converts x a)
    head a e = and_l (converts x a) (every (λ z. converts z a) l) (common_all (x ∷ l) a e)

    same : (a t : Ty) → common (x ∷ l) ≡ some a → to_inner k a ≡ some t → to_inner k x ≡ some t
    same a t e f = up k x t (below k x a t (head a e) (down k a t f))

    common_cons : (a : Ty) → common_from (some x) l ≡ some a → common (x ∷ l) ≡ some a
    common_cons a h = h

    go2 : (u : Ty) → to_inner k x ≡ some u → (b : Bool) → every (λ a. converts a u) (x ∷ l) ≡ b → Types k x l
    go2 u e true h =
        let p : T (every (λ a. converts a u) (x ∷ l)) = subst T (sym h) tt in
        let r = chain_from x l u (and_l (converts x u) (every (λ a. converts a u) l) p)
        (and_r (converts x u) (every (λ a. converts a u) l) p) in
        pass u e p r.0 (common_cons r.0 r.1) (up k r.0 u (beside k x r.0 u (down k x u e) r.2))
    go2 u e false h =
        shut' (λ a t c f. true_false (sym (true_of (every (λ z. converts z u) (x ∷ l))
        (every_map (x ∷ l) (λ z. converts z a) (λ z. converts z u)
        (λ z w. conv_trans z a u w (subst (λ (y : Ty). T (converts a y)) (some_ty (sym (same a t c f) ∙ e))
        (down_conv k a t (down k a t f)))) (common_all (x ∷ l) a c))) ∙ h)) u e h

    go : (o : Option Ty) → to_inner k x ≡ o → Types k x l
    go none e = shut (λ a t c f. none_ty (sym e ∙ same a t c f)) e
    go (some u) e = go2 u e (every (λ a. converts a u) (x ∷ l)) refl

pub agrees_no : (s : Stage) (g : Target) (l : List Val) (x : Result Ty) (b : Result Val) → T (refused x) → T (refused b) → Agrees s g l x b
unfolding refused
agrees_no s g l (ok a) b h k = absurd h
agrees_no s g l (no n) b h k = k
agrees_no s g l (miscount w n) b h k = k

type_shut : (c r : ℕ) (k : Kind) (l : List Ty) → ((a t : Ty) → common l ≡ some a → to_inner k a ≡ some t → ⊥) → T (refused (type_mat c r k l))
unfolding type_mat refused
type_shut c r k l h = go (common l) refl
  where
    go2 : (a : Ty) → common l ≡ some a → (o : Option Ty) → to_inner k a ≡ o
        → T (refused (or_no 7 o >>= λ t. mat_shape c r t (length l) >> ok (Tm c r k)))
    go2 a e none f = tt
    go2 a e (some t) f = absurd (h a t e f)

    go : (o : Option Ty) → common l ≡ o → T (refused (or_no 10 o >>= λ a. or_no 7 (to_inner k a) >>= λ t. mat_shape c r t (length l) >> ok
        (Tm c r k)))
    go none e = tt
    go (some a) e = go2 a e (to_inner k a) refl

-- the shape's test, in typing and in building
pub mat_end : (s : Stage) (g : Target) (c r : ℕ) (k : Kind) (t : Ty) (l : List Val) (n : ℕ) → n ≡ length l → leaf t ≡ some k → AllOk l
    → nothing_stops s g (Tm c r k) l ≡ fits_in false s (replicate (length l) (Ts k)) l && true
    → (x : Option (List Val)) → ConvL (fits_in false s (replicate (length l) t) l) (length l) t x
    → Agrees s g l (mat_shape c r t n >> ok (Tm c r k)) (or_no 10 x >>= λ ws. mat_shape c r t (length l) >> ok (Vm c r k (payloads_of_all ws)))
unfolding leaf refused
mat_end s g c r k t l n e lt a q x cl = rw e (go (mat_shape c r t (length l)) refl)
  where
    fits : fits_in false s (replicate (length l) t) l ≡ fits_in false s (replicate (length l) (Ts k)) l
    fits = fits_every false s t l ∙ (ap (λ (o : Option Kind). every (fits_leaf false s o) l) lt ∙ sym (fits_every false s (Ts k) l))

    built : Result Val
    built = or_no 10 x >>= λ ws. mat_shape c r t (length l) >> ok (Vm c r k (payloads_of_all ws))

    go : (y : Result (Unit {0})) → mat_shape c r t (length l) ≡ y → Agrees s g l (y >> ok (Tm c r k)) built
    go (ok tt) h = rw (q, ← fits) (mat_made (fits_in false s (replicate (length l) t) l) c r k t (length l) x lt h cl)
    go (no i) h = mat_shut c r k t (length l) x (rw h tt)
    go (miscount w i) h = mat_shut c r k t (length l) x (rw h tt)

pub mat_agree : (s : Stage) (g : Target) (c r : ℕ) (k : Kind) (v : Val) (l : List Val) → AllOk (v ∷ l)
    → nothing_stops s g (Tm c r k) (v ∷ l) ≡ fits_in false s (replicate (length (v ∷ l)) (Ts k)) (v ∷ l) && true
    → Types k (type_of v) (map type_of l) → Agrees s g (v ∷ l) (type_mat c r k (map type_of (v ∷ l))) (mat_parts c r k v l)
unfolding type_mat mat_parts refused
mat_agree s g c r k v l a q (pass t e p b f h) =
    rw (e, f, h)
    (mat_end s g c r k t (v ∷ l) (length (map type_of (v ∷ l))) (length_map (v ∷ l)) (down_leaf k (type_of v) t (down k (type_of v) t e)) a q
    (all_some (conv_val t) (v ∷ l)) (conv_list t (v ∷ l) s a p))
mat_agree s g c r k v l a q (shut h e) = agrees_no s g (v ∷ l) (type_mat c r k (map type_of (v ∷ l))) (mat_parts c r k v l)
    (type_shut c r k (map type_of (v ∷ l)) h) (rw e tt)
mat_agree s g c r k v l a q (shut' h u e f) =
    agrees_no s g (v ∷ l) (type_mat c r k (map type_of (v ∷ l))) (mat_parts c r k v l) (type_shut c r k (map type_of (v ∷ l)) h)
    (rw (e, conv_list_not u (v ∷ l) f) tt)

-- ---- one matrix into a matrix type

from_mats : (b : Bool) (c r : ℕ) (k : Kind) (m : ℕ) → m ≡ c * r → (x : Result (List ℕ)) → LitsR b k m x
    → Made ((b && true) && true) (Tm c r k) (x >>= λ qs. ok (Vm c r k qs))
unfolding refused shaped_val type_of
from_mats true c r k m e x (qs, f, g, l) = rw f (Vm c r k qs, refl, full k qs (c * r) g (l ∙ e), refl)
from_mats false c r k m e x f = stuck x (λ qs. ok (Vm c r k qs)) f

same_size_lem : (c r a b : ℕ) → T (same_size c r a b) → a * b ≡ c * r
unfolding same_size
same_size_lem c r a b h = ap₂ ◌*◌ (eqb→eq a c (and_l (eqb a c) (eqb b r) h)) (eqb→eq b r (and_r (eqb a c) (eqb b r) h))

pub agree_mat_one : (s : Stage) (c r : ℕ) (k : Kind) (v : Val) → AllOk (v ∷ []) → T (not (is_abstract k))
    → Agrees s (Of (Tm c r k)) (v ∷ []) (typed (Of (Tm c r k)) (type_of v ∷ [])) (build s (Of (Tm c r k)) (v ∷ []))
unfolding typed build typeable type_one build_one type_mat_one mat_one type_of nothing_stops by_ctor by_ctor_one lands counted shaped_val fits_in
    fits_leaf leaf literals refused
agree_mat_one s c r k (Vs j p) g n = mat_agree s (Of (Tm c r k)) c r k (Vs j p) [] g refl (types k (Ts j) [])
agree_mat_one s c r k (Vv j ps) g n = mat_agree s (Of (Tm c r k)) c r k (Vv j ps) [] g refl (types k (Tv (length ps) j) [])
agree_mat_one s c r k (Va l) g n = mat_agree s (Of (Tm c r k)) c r k (Va l) [] g refl (types k (type_of (Va l)) [])
agree_mat_one s c r k (Vu i l) g n = mat_agree s (Of (Tm c r k)) c r k (Vu i l) [] g refl (types k (type_of (Vu i l)) [])
agree_mat_one s c r k (Vm a b j ps) g n = rw (true_of (not (is_abstract k)) n) (go (same_size c r a b) refl)
  where
    g1 : T (every (good_lit j) ps && eqb (length ps) (a * b))
    g1 = g.0

    go : (y : Bool) → same_size c r a b ≡ y
        → Agrees s (Of (Tm c r k)) (Vm a b j ps ∷ []) (need y 7 >> ok (Tm c r k))
        (need y 7 >> (all (ctor_lit s k j) ps >>= λ qs. ok (Vm c r k qs)))
    go true e =
        from_mats (every (lit_fits true s k) (map (λ p. (j, p)) ps)) c r k (length ps)
        (eqb→eq (length ps) (a * b) (and_r (every (good_lit j) ps) (eqb (length ps) (a * b)) g1) ∙ same_size_lem c r a b (subst T (sym e) tt))
        (all (ctor_lit s k j) ps) (ctor_all_lits s k j n ps (and_l (every (good_lit j) ps) (eqb (length ps) (a * b)) g1))
    go false e = tt

pub agree_mat_more : (s : Stage) (c r : ℕ) (k : Kind) (v w : Val) (l : List Val) → AllOk (v ∷ w ∷ l)
    → Agrees s (Of (Tm c r k)) (v ∷ w ∷ l) (typed (Of (Tm c r k)) (map type_of (v ∷ w ∷ l))) (build s (Of (Tm c r k)) (v ∷ w ∷ l))
unfolding typed build typeable type_more build_more nothing_stops by_ctor lands counted
agree_mat_more s c r k v w l g = mat_agree s (Of (Tm c r k)) c r k v (w ∷ l) g refl (types k (type_of v) (map type_of (w ∷ l)))
