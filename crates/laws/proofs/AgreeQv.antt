-- The third demand at the level of trees: the untemplated vector.
use mathlib.Core.Path.{◌≡◌, refl, sym, ap, ap₂, ◌∙◌, subst}
use mathlib.Core.Option.{Option, none, some}
use mathlib.Core.List.{List, [], ◌∷◌, ◌++◌, map, map-append}
use mathlib.Core.Bool.{Bool, true, false, ◌&&◌, cond}
use Prim.Native.Nat.{ℕ, ◌+◌}
use native.Mathlib.Omega.{arith}
use lib.Dec.{T, leb, leb→le, eqb, eqb→eq}
use lib.ListN.{length, replicate, length-replicate, length-append}
use borrow.Author.Tests.{ne_eqb}
use Rattle.meaning.specs.Kinds.{Kind, aint, same_kind}
use Rattle.meaning.specs.Scalars.{Stage, fits_conv}
use Rattle.meaning.specs.Trees.{Ty, Ts, Tv, Tm, Ta, Tu, Val, Vs, Vv, Vm, Va, Vu, Qv, type_of, leaf}
use Rattle.meaning.specs.Trees.{zero_of}
use Rattle.meaning.specs.Answers.{Result, ok, no, miscount, ◌>>=◌, ◌>>◌, or_no, all, all_some, need, need_count}
use Rattle.meaning.specs.Records.{every, shaped_val, shaped_ty, side}
use Rattle.meaning.specs.Convert.{converts, conv_val, common, common_from, meet}
use Rattle.meaning.specs.Build.{build, qv_one, qv_parts, flattened, parts, payload, lit_kind}
use Rattle.meaning.specs.Typing.{typed, type_qv, type_qv_one, part_of, part_kind, part_count, total}
use Rattle.laws.specs.Demand.{fits_in, fits_leaf, lit_fits, literals, by_ctor, lands, counted, nothing_stops, refused}
use Rattle.laws.proofs.AgreeConv.{true_of, every_append}
use Rattle.laws.proofs.AgreeBuild.{zero_made, Made, Agrees, AllOk, ConvL, conv_list, true_false}
use Rattle.laws.proofs.AgreeVec.{length_map_vs, ok_flat, and_false, fits_parts, to_scalar, scalar_append, splat_good, stuck}
use Rattle.laws.proofs.AgreeVec.{payloads_of_lem, fits_every, not_to_scalar}
use Rattle.laws.proofs.AgreeCommon.{common_all, conv_refl}
use Rattle.laws.proofs.AgreeQm.{same_fits}
use Rattle.laws.proofs.Back.{and_l}
use Rattle.laws.proofs.Same.{same_kind_refl}

-- ---- one argument

pub agree_qv_one : (s : Stage) (n : ℕ) (v : Val) → T (side n) → AllOk (v ∷ [])
    → Agrees s (Qv n) (v ∷ []) (typed (Qv n) (type_of v ∷ [])) (build s (Qv n) (v ∷ []))
unfolding typed build type_qv_one qv_one qv_parts type_of nothing_stops by_ctor lands counted fits_in fits_leaf leaf literals refused side shaped_val
    every lit_fits fits_conv
agree_qv_one s n (Vs k p) h g =
    rw (true_of (same_kind k k) (same_kind_refl k)) (
      Vv k (replicate n p),
      refl,
      splat_good k n p g.0,
      ap (λ (i : ℕ). Tv i k)
          (length-replicate n p),
    )
agree_qv_one s n (Vv k ps) h g = go (eqb (length ps) n) refl
  where
    go : (y : Bool) → eqb (length ps) n ≡ y → Agrees s (Qv n) (Vv k ps ∷ []) (need y 12 >> ok (Tv n k)) (need y 7 >> ok (Vv k ps))
    go true e = rw (same_fits s k ps) (Vv k ps, refl, g.0, ap (λ (i : ℕ). Tv i k) (eqb→eq (length ps) n (subst T (sym e) tt)))
    go false e = tt
agree_qv_one s n (Vm c r k ps) h g = rw (ne_eqb 1 n (λ e. omega (arith, leb→le 2 n (and_l (leb 2 n) (leb n 4) h)))) tt
agree_qv_one s n (Va l) h g = rw (ne_eqb 1 n (λ e. omega (arith, leb→le 2 n (and_l (leb 2 n) (leb n 4) h)))) tt
agree_qv_one s n (Vu i l) h g = rw (ne_eqb 1 n (λ e. omega (arith, leb→le 2 n (and_l (leb 2 n) (leb n 4) h)))) tt

-- ---- the common type of the components is that of the arguments' kinds

meet_same : (o : Option Ty) (b : Ty) → meet (meet o b) b ≡ meet o b
unfolding meet
meet_same none b = refl
meet_same (some a) b = go (converts a b) refl (converts b a) refl
  where
    go : (p : Bool) → converts a b ≡ p → (q : Bool) → converts b a ≡ q
        → meet (cond p (some b) (cond q (some a) none)) b ≡ cond p (some b) (cond q (some a) none)
    go true e q f = rw (true_of (converts b b) (conv_refl b), meet)
    go false e true f = rw (e, f, meet)
    go false e false f = refl

from_append : (o : Option Ty) (a b : List Ty) → common_from o (a ++ b) ≡ common_from (common_from o a) b
unfolding common_from
from_append o [] b = refl
from_append o (x ∷ a) b = from_append (meet o x) a b

from_lits : (o : Option Ty) (j : Kind) (p : ℕ) (ps : List ℕ) → common_from o (map type_of (map (Vs j) (p ∷ ps))) ≡ meet o (Ts j)
unfolding common_from type_of
from_lits o j p [] = refl
from_lits o j p (q ∷ ps) = from_lits (meet o (Ts j)) j q ps ∙ meet_same o (Ts j)

-- what typing says of one argument, and what it means for its components
data QPart (v : Val) : Type 0 where
  fine : (j : Kind) → part_kind (type_of v) ≡ some j → part_count (type_of v) ≡ length (parts v)
      → ((o : Option Ty) → common_from o (map type_of (parts v)) ≡ meet o (Ts j)) → QPart v
  bad : part_kind (type_of v) ≡ none → ((k : Kind) → to_scalar k (parts v) ≡ false) → QPart v

qpart : (v : Val) → T (shaped_ty (type_of v)) → QPart v
unfolding type_of part_kind part_count parts common_from to_scalar every lit_kind shaped_ty side
qpart (Vs j p) h = fine j refl refl (λ o. refl)
qpart (Vv j []) h = absurd h
qpart (Vv j (p ∷ ps)) h = fine j refl (length_map_vs j (p ∷ ps)) (λ o. from_lits o j p ps)
qpart (Vm c r j ps) h = bad refl (λ k. rw (not_to_scalar (Tm c r j) k refl))
qpart (Va l) h = bad refl (λ k. rw (not_to_scalar (type_of (Va l)) k refl))
qpart (Vu i l) h = bad refl (λ k. rw (not_to_scalar (type_of (Vu i l)) k refl))

data QParts (l : List Val) : Type 0 where
  fine : (ks : List Kind) → all part_of (map type_of l) ≡ ok ks → total (map type_of l) ≡ length (flattened l)
      → ((o : Option Ty) → common_from o (map type_of (flattened l)) ≡ common_from o (map Ts ks))
      → ((s : Stage) (k : Kind) → every (fits_leaf false s (some k)) (flattened l) ≡ every (fits_leaf false s (some k)) l) → QParts l
  bad : T (refused (all part_of (map type_of l))) → ((k : Kind) → to_scalar k (flattened l) ≡ false) → QParts l

qjoin : (v : Val) (l : List Val) → QPart v → QParts l → QParts (v ∷ l)
unfolding flattened total all every part_of refused common_from
qjoin v l (fine j e n c) (fine ks f m d q) =
    QParts.fine (j ∷ ks) (rw (e, f)) (ap₂ ◌+◌ n m ∙ sym (length-append (parts v) (flattened l)))
    (λ o. ap (common_from o) (map-append type_of (parts v) (flattened l)) ∙ (from_append o (map type_of (parts v)) (map type_of (flattened l))
    ∙ (ap (λ (x : Option Ty). common_from x (map type_of (flattened l))) (c o) ∙ d (meet o (Ts j)))))
    (λ s k. every_append (fits_leaf false s (some k)) (parts v) (flattened l) ∙ ap₂ ◌&&◌ (fits_parts s k j v e) (q s k))
qjoin v l (fine j e n c) (bad h f) =
    QParts.bad (rw e (stuck (all part_of (map type_of l)) (λ bs. ok (j ∷ bs)) h))
    (λ k. scalar_append k (parts v) (flattened l) ∙ (ap (λ (x : Bool). to_scalar k (parts v) && x) (f k) ∙ and_false (to_scalar k (parts v))))
qjoin v l (bad e f) r =
    QParts.bad (rw e tt) (λ k. scalar_append k (parts v) (flattened l) ∙ ap (λ (x : Bool). x && to_scalar k (flattened l)) (f k))

qparts : (l : List Val) → AllOk l → QParts l
unfolding flattened total all every
qparts [] g = QParts.fine [] refl refl (λ o. refl) (λ s k. refl)
qparts (v ∷ l) g = qjoin v l (qpart v g.1) (qparts l g.2)

-- ---- several arguments

ts_kind : {i j : Kind} → ◌≡◌ {A = Option Kind} (some i) (some j) → Ts i ≡ Ts j
ts_kind h = cc

lits_same : (j : Kind) (ps : List ℕ) → common_from (some (Ts j)) (map type_of (map (Vs j) ps)) ≡ some (Ts j)
unfolding common_from meet
lits_same j [] = refl
lits_same j (p ∷ ps) = from_lits (some (Ts j)) j p ps ∙ rw (true_of (converts (Ts j) (Ts j)) (conv_refl (Ts j)))

first_common : (v : Val) (j : Kind) → T (shaped_ty (type_of v)) → part_kind (type_of v) ≡ some j → (xs : List Ty)
    → common (map type_of (parts v) ++ xs) ≡ common_from (some (Ts j)) xs
unfolding type_of part_kind parts common common_from shaped_ty side
first_common (Vs i p) j h e xs = ap (λ (t : Ty). common_from (some t) xs) (ts_kind e)
first_common (Vv i []) j h e xs = absurd h
first_common (Vv i (p ∷ ps)) j h e xs =
    from_append (some (Ts i)) (map type_of (map (Vs i) ps)) xs ∙
    (ap (λ (o : Option Ty). common_from o xs) (lits_same i ps) ∙ ap (λ (t : Ty). common_from (some t) xs) (ts_kind e))
first_common (Vm c r i ps) j h e xs = absurd (let z : ◌≡◌ {A = ℕ} 0 1 = cc in omega arith)
first_common (Va l) j h e xs = absurd (let z : ◌≡◌ {A = ℕ} 0 1 = cc in omega arith)
first_common (Vu i l) j h e xs = absurd (let z : ◌≡◌ {A = ℕ} 0 1 = cc in omega arith)

scalar_ty : (t : Ty) (k : Kind) → lit_kind t ≡ some k → t ≡ Ts k
unfolding lit_kind
scalar_ty (Ts j) k h = ts_kind h
scalar_ty (Tv n j) k h = absurd (let z : ◌≡◌ {A = ℕ} 0 1 = cc in omega arith)
scalar_ty (Tm c r j) k h = absurd (let z : ◌≡◌ {A = ℕ} 0 1 = cc in omega arith)
scalar_ty (Ta n t) k h = absurd (let z : ◌≡◌ {A = ℕ} 0 1 = cc in omega arith)
scalar_ty (Tu i m) k h = absurd (let z : ◌≡◌ {A = ℕ} 0 1 = cc in omega arith)

-- building, from the count on
rest : ℕ → List Val → Option Ty → Result Val
rest n fl o = or_no 10 o >>= λ t. or_no 10 (all_some (conv_val t) fl) >>= λ ws. or_no 12 (lit_kind t) >>= λ k. or_no 12 (all_some payload ws) >>= λ
    ps. ok (Vv k ps)

qv_made : (b : Bool) (k : Kind) (m n : ℕ) → m ≡ n → (x : Option (List Val)) → ConvL b m (Ts k) x
    → Made (b && true) (Tv n k) (or_no 10 x >>= λ ws. or_no 12 (some k) >>= λ i. or_no 12 (all_some payload ws) >>= λ ps. ok (Vv i ps))
unfolding refused shaped_val type_of
qv_made true k m n h x (ws, e, g, a, c) =
    let y = payloads_of_lem k ws g a in
    rw (e, y.1) (Vv k y.0, refl, y.2, ap (λ (i : ℕ). Tv i k) (y.3 ∙ (c ∙ h)))
qv_made false k m n h x e = rw e tt

-- a component that is no scalar: there is no common type, or it is no scalar
rest_bad : (n : ℕ) (fl : List Val) → ((k : Kind) → to_scalar k fl ≡ false) → T (refused (rest n fl (common (map type_of fl))))
unfolding rest refused to_scalar
rest_bad n fl h = go (common (map type_of fl)) refl
  where
    go3 : (t : Ty) → common (map type_of fl) ≡ some t → (o : Option Kind) → lit_kind t ≡ o → (x : Option (List Val))
        → T (refused (or_no 10 x >>= λ ws. or_no 12 o >>= λ k. or_no 12 (all_some payload ws) >>= λ ps. ok (Vv k ps)))
    go3 t e none f none = tt
    go3 t e none f (some ws) = tt
    go3 t e (some k) f x =
        true_false (sym (true_of (every (λ a. converts a (Ts k)) (map type_of fl))
        (subst (λ (u : Ty). T (every (λ a. converts a u) (map type_of fl))) (scalar_ty t k f) (common_all (map type_of fl) t e))) ∙ h k)

    go : (o : Option Ty) → common (map type_of fl) ≡ o → T (refused (rest n fl o))
    go none e = tt
    go (some t) e = go3 t e (lit_kind t) refl (all_some (conv_val t) fl)

count_rest : (n m : ℕ) (fl : List Val) (b : Bool) → T (refused (rest n fl (common (map type_of fl))))
    → T (refused (need_count b n m >> rest n fl (common (map type_of fl))))
unfolding refused
count_rest n m fl true h = h
count_rest n m fl false h = tt

-- of the whole list: typing's kinds and their common type, or a part that is no scalar
data QAll (l : List Val) : Type 0 where
  fine : (ks : List Kind) → all part_of (map type_of l) ≡ ok ks → total (map type_of l) ≡ length (flattened l)
      → common (map type_of (flattened l)) ≡ common (map Ts ks)
      → ((s : Stage) (k : Kind) → every (fits_leaf false s (some k)) (flattened l) ≡ every (fits_leaf false s (some k)) l) → QAll l
  bad : T (refused (all part_of (map type_of l))) → ((k : Kind) → to_scalar k (flattened l) ≡ false) → QAll l

qall : (v : Val) (l : List Val) → T (shaped_ty (type_of v)) → QPart v → QParts l → QAll (v ∷ l)
unfolding flattened total all every part_of refused common
qall v l h (fine j e n c) (fine ks f m d q) =
    QAll.fine (j ∷ ks) (rw (e, f)) (ap₂ ◌+◌ n m ∙ sym (length-append (parts v) (flattened l)))
    (ap common (map-append type_of (parts v) (flattened l)) ∙ (first_common v j h e (map type_of (flattened l)) ∙ d (some (Ts j))))
    (λ s k. every_append (fits_leaf false s (some k)) (parts v) (flattened l) ∙ ap₂ ◌&&◌ (fits_parts s k j v e) (q s k))
qall v l h (fine j e n c) (bad g f) =
    QAll.bad (rw e (stuck (all part_of (map type_of l)) (λ bs. ok (j ∷ bs)) g))
    (λ k. scalar_append k (parts v) (flattened l) ∙ (ap (λ (x : Bool). to_scalar k (parts v) && x) (f k) ∙ and_false (to_scalar k (parts v))))
qall v l h (bad e f) r =
    QAll.bad (rw e tt) (λ k. scalar_append k (parts v) (flattened l) ∙ ap (λ (x : Bool). x && to_scalar k (flattened l)) (f k))

type_rest_lem : ℕ → Option Ty → Result Ty
type_rest_lem n o = or_no 10 o >>= λ t. or_no 10 (lit_kind t) >>= λ k. ok (Tv n k)

rest_agree : (s : Stage) (n : ℕ) (v w : Val) (l : List Val) → AllOk (v ∷ w ∷ l) → length (flattened (v ∷ w ∷ l)) ≡ n
    → ((s : Stage) (k : Kind) → every (fits_leaf false s (some k)) (flattened (v ∷ w ∷ l)) ≡ every (fits_leaf false s (some k)) (v ∷ w ∷ l))
    → (o : Option Ty) → common (map type_of (flattened (v ∷ w ∷ l))) ≡ o
    → Agrees s (Qv n) (v ∷ w ∷ l) (type_rest_lem n o) (rest n (flattened (v ∷ w ∷ l)) o)
unfolding type_rest_lem rest refused nothing_stops by_ctor lands counted leaf
rest_agree s n v w l g len q none e = tt
rest_agree s n v w l g len q (some t) e = go (lit_kind t) refl
  where
    fl : List Val
    fl = flattened (v ∷ w ∷ l)

    shut : (x : Option (List Val)) → T (refused (or_no 10 x >>= λ ws. or_no 12 none >>= λ k. or_no 12 (all_some payload ws) >>= λ ps. ok
        (Vv k ps)))
    shut none = tt
    shut (some ws) = tt

    fits : (k : Kind) → fits_in false s (replicate (length fl) (Ts k)) fl ≡ fits_in false s (replicate (length (v ∷ w ∷ l)) (Ts k))
        (v ∷ w ∷ l)
    fits k = fits_every false s (Ts k) fl ∙ (q s k ∙ sym (fits_every false s (Ts k) (v ∷ w ∷ l)))

    go : (o : Option Kind) → lit_kind t ≡ o → Agrees s (Qv n) (v ∷ w ∷ l) (or_no 10 o >>= λ k. ok (Tv n k))
        (or_no 10 (all_some (conv_val t) fl) >>= λ ws. or_no 12 o >>= λ k. or_no 12 (all_some payload ws) >>= λ ps. ok (Vv k ps))
    go none f = shut (all_some (conv_val t) fl)
    go (some k) f =
        rw (← fits k)
        (qv_made (fits_in false s (replicate (length fl) (Ts k)) fl) k (length fl) n len (all_some (conv_val t) fl)
        (subst (λ (u : Ty). ConvL (fits_in false s (replicate (length fl) u) fl) (length fl) u (all_some (conv_val t) fl)) (scalar_ty t k f)
        (conv_list t fl s (ok_flat (v ∷ w ∷ l) g) (common_all (map type_of fl) t e))))

qv_more : (s : Stage) (n : ℕ) (v w : Val) (l : List Val) → AllOk (v ∷ w ∷ l) → QAll (v ∷ w ∷ l)
    → Agrees s (Qv n) (v ∷ w ∷ l) (type_qv n (map type_of (v ∷ w ∷ l))) (qv_parts n (flattened (v ∷ w ∷ l)))
unfolding type_qv qv_parts rest type_rest_lem refused
qv_more s n v w l g (bad h f) =
    agrees_bad' (all part_of (map type_of (v ∷ w ∷ l))) h
  where
    fl : List Val
    fl = flattened (v ∷ w ∷ l)

    agrees_bad' : (x : Result (List Kind)) → T (refused x)
        → Agrees s (Qv n) (v ∷ w ∷ l) (x >>= λ ks. need_count (eqb (total (map type_of (v ∷ w ∷ l))) n) n (length (map type_of (v ∷ w ∷ l)))
        >> type_rest_lem n (common (map Ts ks))) (qv_parts n fl)
    agrees_bad' (ok ks) h = absurd h
    agrees_bad' (no i) h = count_rest n (length fl) fl (eqb (length fl) n) (rest_bad n fl f)
    agrees_bad' (miscount i j) h = count_rest n (length fl) fl (eqb (length fl) n) (rest_bad n fl f)
qv_more s n v w l g (fine ks e t c q) = rw (e, t, ← c) (go (eqb (length fl) n) refl)
  where
    fl : List Val
    fl = flattened (v ∷ w ∷ l)

    go : (b : Bool) → eqb (length fl) n ≡ b
        → Agrees s (Qv n) (v ∷ w ∷ l) (need_count b n (length (map type_of (v ∷ w ∷ l))) >> type_rest_lem n (common (map type_of fl)))
        (need_count b n (length fl) >> rest n fl (common (map type_of fl)))
    go true h = rest_agree s n v w l g (eqb→eq (length fl) n (subst T (sym h) tt)) q (common (map type_of fl)) refl
    go false h = tt

pub agree_qv_more : (s : Stage) (n : ℕ) (v w : Val) (l : List Val) → AllOk (v ∷ w ∷ l)
    → Agrees s (Qv n) (v ∷ w ∷ l) (typed (Qv n) (map type_of (v ∷ w ∷ l))) (build s (Qv n) (v ∷ w ∷ l))
unfolding typed build
agree_qv_more s n v w l g = qv_more s n v w l g (qall v (w ∷ l) g.1 (qpart v g.1) (qparts (w ∷ l) g.2))

pub agree_qv_none : (s : Stage) (n : ℕ) → T (shaped_ty (Tv n aint)) → Agrees s (Qv n) [] (typed (Qv n) []) (build s (Qv n) [])
unfolding typed build nothing_stops fits_in counted by_ctor lands
agree_qv_none s n h = let z = zero_made (Tv n aint) h in (zero_of (Tv n aint), refl, z.0, z.1)
