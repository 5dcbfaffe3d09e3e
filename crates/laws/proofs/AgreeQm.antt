-- The third demand at the level of trees: the untemplated matrix.
use mathlib.Core.Path.{◌≡◌, refl, sym, subst}
use mathlib.Core.Option.{Option, none, some}
use mathlib.Core.List.{List, [], ◌∷◌, map}
use mathlib.Core.Bool.{Bool, true, false, cond}
use Prim.Native.Nat.{ℕ}
use native.Mathlib.Omega.{arith}
use lib.Dec.{T}
use lib.ListN.{length, replicate}
use Rattle.meaning.specs.Kinds.{Kind, kind_rank, same_kind, is_float, aint, afloat, from_aint}
use Rattle.meaning.specs.Scalars.{Stage, some?, fits_conv}
use Rattle.meaning.specs.Trees.{Ty, Ts, Tv, Tm, Ta, Tu, Val, Vs, Vv, Vm, Va, Vu, Qm, type_of, vals_of, leaf}
use Rattle.meaning.specs.Trees.{set_leaf, inner, count_vals}
use Rattle.meaning.specs.Answers.{ok, ◌>>=◌, ◌>>◌, or_no, all_some, need}
use Rattle.meaning.specs.Records.{every, shaped_vals}
use Rattle.meaning.specs.Convert.{converts, conv_lits, common, float_kind}
use Rattle.meaning.specs.Build.{build, mat_shape, payloads_of_all, same_size, qm_one, qm_parts}
use Rattle.meaning.specs.Typing.{typed, type_qm, type_qm_one}
use Rattle.laws.specs.Demand.{fits_in, fits_leaf, lit_fits, literals, by_ctor, lands, counted, nothing_stops, refused}
use Rattle.laws.proofs.AgreeLit.{same_kind_lem}
use Rattle.laws.proofs.AgreeConv.{true_of, Conv, conv_lits_lem, rank_refl}
use Rattle.laws.proofs.AgreeBuild.{Agrees, AllOk, ConvL, list_cons, length_map}
use Rattle.laws.proofs.AgreeCommon.{common_all}
use Rattle.laws.proofs.AgreeMat.{Down, below, leaf_inner, down_leaf, mat_end}
use Rattle.laws.proofs.Back.{and_l, and_r}
use Rattle.laws.proofs.Same.{same_kind_refl}

some_inj : {j k : Kind} → ◌≡◌ {A = Option Kind} (some j) (some k) → j ≡ k
some_inj h = cc

base : T (some? (kind_rank aint afloat))
unfolding some? kind_rank from_aint
base = tt

-- the float kind is one that the arguments' kind converts to
pub float_kind_lem : (t : Ty) (k : Kind) → float_kind t ≡ some k → (j : Kind) × (t ≡ Ts j) × T (some? (kind_rank j k))
unfolding float_kind
float_kind_lem (Ts j) k h = (j, refl, go (same_kind j aint) refl (is_float j) h)
  where
    from_aint_lem : aint ≡ j → afloat ≡ k → T (some? (kind_rank j k))
    from_aint_lem e f = subst (λ (x : Kind). T (some? (kind_rank x k))) e (subst (λ (x : Kind). T (some? (kind_rank aint x))) f base)

    go : (a : Bool) → same_kind j aint ≡ a → (b : Bool) → cond a (some afloat) (cond b (some j) none) ≡ some k → T (some? (kind_rank j k))
    go true e b q = from_aint_lem (sym (same_kind_lem j aint (subst T (sym e) tt))) (some_inj q)
    go false e true q = subst (λ (x : Kind). T (some? (kind_rank j x))) (some_inj q) (rank_refl j)
    go false e false q = absurd (let z : ◌≡◌ {A = ℕ} 0 1 = cc in omega arith)
float_kind_lem (Tv n j) k h = absurd (let z : ◌≡◌ {A = ℕ} 0 1 = cc in omega arith)
float_kind_lem (Tm c r j) k h = absurd (let z : ◌≡◌ {A = ℕ} 0 1 = cc in omega arith)
float_kind_lem (Ta n t) k h = absurd (let z : ◌≡◌ {A = ℕ} 0 1 = cc in omega arith)
float_kind_lem (Tu i m) k h = absurd (let z : ◌≡◌ {A = ℕ} 0 1 = cc in omega arith)

pub shape_set : (c r : ℕ) (a : Ty) (k : Kind) (n : ℕ) → mat_shape c r (set_leaf k a) n ≡ mat_shape c r a n
unfolding mat_shape set_leaf
shape_set c r (Ts j) k n = refl
shape_set c r (Tv m j) k n = refl
shape_set c r (Tm a b j) k n = refl
shape_set c r (Ta m t) k n = refl
shape_set c r (Tu i m) k n = refl

pub lits_list : (a : Ty) (k : Kind) → Down k a (set_leaf k a) → (l : List Val) (s : Stage) → AllOk l
    → T (every (λ x. converts x a) (map type_of l))
    → ConvL (fits_in false s (replicate (length l) (set_leaf k a)) l) (length l) (set_leaf k a) (all_some (conv_lits k) l)
unfolding every fits_in all_some vals_of shaped_vals count_vals fits_leaf
lits_list a k d [] s g h = ([], refl, tt, tt, refl)
lits_list a k d (v ∷ l) s g h =
    let b : Down k (type_of v) (set_leaf k a) = below k (type_of v) a (set_leaf k a)
    (and_l (converts (type_of v) a) (every (λ x. converts x a) (map type_of l)) h) d in
    rw (down_leaf k (type_of v) (set_leaf k a) b)
    (list_cons (every (lit_fits false s k) (literals v)) (fits_in false s (replicate (length l) (set_leaf k a)) l) (length l) (set_leaf k a)
    (conv_lits k v) (all_some (conv_lits k) l)
    (subst (λ (t : Ty). Conv (every (lit_fits false s k) (literals v)) t (conv_lits k v)) b.is
    (conv_lits_lem v s k b.kind b.ranks g.0 g.1 (leaf_inner (type_of v) b.kind b.at)))
    (lits_list a k d l s g.2 (and_r (converts (type_of v) a) (every (λ x. converts x a) (map type_of l)) h)))

pub qm_agree : (s : Stage) (c r : ℕ) (v : Val) (l : List Val) → AllOk (v ∷ l)
    → Agrees s (Qm c r) (v ∷ l) (type_qm c r (map type_of (v ∷ l))) (qm_parts c r (v ∷ l))
unfolding type_qm qm_parts refused nothing_stops by_ctor lands counted
qm_agree s c r v l g = go (common (map type_of (v ∷ l))) refl
  where
    n : ℕ
    n = length (map type_of (v ∷ l))

    go2 : (a : Ty) → common (map type_of (v ∷ l)) ≡ some a → (o : Option Kind) → float_kind (inner a) ≡ o
        → Agrees s (Qm c r) (v ∷ l) (or_no 13 o >>= λ k. mat_shape c r a n >> ok (Tm c r k))
        (or_no 13 o >>= λ k. or_no 10 (all_some (conv_lits k) (v ∷ l)) >>= λ ws. mat_shape c r a (length (v ∷ l)) >> ok
        (Vm c r k (payloads_of_all ws)))
    go2 a e none f = tt
    go2 a e (some k) f =
        let j = float_kind_lem (inner a) k f in
        let d : Down k a (set_leaf k a) = record { kind = j.0; at = j.1; is = refl; ranks = j.2 } in
        rw (← shape_set c r a k n, ← shape_set c r a k (length (v ∷ l)))
        (mat_end s (Qm c r) c r k (set_leaf k a) (v ∷ l) n (length_map (v ∷ l)) (down_leaf k a (set_leaf k a) d) g refl
        (all_some (conv_lits k) (v ∷ l))
        (lits_list a k d (v ∷ l) s g (common_all (map type_of (v ∷ l)) a e)))

    go : (o : Option Ty) → common (map type_of (v ∷ l)) ≡ o
        → Agrees s (Qm c r) (v ∷ l) (or_no 10 o >>= λ a. or_no 13 (float_kind (inner a)) >>= λ k. mat_shape c r a n >> ok (Tm c r k))
        (or_no 10 o >>= λ a. or_no 13 (float_kind (inner a)) >>= λ k. or_no 10 (all_some (conv_lits k) (v ∷ l)) >>= λ ws. mat_shape c r a
        (length (v ∷ l)) >> ok (Vm c r k (payloads_of_all ws)))
    go none e = tt
    go (some a) e = go2 a e (float_kind (inner a)) refl

-- a literal whose kind stays fits
pub same_fits : (s : Stage) (k : Kind) (ps : List ℕ) → every (lit_fits false s k) (map (λ p. (k, p)) ps) ≡ true
unfolding every lit_fits fits_conv
same_fits s k [] = refl
same_fits s k (p ∷ ps) = rw (true_of (same_kind k k) (same_kind_refl k), same_fits s k ps)

pub agree_qm_none : (s : Stage) (c r : ℕ) → Agrees s (Qm c r) [] (typed (Qm c r) []) (build s (Qm c r) [])
unfolding typed build refused
agree_qm_none s c r = tt

pub agree_qm_one : (s : Stage) (c r : ℕ) (v : Val) → AllOk (v ∷ []) → Agrees s (Qm c r) (v ∷ []) (typed (Qm c r) (type_of v ∷ []))
    (build s (Qm c r) (v ∷ []))
unfolding typed build type_qm_one qm_one type_of nothing_stops by_ctor lands counted fits_in fits_leaf leaf literals refused
agree_qm_one s c r (Vs j p) g = qm_agree s c r (Vs j p) [] g
agree_qm_one s c r (Vv j ps) g = qm_agree s c r (Vv j ps) [] g
agree_qm_one s c r (Va l) g = qm_agree s c r (Va l) [] g
agree_qm_one s c r (Vu i l) g = qm_agree s c r (Vu i l) [] g
agree_qm_one s c r (Vm a b k ps) g = go (same_size c r a b)
  where
    go : (y : Bool) → Agrees s (Qm c r) (Vm a b k ps ∷ []) (need y 7 >> ok (Tm a b k)) (need y 7 >> ok (Vm a b k ps))
    go true = rw (same_fits s k ps) (Vm a b k ps, refl, g.0, refl)
    go false = tt

pub agree_qm_more : (s : Stage) (c r : ℕ) (v w : Val) (l : List Val) → AllOk (v ∷ w ∷ l)
    → Agrees s (Qm c r) (v ∷ w ∷ l) (typed (Qm c r) (map type_of (v ∷ w ∷ l))) (build s (Qm c r) (v ∷ w ∷ l))
unfolding typed build
agree_qm_more s c r v w l g = qm_agree s c r v (w ∷ l) g
