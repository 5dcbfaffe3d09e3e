-- The type that typing names is well formed.
use mathlib.Core.Path.{◌≡◌, refl, sym, subst}
use mathlib.Core.Option.{Option, none, some}
use mathlib.Core.List.{List, [], ◌∷◌, map}
use mathlib.Core.Bool.{Bool, true, false, ◌&&◌, cond}
use Prim.Native.Nat.{ℕ, suc, ◌≤◌}
use native.Mathlib.Omega.{arith}
use lib.Dec.{T, leb, eqb, leb→le, le→leb}
use lib.ListN.{length}
use Rattle.meaning.specs.Kinds.{Kind, aint, afloat, is_float, same_kind, kind_no}
use Rattle.meaning.specs.Trees.{Ty, Ts, Tv, Tm, Ta, Tu, Tys, Target, Of, Tr, Qa, Qv, Qm, depth, inner, tys_list}
use Rattle.meaning.specs.Answers.{Result, ok, no, miscount, ◌>>=◌, ◌>>◌, or_no, need, need_count, all}
use Rattle.meaning.specs.Records.{ty_bytes, le, every, shaped_ty, good_ty, good_within, good_target, good_arg, good_tys, side, u16}
use Rattle.meaning.specs.Convert.{converts, common, float_kind}
use Rattle.meaning.specs.Build.{mat_shape, to_inner, same_size, lit_kind}
use Rattle.meaning.specs.Typing.{typed, typeable, type_one, type_more, type_scalar, type_vec_one, type_vec, type_array, type_struct, type_mat}
use Rattle.meaning.specs.Typing.{type_mat_one, type_qm, type_qm_one, type_qv, type_qv_one, type_qa, part_to, part_of, total, memberwise_ty}
use Rattle.laws.proofs.Common.{in_every, some_in, is_common}
use Rattle.laws.proofs.Back.{and_l, and_r}
use Rattle.laws.proofs.Same.{both}

pub ok_inj : {A : Type 0} {a b : A} → ok a ≡ ok b → a ≡ b
ok_inj h = cc

pub no_ok : {A B : Type 0} {n : ℕ} {b : A} → ◌≡◌ {A = Result A} (no n) (ok b) → B
no_ok h = absurd (let z : ◌≡◌ {A = ℕ} 0 1 = cc in omega arith)

pub seq_ok : {A B : Type 0} (x : Result A) (y : Result B) (b : B) → (x >> y) ≡ ok b → y ≡ ok b
seq_ok (ok a) y b h = h
seq_ok (no n) y b h = no_ok h
seq_ok (miscount w g) y b h = absurd (let z : ◌≡◌ {A = ℕ} 0 1 = cc in omega arith)

pub opt_ok : {A B : Type 0} (n : ℕ) (o : Option A) (f : A → Result B) (b : B) → (or_no n o >>= f) ≡ ok b → (a : A) × (o ≡ some a)
    × (f a ≡ ok b)
opt_ok n none f b h = no_ok h
opt_ok n (some a) f b h = (a, refl, h)

pub bind_ok : {A B : Type 0} (x : Result A) (f : A → Result B) (b : B) → (x >>= f) ≡ ok b → (a : A) × (x ≡ ok a) × (f a ≡ ok b)
bind_ok (ok a) f b h = (a, refl, h)
bind_ok (no n) f b h = no_ok h
bind_ok (miscount w g) f b h = absurd (let z : ◌≡◌ {A = ℕ} 0 1 = cc in omega arith)

-- ---- a type record's typing names itself

pub mat_named : (c r : ℕ) (k : Kind) (l : List Ty) (u : Ty) → type_mat c r k l ≡ ok u → Tm c r k ≡ u
unfolding type_mat
mat_named c r k l u h =
    let a = opt_ok 10 (common l) (λ a. or_no 7 (to_inner k a) >>= λ t. mat_shape c r t (length l) >> ok (Tm c r k)) u h in
    let b = opt_ok 7 (to_inner k a.0) (λ t. mat_shape c r t (length l) >> ok (Tm c r k)) u a.2 in
    ok_inj (seq_ok (mat_shape c r b.0 (length l)) (ok (Tm c r k)) u b.2)

array_named : (n : ℕ) (t : Ty) (l : List Ty) (u : Ty) → type_array n t l ≡ ok u → Ta n t ≡ u
unfolding type_array
array_named n t l u h = ok_inj (seq_ok (need (every (λ a. converts a t) l) 7) (ok (Ta n t)) u h)

struct_named : (i : ℕ) (m : Tys) (l : List Ty) (u : Ty) → type_struct i m l ≡ ok u → Tu i m ≡ u
unfolding type_struct
struct_named i m l u h =
    ok_inj (seq_ok (need (memberwise_ty (tys_list m) l) 9) (ok (Tu i m)) u
    (seq_ok (need_count (eqb (length l) (length (tys_list m))) (length (tys_list m)) (length l))
    (need (memberwise_ty (tys_list m) l) 9 >> ok (Tu i m)) u h))

pub vec_named : (n : ℕ) (k : Kind) (l : List Ty) (u : Ty) → type_vec n k l ≡ ok u → Tv n k ≡ u
unfolding type_vec
vec_named n k l u h =
    ok_inj (seq_ok (need_count (eqb (total l) n) n (length l)) (ok (Tv n k)) u
    (seq_ok (all (part_to k) l) (need_count (eqb (total l) n) n (length l) >> ok (Tv n k)) u h))

one_named : (t a u : Ty) → type_one t a ≡ ok u → t ≡ u
unfolding type_one type_scalar type_vec_one type_mat_one
one_named (Ts k) (Ts j) u h = ok_inj h
one_named (Ts k) (Tv n j) u h = no_ok h
one_named (Ts k) (Tm c r j) u h = no_ok h
one_named (Ts k) (Ta n t) u h = no_ok h
one_named (Ts k) (Tu i m) u h = no_ok h
one_named (Tv n k) (Ts j) u h = ok_inj (seq_ok (need (converts (Ts j) (Ts k)) 7) (ok (Tv n k)) u h)
one_named (Tv n k) (Tv m j) u h = ok_inj (seq_ok (need (eqb m n) 7) (ok (Tv n k)) u h)
one_named (Tv n k) (Tm c r j) u h = no_ok h
one_named (Tv n k) (Ta m t) u h = no_ok h
one_named (Tv n k) (Tu i m) u h = no_ok h
one_named (Tm c r k) (Tm a b j) u h = ok_inj (seq_ok (need (same_size c r a b) 7) (ok (Tm c r k)) u h)
one_named (Tm c r k) (Ts j) u h = mat_named c r k (Ts j ∷ []) u h
one_named (Tm c r k) (Tv m j) u h = mat_named c r k (Tv m j ∷ []) u h
one_named (Tm c r k) (Ta m t) u h = mat_named c r k (Ta m t ∷ []) u h
one_named (Tm c r k) (Tu i m) u h = mat_named c r k (Tu i m ∷ []) u h
one_named (Ta n t) a u h = array_named n t (a ∷ []) u h
one_named (Tu i m) a u h = struct_named i m (a ∷ []) u h

more_named : (t : Ty) (l : List Ty) (u : Ty) → type_more t l ≡ ok u → t ≡ u
unfolding type_more
more_named (Ts k) l u h = no_ok h
more_named (Tv n k) l u h = vec_named n k l u h
more_named (Tm c r k) l u h = mat_named c r k l u h
more_named (Ta n t) l u h = array_named n t l u h
more_named (Tu i m) l u h = struct_named i m l u h

pub of_named : (t : Ty) (l : List Ty) (u : Ty) → typed (Of t) l ≡ ok u → t ≡ u
unfolding typed
of_named t [] u h = ok_inj (seq_ok (typeable t) (ok t) u h)
of_named t (a ∷ []) u h = one_named t a u (seq_ok (typeable t) (type_one t a) u h)
of_named t (a ∷ b ∷ l) u h = more_named t (a ∷ b ∷ l) u (seq_ok (typeable t) (type_more t (a ∷ b ∷ l)) u h)

-- ---- shapes

good_vec : (n : ℕ) (k : Kind) → T (side n) → T (good_ty (Tv n k))
unfolding good_ty good_within shaped_ty depth ty_bytes
good_vec n k h = both (side n && true) true (both (side n) true h tt) tt

some_kind : {j k : Kind} → ◌≡◌ {A = Option Kind} (some j) (some k) → j ≡ k
some_kind h = cc

float_is : (t : Ty) (k : Kind) → float_kind t ≡ some k → T (is_float k)
unfolding float_kind is_float same_kind kind_no
float_is (Ts j) k h = go (same_kind j aint) (is_float j) refl h
  where
    go : (a b : Bool) → is_float j ≡ b → cond a (some afloat) (cond b (some j) none) ≡ some k → T (is_float k)
    go true b e q = subst (λ (x : Kind). T (is_float x)) (some_kind q) tt
    go false true e q = subst (λ (x : Kind). T (is_float x)) (some_kind q) (subst T (sym e) tt)
    go false false e q = absurd (let z : ◌≡◌ {A = ℕ} 0 1 = cc in omega arith)
float_is (Tv n j) k h = absurd (let z : ◌≡◌ {A = ℕ} 0 1 = cc in omega arith)
float_is (Tm c r j) k h = absurd (let z : ◌≡◌ {A = ℕ} 0 1 = cc in omega arith)
float_is (Ta n t) k h = absurd (let z : ◌≡◌ {A = ℕ} 0 1 = cc in omega arith)
float_is (Tu i m) k h = absurd (let z : ◌≡◌ {A = ℕ} 0 1 = cc in omega arith)

good_mat : (c r : ℕ) (k : Kind) → T (side c && side r) → T (is_float k) → T (good_ty (Tm c r k))
unfolding good_ty good_within shaped_ty depth ty_bytes
good_mat c r k h f = both ((side c && side r && is_float k) && true) true
    (both (side c && side r && is_float k) true (both (side c && side r) (is_float k) h f) tt) tt

qm_named : (c r : ℕ) (l : List Ty) (u : Ty) → T (side c && side r) → type_qm c r l ≡ ok u → T (good_ty u)
unfolding type_qm
qm_named c r l u s h =
    let a = opt_ok 10 (common l) (λ t. or_no 13 (float_kind (inner t)) >>= λ k. mat_shape c r t (length l) >> ok (Tm c r k)) u h in
    let b = opt_ok 13 (float_kind (inner a.0)) (λ k. mat_shape c r a.0 (length l) >> ok (Tm c r k)) u a.2 in
    subst (λ (x : Ty). T (good_ty x)) (ok_inj (seq_ok (mat_shape c r a.0 (length l)) (ok (Tm c r b.0)) u b.2))
    (good_mat c r b.0 s (float_is (inner a.0) b.0 b.1))

qm_one_lem : (c r : ℕ) (a u : Ty) → T (side c && side r) → T (good_ty a) → type_qm_one c r a ≡ ok u → T (good_ty u)
unfolding type_qm_one
qm_one_lem c r (Tm x y k) u s g h = subst (λ (z : Ty). T (good_ty z)) (ok_inj (seq_ok (need (same_size c r x y) 7) (ok (Tm x y k)) u h)) g
qm_one_lem c r (Ts j) u s g h = qm_named c r (Ts j ∷ []) u s h
qm_one_lem c r (Tv m j) u s g h = qm_named c r (Tv m j ∷ []) u s h
qm_one_lem c r (Ta m t) u s g h = qm_named c r (Ta m t ∷ []) u s h
qm_one_lem c r (Tu i m) u s g h = qm_named c r (Tu i m ∷ []) u s h

qv_named : (n : ℕ) (l : List Ty) (u : Ty) → T (side n) → type_qv n l ≡ ok u → T (good_ty u)
unfolding type_qv
qv_named n l u s h =
    let a = bind_ok (all part_of l) (λ ks. need_count (eqb (total l) n) n (length l) >>
    (or_no 10 (common (map Ts ks)) >>= λ t. or_no 10 (lit_kind t) >>= λ k. ok (Tv n k))) u h in
    let b = seq_ok (need_count (eqb (total l) n) n (length l))
    (or_no 10 (common (map Ts a.0)) >>= λ t. or_no 10 (lit_kind t) >>= λ k. ok (Tv n k)) u a.2 in
    let c = opt_ok 10 (common (map Ts a.0)) (λ t. or_no 10 (lit_kind t) >>= λ k. ok (Tv n k)) u b in
    let d = opt_ok 10 (lit_kind c.0) (λ k. ok (Tv n k)) u c.2 in
    subst (λ (x : Ty). T (good_ty x)) (ok_inj d.2) (good_vec n d.0 s)

qv_one_lem : (n : ℕ) (a u : Ty) → T (side n) → type_qv_one n a ≡ ok u → T (good_ty u)
unfolding type_qv_one
qv_one_lem n (Ts k) u s h = subst (λ (x : Ty). T (good_ty x)) (ok_inj h) (good_vec n k s)
qv_one_lem n (Tv m k) u s h = subst (λ (x : Ty). T (good_ty x)) (ok_inj (seq_ok (need (eqb m n) 12) (ok (Tv n k)) u h)) (good_vec n k s)
qv_one_lem n (Tm c r k) u s h = no_ok h
qv_one_lem n (Ta m t) u s h = no_ok h
qv_one_lem n (Tu i m) u s h = no_ok h

-- ---- the common type is one of the list

common_in : (f : Ty → Bool) (l : List Ty) (t : Ty) → T (every f l) → common l ≡ some t → (T (f t)) × (1 ≤ length l)
common_in f l t h e = let c = (is_common l t e).own in (in_every f c h, some_in c)

pub qa_good : (n : ℕ) (t : Ty) → 1 ≤ n → T (leb n 65535) → T (good_within 14 4092 t) → T (good_ty (Ta n t))
unfolding good_ty good_within shaped_ty depth ty_bytes u16 le
qa_good n t h m g =
    let a : T (shaped_ty t && leb (depth t) 14) = and_l (shaped_ty t && leb (depth t) 14) (leb (length (ty_bytes t)) 4092) g in
    let d : depth t ≤ 14 = leb→le (depth t) 14 (and_r (shaped_ty t) (leb (depth t) 14) a) in
    let s : length (ty_bytes t) ≤ 4092 = leb→le (length (ty_bytes t)) 4092
    (and_r (shaped_ty t && leb (depth t) 14) (leb (length (ty_bytes t)) 4092) g) in
    both (shaped_ty (Ta n t) && leb (suc (depth t)) 15) (leb (length (ty_bytes (Ta n t))) 4096)
    (both (shaped_ty (Ta n t)) (leb (suc (depth t)) 15)
    (both (leb 1 n && leb n 65535) (shaped_ty t) (both (leb 1 n) (leb n 65535) (le→leb 1 n h) m) (and_l (shaped_ty t) (leb (depth t) 14) a))
    (le→leb (suc (depth t)) 15 (omega arith)))
    (le→leb (length (ty_bytes (Ta n t))) 4096 (omega arith))

pub named : (g : Target) (l : List Ty) (u : Ty) → T (good_target g) → T (good_tys g l) → typed g l ≡ ok u → T (good_ty u)
unfolding good_target typed good_tys good_arg every type_qa
named (Of t) l u h a e = subst (λ (x : Ty). T (good_ty x)) (of_named t l u e) h
named (Tr t) l u h a e = no_ok e
named Qa l u h a e =
    let b = opt_ok 10 (common l) (λ t. ok (Ta (length l) t)) u e in
    let c = common_in (good_within 14 4092) l b.0 (and_l (every (good_arg Qa) l) (leb (length l) 65535) a) b.1 in
    subst (λ (x : Ty). T (good_ty x)) (ok_inj b.2) (qa_good (length l) b.0 c.1
    (and_r (every (good_arg Qa) l) (leb (length l) 65535) a) c.0)
named (Qv n) [] u h a e = subst (λ (x : Ty). T (good_ty x)) (ok_inj e) (good_vec n aint h)
named (Qv n) (t ∷ []) u h a e = qv_one_lem n t u h e
named (Qv n) (t ∷ v ∷ l) u h a e = qv_named n (t ∷ v ∷ l) u h e
named (Qm c r) [] u h a e = no_ok e
named (Qm c r) (t ∷ []) u h a e = qm_one_lem c r t u h (and_l (good_ty t) true (and_l (good_ty t && true) (leb 1 65535) a)) e
named (Qm c r) (t ∷ v ∷ l) u h a e = qm_named c r (t ∷ v ∷ l) u h e
