-- The third demand at the level of trees, target by target.
use mathlib.Core.Path.{◌≡◌, refl, sym, ap, ap₂, ◌∙◌, subst}
use mathlib.Core.Option.{Option, none, some}
use mathlib.Core.List.{List, [], ◌∷◌, map}
use mathlib.Core.Bool.{Bool, true, false, not, ◌&&◌}
use Prim.Native.Nat.{ℕ, zero, suc, ◌*◌}
use native.Mathlib.Omega.{arith}
use lib.Dec.{T, leb, eqb, eqb→eq, eqb_refl}
use lib.ListN.{length, replicate, length-replicate}
use Rattle.meaning.specs.Kinds.{Kind, bool, aint, afloat, i32, u32, f32, f16, is_abstract, payloads}
use Rattle.meaning.specs.Scalars.{Stage, fits_ctor}
use Rattle.meaning.specs.Trees.{Ty, Ts, Tv, Tm, Ta, Tu, Tys, [·], ◌▸◌, Val, Vs, Vv, Vm, Va, Vu, Vals, Target, Of}
use Rattle.meaning.specs.Trees.{tys_of, type_of, types_of, count_vals, leaf, tys_list, vals_of, zero_of, zeros_of}
use Rattle.meaning.specs.Answers.{Result, ok, no, miscount, ◌>>=◌, ◌>>◌, need, need_count, or_no, all_some, map_some}
use Rattle.meaning.specs.Records.{every, good_lit, shaped_val, shaped_vals, shaped_ty, shaped_tys, all_same, u16}
use Rattle.meaning.specs.Convert.{converts, conv_val}
use Rattle.meaning.specs.Build.{build, build_one, build_more, scalar_of, ctor_lit, array_of, elements, struct_of, memberwise}
use Rattle.meaning.specs.Typing.{typed, typeable, type_one, type_more, type_scalar, type_array, type_struct, memberwise_ty}
use Rattle.laws.specs.Demand.{literals, lit_fits, fits_leaf, fits_in, by_ctor, by_ctor_one, lands, counted}
use Rattle.laws.specs.Demand.{nothing_stops, refused}
use Rattle.laws.proofs.AgreeLit.{Lit, ctor_lit_lem}
use Rattle.laws.proofs.AgreeConv.{Conv, conv_val_lem, conv_not, AllTy, all_same_lem, first_all, true_of}
use Rattle.laws.proofs.Back.{and_l, and_r, tys_back}
use Rattle.laws.proofs.Same.{both}

-- a value of the type t came back, where b; else a refusal
abbrev pub Made : Bool → Ty → Result Val → Type 0
Made true t r = (w : Val) × (r ≡ ok w) × T (shaped_val w) × (type_of w ≡ t)
Made false t r = T (refused r)

abbrev pub Agrees : Stage → Target → List Val → Result Ty → Result Val → Type 0
Agrees s g l (ok t) b = Made (nothing_stops s g t l) t b
Agrees s g l (no n) b = T (refused b)
Agrees s g l (miscount w h) b = T (refused b)

abbrev pub AllOk : List Val → Type 0
AllOk [] = Unit {0}
AllOk (v ∷ l) = T (shaped_val v) × T (shaped_ty (type_of v)) × AllOk l

-- ---- the zero value

lit_zero : (k : Kind) → T (good_lit k 0)
unfolding good_lit payloads
lit_zero bool = tt
lit_zero aint = tt
lit_zero afloat = tt
lit_zero i32 = tt
lit_zero u32 = tt
lit_zero f32 = tt
lit_zero f16 = tt

zeros_lit : (k : Kind) (n : ℕ) → T (every (good_lit k) (replicate n 0))
unfolding every
zeros_lit k zero = tt
zeros_lit k (suc n) = both (good_lit k 0) (every (good_lit k) (replicate n 0)) (lit_zero k) (zeros_lit k n)

pub arr_made : (n : ℕ) (t : Ty) (m : Vals) → T (leb 1 n) → T (shaped_vals m) → AllTy t m → count_vals m ≡ n → T (shaped_val (Va m))
    × (type_of (Va m) ≡ Ta n t)
unfolding shaped_val type_of
arr_made n t m h g a c =
    (both (all_same (types_of m)) (shaped_vals m) (all_same_lem t m a) g, ap₂ Ta c (first_all t m a (subst (λ (i : ℕ). T (leb 1 i)) (sym c) h)))

repeated : (n : ℕ) (t : Ty) (v : Val) → type_of v ≡ t → T (shaped_val v) → T (shaped_vals (vals_of (replicate n v)))
    × AllTy t (vals_of (replicate n v)) × (count_vals (vals_of (replicate n v)) ≡ n)
unfolding shaped_vals vals_of count_vals
repeated zero t v e g = (tt, tt, refl)
repeated (suc n) t v e g =
    let r = repeated n t v e g in
    (both (shaped_val v) (shaped_vals (vals_of (replicate n v))) g r.0, (e, r.1), ap suc r.2)

mutual
  unfolding zero_of type_of shaped_val shaped_ty u16

  pub zero_made : (t : Ty) → T (shaped_ty t) → T (shaped_val (zero_of t)) × (type_of (zero_of t) ≡ t)
  zero_made (Ts k) h = (lit_zero k, refl)
  zero_made (Tv n k) h = (zeros_lit k n, ap (λ (i : ℕ). Tv i k) (length-replicate n 0))
  zero_made (Tm c r k) h = (
    both (every (good_lit k) (replicate (c * r) 0)) _ (zeros_lit k (c * r))
        (subst (λ (i : ℕ). T (eqb i (c * r))) (sym (length-replicate (c * r) 0)) (eqb_refl (c * r))),
    refl,
  )
  zero_made (Ta n t) h =
      let z = zero_made t (and_r (leb 1 n && leb n 65535) (shaped_ty t) h) in
      let r = repeated n t (zero_of t) z.1 z.0 in
      arr_made n t (vals_of (replicate n (zero_of t))) (and_l (leb 1 n) (leb n 65535) (and_l (leb 1 n && leb n 65535) (shaped_ty t) h)) r.0
      r.1 r.2
  zero_made (Tu i m) h =
      let z = zeros_made m (and_r (u16 i && leb 1 (length (tys_list m)) && leb (length (tys_list m)) 1023) (shaped_tys m) h) in
      (z.0, ap (Tu i) z.1)

  zeros_made : (m : Tys) → T (shaped_tys m) → T (shaped_vals (zeros_of m)) × (types_of (zeros_of m) ≡ m)
  zeros_made [·] h = (tt, refl)
  zeros_made (t ▸ m) h =
      let z = zero_made t (and_l (shaped_ty t) (shaped_tys m) h) in
      let r = zeros_made m (and_r (shaped_ty t) (shaped_tys m) h) in
      (both (shaped_val (zero_of t)) (shaped_vals (zeros_of m)) z.0 r.0, ap₂ ◌▸◌ z.1 r.1)

-- ---- lists of values

abbrev pub ConvL : Bool → ℕ → Ty → Option (List Val) → Type 0
ConvL true n t r = (ws : List Val) × (r ≡ some ws) × T (shaped_vals (vals_of ws)) × AllTy t (vals_of ws) × (count_vals (vals_of ws) ≡ n)
ConvL false n t r = r ≡ none

pub list_cons : (a b : Bool) (n : ℕ) (t : Ty) (x : Option Val) (y : Option (List Val)) → Conv a t x → ConvL b n t y
    → ConvL (a && b) (suc n) t (elim x [ none ↦ none | some w ↦ elim y [ none ↦ none | some ws ↦ some (w ∷ ws) ] ])
unfolding vals_of shaped_vals count_vals
list_cons true true n t x y (w, e, g, q) (ws, f, h, a, c) =
    (w ∷ ws, rw (e, f), both (shaped_val w) (shaped_vals (vals_of ws)) g h, (q, a), ap suc c)
list_cons true false n t x y (w, e, g, q) f = rw (e, f)
list_cons false b n t x y e f = rw e

pub conv_list : (t : Ty) (l : List Val) (s : Stage) → AllOk l → T (every (λ a. converts a t) (map type_of l))
    → ConvL (fits_in false s (replicate (length l) t) l) (length l) t (all_some (conv_val t) l)
unfolding every fits_in all_some shaped_vals vals_of count_vals
conv_list t [] s g h = ([], refl, tt, tt, refl)
conv_list t (v ∷ l) s g h =
    list_cons (fits_leaf false s (leaf t) v) (fits_in false s (replicate (length l) t) l) (length l) t (conv_val t v) (all_some (conv_val t) l)
    (conv_val_lem t v s g.0 g.1 (and_l (converts (type_of v) t) (every (λ a. converts a t) (map type_of l)) h))
    (conv_list t l s g.2 (and_r (converts (type_of v) t) (every (λ a. converts a t) (map type_of l)) h))

none_cons : (x : Option Val) (y : Option (List Val)) → y ≡ none
    → ◌≡◌ {A = Option (List Val)} (elim x [ none ↦ none | some w ↦ elim y [ none ↦ none | some ws ↦ some (w ∷ ws) ] ]) none
none_cons none y e = refl
none_cons (some w) y e = rw e

pub true_false : {A : Type 0} → true ≡ false → A
true_false {A} h = absurd (subst T h tt)

pub conv_list_not : (t : Ty) (l : List Val) → every (λ a. converts a t) (map type_of l) ≡ false → all_some (conv_val t) l ≡ none
unfolding every all_some
conv_list_not t [] h = true_false h
conv_list_not t (v ∷ l) h = go (converts (type_of v) t) refl h (conv_list_not t l)
  where
    go : (b : Bool) → converts (type_of v) t ≡ b → b && every (λ a. converts a t) (map type_of l) ≡ false
        → (every (λ a. converts a t) (map type_of l) ≡ false → all_some (conv_val t) l ≡ none) → all_some (conv_val t) (v ∷ l) ≡ none
    go true e q ih = none_cons (conv_val t v) (all_some (conv_val t) l) (ih q)
    go false e q ih = rw (conv_not t v e, all_some)

-- ---- arrays

arr_end : (a c : Bool) (n : ℕ) (t : Ty) (k : ℕ) (x : Option (List Val)) → T (leb 1 n) → (T c → k ≡ n) → ConvL a k t x
    → Made (a && c) (Ta n t) (or_no 9 x >>= λ ws. need_count c n k >> ok (Va (vals_of ws)))
unfolding refused
arr_end true true n t k x h e (ws, f, g, al, c) =
    let r = arr_made n t (vals_of ws) h g al (c ∙ e tt) in
    rw f (Va (vals_of ws), refl, r.0, r.1)
arr_end true false n t k x h e (ws, f, g, al, c) = rw f tt
arr_end false c n t k x h e f = rw f tt

pub arr_yes : (s : Stage) (n : ℕ) (t : Ty) (l : List Val) → AllOk l → T (leb 1 n) → T (every (λ a. converts a t) (map type_of l))
    → Made (fits_in false s (replicate (length l) t) l && eqb (length l) n) (Ta n t) (array_of n t l)
unfolding array_of elements
arr_yes s n t l g h c =
    arr_end (fits_in false s (replicate (length l) t) l) (eqb (length l) n) n t (length l) (all_some (conv_val t) l) h (eqb→eq (length l) n)
    (conv_list t l s g c)

pub arr_no : (n : ℕ) (t : Ty) (l : List Val) → every (λ a. converts a t) (map type_of l) ≡ false → T (refused (array_of n t l))
unfolding array_of elements refused
arr_no n t l h = rw (conv_list_not t l h) tt

-- ---- a test in typing: where it holds, and where it does not

pub need_cases : (P : Result Ty → Type 0) (b : Bool) (n : ℕ) (t : Ty) → (T b → P (ok t)) → (b ≡ false → P (no n)) → P (need b n >> ok t)
need_cases P true n t f g = f tt
need_cases P false n t f g = g refl

pub agree_array : (s : Stage) (n : ℕ) (t : Ty) (v : Val) (l : List Val) → AllOk (v ∷ l) → T (shaped_ty (Ta n t))
    → Agrees s (Of (Ta n t)) (v ∷ l) (typed (Of (Ta n t)) (map type_of (v ∷ l))) (build s (Of (Ta n t)) (v ∷ l))
unfolding typed build typeable type_one type_more build_one build_more type_array nothing_stops by_ctor by_ctor_one lands counted shaped_ty u16
agree_array s n t v [] g h =
    need_cases (λ x. Agrees s (Of (Ta n t)) (v ∷ []) x (array_of n t (v ∷ []))) (every (λ a. converts a t) (map type_of (v ∷ []))) 7 (Ta n t)
    (arr_yes s n t (v ∷ []) g (and_l (leb 1 n) (leb n 65535) (and_l (leb 1 n && leb n 65535) (shaped_ty t) h)))
    (arr_no n t (v ∷ []))
agree_array s n t v (w ∷ l) g h =
    need_cases (λ x. Agrees s (Of (Ta n t)) (v ∷ w ∷ l) x (array_of n t (v ∷ w ∷ l))) (every (λ a. converts a t) (map type_of (v ∷ w ∷ l))) 7
    (Ta n t)
    (arr_yes s n t (v ∷ w ∷ l) g (and_l (leb 1 n) (leb n 65535) (and_l (leb 1 n && leb n 65535) (shaped_ty t) h)))
    (arr_no n t (v ∷ w ∷ l))

-- ---- scalars

from_ctor : (b : Bool) (k : Kind) (r : Result ℕ) → Lit b k r → Made (((b && true) && true) && true) (Ts k) (r >>= λ q. ok (Vs k q))
unfolding refused shaped_val type_of
from_ctor true k r (q, e, g) = rw e (Vs k q, refl, g, refl)
from_ctor false k (ok q) h = absurd h
from_ctor false k (no n) h = tt
from_ctor false k (miscount w n) h = tt

pub agree_scalar_one : (s : Stage) (k : Kind) (v : Val) → T (shaped_val v) → T (not (is_abstract k))
    → Agrees s (Of (Ts k)) (v ∷ []) (typed (Of (Ts k)) (type_of v ∷ [])) (build s (Of (Ts k)) (v ∷ []))
unfolding typed build typeable type_one build_one type_scalar scalar_of type_of nothing_stops by_ctor by_ctor_one lands counted fits_in fits_leaf leaf
    every lit_fits literals shaped_val refused
agree_scalar_one s k (Vs j p) g c = rw (true_of (not (is_abstract k)) c)
    (from_ctor (fits_ctor s k j p) k (ctor_lit s k j p) (ctor_lit_lem s k j p c g))
agree_scalar_one s k (Vv j ps) g c = rw (true_of (not (is_abstract k)) c) tt
agree_scalar_one s k (Vm a b j ps) g c = rw (true_of (not (is_abstract k)) c) tt
agree_scalar_one s k (Va l) g c = rw (true_of (not (is_abstract k)) c) tt
agree_scalar_one s k (Vu i l) g c = rw (true_of (not (is_abstract k)) c) tt

pub agree_scalar_more : (s : Stage) (k : Kind) (v w : Val) (l : List Val) → T (not (is_abstract k))
    → Agrees s (Of (Ts k)) (v ∷ w ∷ l) (typed (Of (Ts k)) (map type_of (v ∷ w ∷ l))) (build s (Of (Ts k)) (v ∷ w ∷ l))
unfolding typed build typeable type_more build_more refused
agree_scalar_more s k v w l c = rw (true_of (not (is_abstract k)) c) tt

-- ---- no arguments

fits_none : (b : Bool) (s : Stage) (ts : List Ty) → fits_in b s ts [] ≡ true
unfolding fits_in
fits_none b s [] = refl
fits_none b s (t ∷ ts) = refl

pub agree_none : (s : Stage) (t : Ty) → T (shaped_ty t) → typeable t ≡ ok tt
    → Agrees s (Of t) [] (typed (Of t) []) (build s (Of t) [])
unfolding typed build nothing_stops counted by_ctor
agree_none s t h e = rw e (rw (fits_none false s (lands t 0)) (let z = zero_made t h in (zero_of t, refl, z.0, z.1)))

-- ---- structs

abbrev pub ConvM : Bool → List Ty → Option (List Val) → Type 0
ConvM true ts r = (ws : List Val) × (r ≡ some ws) × T (shaped_vals (vals_of ws)) × (types_of (vals_of ws) ≡ tys_of ts)
ConvM false ts r = r ≡ none

member_cons : (a b : Bool) (t : Ty) (ts : List Ty) (x : Option Val) (y : Option (List Val)) → Conv a t x → ConvM b ts y
    → ConvM (a && b) (t ∷ ts) (elim x [ none ↦ none | some w ↦ map_some (w ∷◌) y ])
unfolding vals_of shaped_vals map_some types_of tys_of
member_cons true true t ts x y (w, e, g, q) (ws, f, h, a) = (
  w ∷ ws,
  rw (e, f),
  both (shaped_val w) (shaped_vals (vals_of ws)) g h,
  ap₂ ◌▸◌ q
      a,
)
member_cons true false t ts x y (w, e, g, q) f = rw (e, f)
member_cons false b t ts x y e f = rw e

pub conv_members : (ts : List Ty) (l : List Val) (s : Stage) → AllOk l → length l ≡ length ts → T (memberwise_ty ts (map type_of l))
    → ConvM (fits_in false s ts l) ts (memberwise ts l)
unfolding memberwise memberwise_ty fits_in vals_of shaped_vals types_of tys_of
conv_members [] l s g e h = ([], refl, tt, refl)
conv_members (t ∷ ts) [] s g e h = absurd (omega arith)
conv_members (t ∷ ts) (v ∷ l) s g e h =
    member_cons (fits_leaf false s (leaf t) v) (fits_in false s ts l) t ts (conv_val t v) (memberwise ts l)
    (conv_val_lem t v s g.0 g.1 (and_l (converts (type_of v) t) (memberwise_ty ts (map type_of l)) h))
    (conv_members ts l s g.2 (omega arith) (and_r (converts (type_of v) t) (memberwise_ty ts (map type_of l)) h))

map_none : (x : Option Val) (y : Option (List Val)) → y ≡ none → ◌≡◌ {A = Option (List Val)}
    (elim x [ none ↦ none | some w ↦ map_some (w ∷◌) y ]) none
unfolding map_some
map_none none y e = refl
map_none (some w) y e = rw e

pub members_not : (ts : List Ty) (l : List Val) → memberwise_ty ts (map type_of l) ≡ false → memberwise ts l ≡ none
unfolding memberwise memberwise_ty
members_not [] l h = true_false h
members_not (t ∷ ts) [] h = true_false h
members_not (t ∷ ts) (v ∷ l) h = go (converts (type_of v) t) refl h (members_not ts l)
  where
    go : (b : Bool) → converts (type_of v) t ≡ b → b && memberwise_ty ts (map type_of l) ≡ false
        → (memberwise_ty ts (map type_of l) ≡ false → memberwise ts l ≡ none) → memberwise (t ∷ ts) (v ∷ l) ≡ none
    go true e q ih = map_none (conv_val t v) (memberwise ts l) (ih q)
    go false e q ih = rw (conv_not t v e, memberwise)

pub length_map : (l : List Val) → length (map type_of l) ≡ length l
length_map [] = refl
length_map (v ∷ l) = ap suc (length_map l)

struct_made : (a : Bool) (i : ℕ) (m : Tys) (x : Option (List Val)) → ConvM a (tys_list m) x
    → Made (a && true) (Tu i m) (or_no 9 x >>= λ ws. ok (Vu i (vals_of ws)))
unfolding refused shaped_val type_of
struct_made true i m x (ws, e, g, q) = rw e (Vu i (vals_of ws), refl, g, ap (Tu i) (q ∙ tys_back m))
struct_made false i m x e = rw e tt

by_struct : (i : ℕ) (m : Tys) (v : Val) (l : List Val) → by_ctor (Of (Tu i m)) (v ∷ l) ≡ false
unfolding by_ctor by_ctor_one
by_struct i m v [] = refl
by_struct i m v (w ∷ l) = refl

-- typing's count, then its test; building's count, then its conversion
struct_end : (s : Stage) (i : ℕ) (m : Tys) (v : Val) (l : List Val) (b c : Bool) → eqb (length (v ∷ l)) (length (tys_list m)) ≡ b
    → memberwise_ty (tys_list m) (map type_of (v ∷ l)) ≡ c → AllOk (v ∷ l)
    → Agrees s (Of (Tu i m)) (v ∷ l) (need_count b (length (tys_list m)) (length (map type_of (v ∷ l))) >> (need c 9 >> ok (Tu i m)))
    (struct_of i m (v ∷ l))
unfolding struct_of refused nothing_stops lands counted
struct_end s i m v l false c e f g = rw e tt
struct_end s i m v l true false e f g = rw (e, members_not (tys_list m) (v ∷ l) f) tt
struct_end s i m v l true true e f g =
    rw (e, by_struct i m v l)
    (struct_made (fits_in false s (tys_list m) (v ∷ l)) i m (memberwise (tys_list m) (v ∷ l))
    (conv_members (tys_list m) (v ∷ l) s g (eqb→eq (length (v ∷ l)) (length (tys_list m)) (subst T (sym e) tt)) (subst T (sym f) tt)))

pub agree_struct : (s : Stage) (i : ℕ) (m : Tys) (v : Val) (l : List Val) → AllOk (v ∷ l)
    → Agrees s (Of (Tu i m)) (v ∷ l) (typed (Of (Tu i m)) (map type_of (v ∷ l))) (build s (Of (Tu i m)) (v ∷ l))
unfolding typed build typeable type_one type_more build_one build_more type_struct
agree_struct s i m v [] g = struct_end s i m v [] (eqb 1 (length (tys_list m))) (memberwise_ty (tys_list m) (type_of v ∷ [])) refl refl g
agree_struct s i m v (w ∷ l) g =
    struct_end s i m v (w ∷ l) (eqb (length (map type_of (v ∷ w ∷ l))) (length (tys_list m)))
    (memberwise_ty (tys_list m) (map type_of (v ∷ w ∷ l)))
    (ap (λ (n : ℕ). eqb n (length (tys_list m))) (sym (length_map (v ∷ w ∷ l)))) refl g
