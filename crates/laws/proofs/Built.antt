-- Whatever building accepts is one whole value: well formed, of a well-formed type, and of the type asked for where the
-- target is a type. So its record is as long as its type says. A zero value's answer follows from the type alone.
use mathlib.Core.Path.{◌≡◌, refl, sym, ap, ◌∙◌, subst}
use mathlib.Core.List.{List, [], ◌∷◌, map}
use mathlib.Core.Bool.{Bool, true, false, not, ◌&&◌}
use Prim.Native.Nat.{ℕ}
use native.Mathlib.Omega.{arith}
use lib.Dec.{T, leb, eqb, eqb_refl, le→leb}
use lib.ListN.{length, replicate}
use Rattle.meaning.specs.Kinds.{Kind, is_abstract, kind_rank}
use Rattle.meaning.specs.Scalars.{Stage, conv, some?, fits_conv}
use Rattle.meaning.specs.Trees.{Ty, Ts, Tv, Tm, Ta, Tu, Val, Vs, Vv, Vm, Va, Vu, Target, Of, Tr, Qa, Qv, Qm, type_of, zero_of}
use Rattle.meaning.specs.Answers.{Result, ok, no, miscount, need, all, ◌>>=◌, ◌>>◌}
use Rattle.meaning.specs.Records.{every, shaped_val, shaped_ty, good_val, good_ty, good_target, good_args, good_tys, good_arg}
use Rattle.meaning.specs.Convert.{converts}
use Rattle.meaning.specs.Build.{build, build_one, build_more, vec_one, mat_one, mat_parts, same_size, lit_kind, runtime_of, array_of, ctor_lit}
use Rattle.meaning.specs.Typing.{typed, type_vec, type_mat}
use Rattle.laws.specs.Demand.{nothing_stops, by_ctor, by_ctor_one, lands, counted, fits_in, refused, in_scope}
use Rattle.laws.proofs.AgreeLit.{conv_lit}
use Rattle.laws.proofs.AgreeConv.{true_of}
use Rattle.laws.proofs.AgreeBuild.{Made, Agrees, AllOk, zero_made, agree_array, agree_struct, agree_scalar_one, agree_scalar_more}
use Rattle.laws.proofs.AgreeBuild.{arr_yes, arr_no, length_map}
use Rattle.laws.proofs.AgreeVec.{agree_vec_one, from_splat, conv_no, other, vec_more, parts_all}
use Rattle.laws.proofs.AgreeMat.{agree_mat_one, agree_mat_more, mat_agree, types}
use Rattle.laws.proofs.AgreeAll.{trees, all_ok}
use Rattle.laws.proofs.Named.{named, of_named, vec_named, mat_named, qa_good, ok_inj}
use Rattle.laws.proofs.Back.{and_l, and_r, shaped_of}
use Rattle.laws.proofs.Same.{both}

-- a value of the type t, or a refusal
abbrev As : Ty → Result Val → Type 0
As t r = (b : Bool) × Made b t r

-- from the third demand's agreement, where typing names no other type
agreed : (s : Stage) (g : Target) (l : List Val) (t : Ty) (x : Result Ty) (r : Result Val) → ((u : Ty) → x ≡ ok u → t ≡ u)
    → Agrees s g l x r → As t r
agreed s g l t (ok u) r h a = (nothing_stops s g u l, subst (λ (y : Ty). Made (nothing_stops s g u l) y r) (sym (h u refl)) a)
agreed s g l t (no n) r h a = (false, a)
agreed s g l t (miscount w n) r h a = (false, a)

-- ---- an abstract kind: typing refuses the target, and building goes on

splat : (s : Stage) (n : ℕ) (k j : Kind) (p : ℕ) → T (shaped_val (Vs j p)) → As (Tv n k) (vec_one s n k (Vs j p))
unfolding vec_one shaped_val refused
splat s n k j p g = go (some? (kind_rank j k)) refl
  where
    go : (b : Bool) → some? (kind_rank j k) ≡ b → As (Tv n k) (vec_one s n k (Vs j p))
    go true e = (
      ((fits_conv k j p && true) && true) && true,
      from_splat (fits_conv k j p) k n (conv k j p)
          (conv_lit k j p (subst T (sym e) tt) g),
    )
    go false e = (false, rw (conv_no k j p e) tt)

-- a test, and then a refusal
shut : (b : Bool) (n m : ℕ) (r : Result Val) → T (refused (need b n >> (need false m >> r)))
unfolding refused
shut true n m r = tt
shut false n m r = tt

vec_one_lem : (s : Stage) (n : ℕ) (k : Kind) (v : Val) → not (is_abstract k) ≡ false → T (shaped_val v) → As (Tv n k) (vec_one s n k v)
unfolding vec_one lit_kind type_of
vec_one_lem s n k (Vs j p) e g = splat s n k j p g
vec_one_lem s n k (Vv j ps) e g = (false, rw e (shut (eqb (length ps) n) 7 12 (all (ctor_lit s k j) ps >>= λ qs. ok (Vv k qs))))
vec_one_lem s n k (Vm c r j ps) e g = (false, other n k (Vm c r j ps) refl)
vec_one_lem s n k (Va l) e g = (false, other n k (Va l) refl)
vec_one_lem s n k (Vu i l) e g = (false, other n k (Vu i l) refl)

vec_two : (s : Stage) (n : ℕ) (k : Kind) (v w : Val) (l : List Val) → AllOk (v ∷ w ∷ l) → As (Tv n k) (build_more (Tv n k) v (w ∷ l))
unfolding build_more
vec_two s n k v w l g =
    agreed s (Of (Tv n k)) (v ∷ w ∷ l) (Tv n k) (type_vec n k (map type_of (v ∷ w ∷ l))) (build_more (Tv n k) v (w ∷ l))
    (vec_named n k (map type_of (v ∷ w ∷ l)))
    (vec_more s n k v w l g (parts_all k (v ∷ w ∷ l) g))

mat_parts_lem : (s : Stage) (c r : ℕ) (k : Kind) (v : Val) (l : List Val) → AllOk (v ∷ l)
    → nothing_stops s (Of (Tm c r k)) (Tm c r k) (v ∷ l) ≡ fits_in false s (replicate (length (v ∷ l)) (Ts k)) (v ∷ l) && true
    → As (Tm c r k) (mat_parts c r k v l)
mat_parts_lem s c r k v l g q =
    agreed s (Of (Tm c r k)) (v ∷ l) (Tm c r k) (type_mat c r k (map type_of (v ∷ l))) (mat_parts c r k v l)
    (mat_named c r k (map type_of (v ∷ l)))
    (mat_agree s (Of (Tm c r k)) c r k v l g q (types k (type_of v) (map type_of l)))

mat_one_lem : (s : Stage) (c r : ℕ) (k : Kind) (v : Val) → not (is_abstract k) ≡ false → AllOk (v ∷ []) → As (Tm c r k) (mat_one s c r k v)
unfolding mat_one type_of nothing_stops by_ctor by_ctor_one lands counted
mat_one_lem s c r k (Vs j p) e g = mat_parts_lem s c r k (Vs j p) [] g refl
mat_one_lem s c r k (Vv j ps) e g = mat_parts_lem s c r k (Vv j ps) [] g refl
mat_one_lem s c r k (Va l) e g = mat_parts_lem s c r k (Va l) [] g refl
mat_one_lem s c r k (Vu i l) e g = mat_parts_lem s c r k (Vu i l) [] g refl
mat_one_lem s c r k (Vm a b j ps) e g = (false, rw e (shut (same_size c r a b) 7 13 (all (ctor_lit s k j) ps >>= λ qs. ok (Vm c r k qs))))

-- ---- a type as the target

module _ (s : Stage) where
  -- where typing does not refuse the target
  by_typing : (t : Ty) (l : List Val) → Agrees s (Of t) l (typed (Of t) (map type_of l)) (build s (Of t) l) → As t (build s (Of t) l)
  by_typing t l a = agreed s (Of t) l t (typed (Of t) (map type_of l)) (build s (Of t) l) (of_named t (map type_of l)) a

  zero : (t : Ty) → T (shaped_ty t) → As t (build s (Of t) [])
  unfolding build
  zero t h = (true, (zero_of t, refl, (zero_made t h).0, (zero_made t h).1))

  scalar : (k : Kind) (v : Val) (l : List Val) → AllOk (v ∷ l) → (b : Bool) → not (is_abstract k) ≡ b
      → As (Ts k) (build s (Of (Ts k)) (v ∷ l))
  unfolding build build_one build_more refused
  scalar k v [] g true e = by_typing (Ts k) (v ∷ []) (agree_scalar_one s k v g.0 (subst T (sym e) tt))
  scalar k v (w ∷ l) g true e = by_typing (Ts k) (v ∷ w ∷ l) (agree_scalar_more s k v w l (subst T (sym e) tt))
  scalar k v [] g false e = (false, rw e tt)
  scalar k v (w ∷ l) g false e = (false, rw e tt)

  vector : (n : ℕ) (k : Kind) (v : Val) (l : List Val) → AllOk (v ∷ l) → (b : Bool) → not (is_abstract k) ≡ b
      → As (Tv n k) (build s (Of (Tv n k)) (v ∷ l))
  unfolding build build_one
  vector n k v [] g true e = by_typing (Tv n k) (v ∷ []) (agree_vec_one s n k v g.0 (subst T (sym e) tt))
  vector n k v [] g false e = vec_one_lem s n k v e g.0
  vector n k v (w ∷ l) g b e = vec_two s n k v w l g

  matrix : (c r : ℕ) (k : Kind) (v : Val) (l : List Val) → AllOk (v ∷ l) → (b : Bool) → not (is_abstract k) ≡ b
      → As (Tm c r k) (build s (Of (Tm c r k)) (v ∷ l))
  unfolding build build_one
  matrix c r k v [] g true e = by_typing (Tm c r k) (v ∷ []) (agree_mat_one s c r k v g (subst T (sym e) tt))
  matrix c r k v [] g false e = mat_one_lem s c r k v e g
  matrix c r k v (w ∷ l) g b e = by_typing (Tm c r k) (v ∷ w ∷ l) (agree_mat_more s c r k v w l g)

  of_type : (t : Ty) (l : List Val) → T (shaped_ty t) → AllOk l → As t (build s (Of t) l)
  unfolding build
  of_type t [] h g = zero t h
  of_type (Ts k) (v ∷ l) h g = scalar k v l g (not (is_abstract k)) refl
  of_type (Tv n k) (v ∷ l) h g = vector n k v l g (not (is_abstract k)) refl
  of_type (Tm c r k) (v ∷ l) h g = matrix c r k v l g (not (is_abstract k)) refl
  of_type (Ta n t) (v ∷ l) h g = by_typing (Ta n t) (v ∷ l) (agree_array s n t v l g h)
  of_type (Tu i m) (v ∷ l) h g = by_typing (Tu i m) (v ∷ l) (agree_struct s i m v l g)

  -- ---- a runtime-sized array is the counted one of as many elements

  counted_same : (t : Ty) (l : List Val) → runtime_of t l ≡ array_of (length l) t l
  unfolding runtime_of array_of
  counted_same t l = rw (true_of (eqb (length l) (length l)) (eqb_refl (length l)))

  runtime : (t : Ty) (v : Val) (l : List Val) → AllOk (v ∷ l) → As (Ta (length (v ∷ l)) t) (build s (Tr t) (v ∷ l))
  unfolding build
  runtime t v l g = rw counted_same (go (every (λ a. converts a t) (map type_of (v ∷ l))) refl)
    where
      go : (b : Bool) → every (λ a. converts a t) (map type_of (v ∷ l)) ≡ b → As (Ta (length (v ∷ l)) t) (array_of (length (v ∷ l)) t (v ∷ l))
      go true e = (
        fits_in false s (replicate (length (v ∷ l)) t) (v ∷ l) && eqb (length (v ∷ l)) (length (v ∷ l)),
        arr_yes s
            (length (v ∷ l)) t (v ∷ l) g (le→leb 1 (length (v ∷ l)) (omega arith)) (subst T (sym e) tt),
      )
      go false e = (false, arr_no (length (v ∷ l)) t (v ∷ l) e)

-- ---- what came back

-- the value of a result that is one
made : (t : Ty) (r : Result Val) (v : Val) → As t r → r ≡ ok v → T (shaped_val v) × (type_of v ≡ t)
unfolding refused
made t r v (true, (w, e, q, u)) h =
    let i : w ≡ v = ok_inj (sym e ∙ h) in
    (subst (λ (x : Val). T (shaped_val x)) i q, ap type_of (sym i) ∙ u)
made t r v (false, k) h = absurd (rw h at k)

good_as : (t : Ty) (r : Result Val) (v : Val) → T (good_ty t) → As t r → r ≡ ok v → T (good_val v)
unfolding good_val
good_as t r v g a h = let m = made t r v a h in both (shaped_val v) (good_ty (type_of v)) m.0
    (subst (λ (x : Ty). T (good_ty x)) (sym m.1) g)

from_agrees : (s : Stage) (g : Target) (l : List Val) (x : Result Ty) (r : Result Val) (v : Val) → ((u : Ty) → x ≡ ok u → T (good_ty u))
    → Agrees s g l x r → r ≡ ok v → T (good_val v)
unfolding refused
from_agrees s g l (ok u) r v n a h = good_as u r v (n u refl) (nothing_stops s g u l, a) h
from_agrees s g l (no i) r v n a h = absurd (rw h at a)
from_agrees s g l (miscount w i) r v n a h = absurd (rw h at a)

pub types_good : (g : Target) (l : List Val) → T (good_args g l) → T (good_tys g (map type_of l))
unfolding good_args
types_good g l a = and_r (every good_val l) (good_tys g (map type_of l)) a

pub vals_ok : (g : Target) (l : List Val) → T (good_args g l) → AllOk l
unfolding good_args
vals_ok g l a = all_ok l (and_l (every good_val l) (good_tys g (map type_of l)) a)

few : (g : Target) (l : List Val) → T (good_args g l) → T (leb (length l) 65535)
unfolding good_tys
few g l a = rw length_map at (and_r (every (good_arg g) (map type_of l)) (leb (length (map type_of l)) 65535) (types_good g l a))

-- whatever the stage, the target and the arguments: what building accepts is a well-formed value
pub built_good : (s : Stage) (g : Target) (l : List Val) (v : Val) → T (good_target g) → T (good_args g l) → build s g l ≡ ok v
    → T (good_val v)
unfolding good_target good_ty in_scope build
built_good s (Of t) l v h a e = good_as t (build s (Of t) l) v h (of_type s t l (shaped_of 15 4096 t h) (vals_ok (Of t) l a)) e
built_good s (Tr t) [] v h a e = absurd (let z : ◌≡◌ {A = ℕ} 0 1 = cc in omega arith)
built_good s (Tr t) (w ∷ l) v h a e =
    good_as (Ta (length (w ∷ l)) t) (build s (Tr t) (w ∷ l)) v (qa_good (length (w ∷ l)) t (omega arith) (few (Tr t) (w ∷ l) a) h)
    (runtime s t w l (vals_ok (Tr t) (w ∷ l) a)) e
built_good s Qa l v h a e =
    from_agrees s Qa l (typed Qa (map type_of l)) (build s Qa l) v (λ u q. named Qa (map type_of l) u h (types_good Qa l a) q)
    (trees s Qa l h tt (vals_ok Qa l a)) e
built_good s (Qv n) l v h a e =
    from_agrees s (Qv n) l (typed (Qv n) (map type_of l)) (build s (Qv n) l) v
    (λ u q. named (Qv n) (map type_of l) u h (types_good (Qv n) l a) q) (trees s (Qv n) l h tt (vals_ok (Qv n) l a)) e
built_good s (Qm c r) l v h a e =
    from_agrees s (Qm c r) l (typed (Qm c r) (map type_of l)) (build s (Qm c r) l) v
    (λ u q. named (Qm c r) (map type_of l) u h (types_good (Qm c r) l a) q)
    (trees s (Qm c r) l h tt (vals_ok (Qm c r) l a)) e
