-- The third demand at the level of trees, for every target in its scope.
use mathlib.Core.Path.{◌≡◌, refl}
use mathlib.Core.List.{List, [], ◌∷◌, map}
use mathlib.Core.Bool.{not}
use lib.Dec.{T}
use Rattle.meaning.specs.Kinds.{is_abstract}
use Rattle.meaning.specs.Scalars.{Stage}
use Rattle.meaning.specs.Trees.{Ty, Ts, Tv, Tm, Ta, Tu, Val, Target, Of, Tr, Qa, Qv, Qm, type_of}
use Rattle.meaning.specs.Answers.{ok}
use Rattle.meaning.specs.Records.{every, shaped_val, shaped_ty, good_val, good_ty, good_target}
use Rattle.meaning.specs.Build.{build}
use Rattle.meaning.specs.Typing.{typed, typeable}
use Rattle.laws.specs.Demand.{concrete, in_scope}
use Rattle.laws.proofs.AgreeConv.{true_of}
use Rattle.laws.proofs.AgreeBuild.{Agrees, AllOk, agree_none, agree_scalar_one, agree_scalar_more, agree_array, agree_struct}
use Rattle.laws.proofs.AgreeVec.{agree_vec_one, agree_vec_more}
use Rattle.laws.proofs.AgreeMat.{agree_mat_one, agree_mat_more}
use Rattle.laws.proofs.AgreeQa.{agree_qa_none, agree_qa}
use Rattle.laws.proofs.AgreeQv.{agree_qv_none, agree_qv_one, agree_qv_more}
use Rattle.laws.proofs.AgreeQm.{agree_qm_none, agree_qm_one, agree_qm_more}
use Rattle.laws.proofs.Back.{and_l, and_r, shaped_of}

pub all_ok : (l : List Val) → T (every good_val l) → AllOk l
unfolding every good_val good_ty
all_ok [] h = tt
all_ok (v ∷ l) h =
    let g = and_l (good_val v) (every good_val l) h in (
      and_l (shaped_val v) (good_ty (type_of v)) g,
      shaped_of 15 4096 (type_of v) (and_r (shaped_val v) (good_ty (type_of v)) g),
      all_ok l
          (and_r (good_val v) (every good_val l) h),
    )

may_type : (t : Ty) → T (concrete t) → typeable t ≡ ok tt
unfolding typeable concrete
may_type (Ts k) h = rw (true_of (not (is_abstract k)) h)
may_type (Tv n k) h = rw (true_of (not (is_abstract k)) h)
may_type (Tm c r k) h = refl
may_type (Ta n t) h = refl
may_type (Tu i m) h = refl

agree_of : (s : Stage) (t : Ty) (l : List Val) → T (shaped_ty t) → T (concrete t) → AllOk l
    → Agrees s (Of t) l (typed (Of t) (map type_of l)) (build s (Of t) l)
unfolding concrete
agree_of s t [] h c g = agree_none s t h (may_type t c)
agree_of s (Ts k) (v ∷ []) h c g = agree_scalar_one s k v g.0 c
agree_of s (Ts k) (v ∷ w ∷ l) h c g = agree_scalar_more s k v w l c
agree_of s (Tv n k) (v ∷ []) h c g = agree_vec_one s n k v g.0 c
agree_of s (Tv n k) (v ∷ w ∷ l) h c g = agree_vec_more s n k v w l g c
agree_of s (Tm a b k) (v ∷ []) h c g = agree_mat_one s a b k v g c
agree_of s (Tm a b k) (v ∷ w ∷ l) h c g = agree_mat_more s a b k v w l g
agree_of s (Ta n t) (v ∷ l) h c g = agree_array s n t v l g h
agree_of s (Tu i m) (v ∷ l) h c g = agree_struct s i m v l g

-- whatever the stage, the target in scope and the arguments
pub trees : (s : Stage) (g : Target) (l : List Val) → T (good_target g) → T (in_scope g) → AllOk l
    → Agrees s g l (typed g (map type_of l)) (build s g l)
unfolding good_target good_ty in_scope shaped_ty
trees s (Of t) l h c a = agree_of s t l (shaped_of 15 4096 t h) c a
trees s (Tr t) l h c a = absurd c
trees s Qa [] h c a = agree_qa_none s
trees s Qa (v ∷ l) h c a = agree_qa s v l a
trees s (Qv n) [] h c a = agree_qv_none s n h
trees s (Qv n) (v ∷ []) h c a = agree_qv_one s n v h a
trees s (Qv n) (v ∷ w ∷ l) h c a = agree_qv_more s n v w l a
trees s (Qm c' r) [] h c a = agree_qm_none s c' r
trees s (Qm c' r) (v ∷ []) h c a = agree_qm_one s c' r v a
trees s (Qm c' r) (v ∷ w ∷ l) h c a = agree_qm_more s c' r v w l a
