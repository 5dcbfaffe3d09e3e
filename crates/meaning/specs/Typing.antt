-- Typing: the type of what a constructor makes, from the types of its arguments, or the refusal (the source's
-- `type_ctor` and `typecheck_struct_ctor`, in their own order).
use Rattle.std.proofs.Math.Option.{Option, none, some}
use Rattle.std.specs.Prelude.{List, [], ◌∷◌, map, Bool, true, not, ◌&&◌, ℕ, ◌+◌, eqb, length}
use Rattle.meaning.specs.Kinds.{Kind, aint, is_abstract}
use Rattle.meaning.specs.Trees.{Ty, Ts, Tv, Tm, Ta, Tu, Tys, Target, Of, Tr, Qa, Qv, Qm}
use Rattle.meaning.specs.Trees.{inner, tys_list}
use Rattle.meaning.specs.Records.{every}
use Rattle.meaning.specs.Answers.{Result, ok, no, ◌>>=◌, ◌>>◌, or_no, need, need_count, all}
use Rattle.meaning.specs.Convert.{converts, common, float_kind}
use Rattle.meaning.specs.Build.{mat_shape, same_size, to_inner, lit_kind}

-- "5 .. typing: also one non-scalar"
unfoldable pub type_scalar : Kind → Ty → Result Ty
type_scalar k (Ts j) = ok (Ts k)
type_scalar k (Tv n j) = no 5
type_scalar k (Tm c r j) = no 5
type_scalar k (Ta n t) = no 5
type_scalar k (Tu i m) = no 5

-- "a single argument that a vector type can't take is 7"
unfoldable pub type_vec_one : ℕ → Kind → Ty → Result Ty
type_vec_one n k (Ts j) = need (converts (Ts j) (Ts k)) 7 >> ok (Tv n k)
type_vec_one n k (Tv m j) = need (eqb m n) 7 >> ok (Tv n k)
type_vec_one n k (Tm c r j) = no 7
type_vec_one n k (Ta m t) = no 7
type_vec_one n k (Tu i m) = no 7

-- the kind and the number of the components that an argument brings
unfoldable pub part_kind : Ty → Option Kind
part_kind (Ts k) = some k
part_kind (Tv n k) = some k
part_kind (Tm c r k) = none
part_kind (Ta n t) = none
part_kind (Tu i m) = none

unfoldable pub part_count : Ty → ℕ
part_count (Ts k) = 1
part_count (Tv n k) = n
part_count (Tm c r k) = 0
part_count (Ta n t) = 0
part_count (Tu i m) = 0

-- the number of components, "a whole number"
unfoldable pub total : List Ty → ℕ
total [] = 0
total (t ∷ l) = part_count t + total l

-- "among several arguments of a vector, one that is neither scalar nor vector, or doesn't convert to the target's scalar, is 12"
unfoldable pub part_of : Ty → Result Kind
part_of t = or_no 12 (part_kind t)

unfoldable pub part_to : Kind → Ty → Result Kind
part_to k t = do
  j ← part_of t
  need (converts (Ts j) (Ts k)) 12
  ok j

-- "typing's 8 gives the number of arguments, not the flattened count"
unfoldable pub type_vec : ℕ → Kind → List Ty → Result Ty
type_vec n k l = do
  all (part_to k) l
  need_count (eqb (total l) n) n (length l)
  ok (Tv n k)

-- "so is a single argument that `Qv` can't take" (12)
unfoldable pub type_qv_one : ℕ → Ty → Result Ty
type_qv_one n (Ts k) = ok (Tv n k)
type_qv_one n (Tv m k) = need (eqb m n) 12 >> ok (Tv n k)
type_qv_one n (Tm c r k) = no 12
type_qv_one n (Ta m t) = no 12
type_qv_one n (Tu i m) = no 12

unfoldable pub type_qv : ℕ → List Ty → Result Ty
type_qv n l = do
  ks ← all part_of l
  need_count (eqb (total l) n) n (length l)
  t ← or_no 10 (common (map Ts ks))
  k ← or_no 10 (lit_kind t)
  ok (Tv n k)

-- "an array element .. is 7"; "typing doesn't count a counted array's arguments"
unfoldable pub type_array : ℕ → Ty → List Ty → Result Ty
type_array n t l = need (every (λ a. converts a t) l) 7 >> ok (Ta n t)

unfoldable pub memberwise_ty : List Ty → List Ty → Bool
memberwise_ty [] l = true
memberwise_ty (t ∷ m) l = elim l [ [] ↦ true | a ∷ as' ↦ converts a t && memberwise_ty m as' ]

-- count (8), then a member that doesn't convert (9); "an accepted struct answers its own type record"
unfoldable pub type_struct : ℕ → Tys → List Ty → Result Ty
type_struct i m l = do
  need_count (eqb (length l) (length (tys_list m))) (length (tys_list m)) (length l)
  need (memberwise_ty (tys_list m) l) 9
  ok (Tu i m)

-- a matrix by the common type of its arguments
unfoldable pub type_mat : ℕ → ℕ → Kind → List Ty → Result Ty
type_mat c r k l = do
  a ← or_no 10 (common l)
  t ← or_no 7 (to_inner k a)
  mat_shape c r t (length l)
  ok (Tm c r k)

unfoldable pub type_mat_one : ℕ → ℕ → Kind → Ty → Result Ty
type_mat_one c r k (Tm a b j) = need (same_size c r a b) 7 >> ok (Tm c r k)
type_mat_one c r k (Ts j) = type_mat c r k (Ts j ∷ [])
type_mat_one c r k (Tv n j) = type_mat c r k (Tv n j ∷ [])
type_mat_one c r k (Ta n t) = type_mat c r k (Ta n t ∷ [])
type_mat_one c r k (Tu i m) = type_mat c r k (Tu i m ∷ [])

unfoldable pub type_qm : ℕ → ℕ → List Ty → Result Ty
type_qm c r l = do
  t ← or_no 10 (common l)
  k ← or_no 13 (float_kind (inner t))
  mat_shape c r t (length l)
  ok (Tm c r k)

unfoldable pub type_qm_one : ℕ → ℕ → Ty → Result Ty
type_qm_one c r (Tm a b k) = need (same_size c r a b) 7 >> ok (Tm a b k)
type_qm_one c r (Ts k) = type_qm c r (Ts k ∷ [])
type_qm_one c r (Tv n k) = type_qm c r (Tv n k ∷ [])
type_qm_one c r (Ta n t) = type_qm c r (Ta n t ∷ [])
type_qm_one c r (Tu i m) = type_qm c r (Tu i m ∷ [])

-- "`Qa` without arguments is 10"
unfoldable pub type_qa : List Ty → Result Ty
type_qa l = do
  t ← or_no 10 (common l)
  ok (Ta (length l) t)

-- what is refused whatever the arguments: "4 .. typing of an abstract scalar", "16 typing only: `Tr`, or an abstract vector type"
unfoldable pub typeable : Ty → Result (Unit {0})
typeable (Ts k) = need (not (is_abstract k)) 4
typeable (Tv n k) = need (not (is_abstract k)) 16
typeable (Tm c r k) = ok tt
typeable (Ta n t) = ok tt
typeable (Tu i m) = ok tt

unfoldable pub type_one : Ty → Ty → Result Ty
type_one (Ts k) a = type_scalar k a
type_one (Tv n k) a = type_vec_one n k a
type_one (Tm c r k) a = type_mat_one c r k a
type_one (Ta n t) a = type_array n t (a ∷ [])
type_one (Tu i m) a = type_struct i m (a ∷ [])

unfoldable pub type_more : Ty → List Ty → Result Ty
type_more (Ts k) l = no 5
type_more (Tv n k) l = type_vec n k l
type_more (Tm c r k) l = type_mat c r k l
type_more (Ta n t) l = type_array n t l
type_more (Tu i m) l = type_struct i m l

-- every target, by how many arguments there are
unfoldable pub typed : Target → List Ty → Result Ty
typed (Of t) [] = typeable t >> ok t
typed (Of t) (a ∷ []) = typeable t >> type_one t a
typed (Of t) (a ∷ b ∷ l) = typeable t >> type_more t (a ∷ b ∷ l)
typed (Tr t) l = no 16
typed Qa l = type_qa l
typed (Qv n) [] = ok (Tv n aint)
typed (Qv n) (a ∷ []) = type_qv_one n a
typed (Qv n) (a ∷ b ∷ l) = type_qv n (a ∷ b ∷ l)
typed (Qm c r) [] = no 11
typed (Qm c r) (a ∷ []) = type_qm_one c r a
typed (Qm c r) (a ∷ b ∷ l) = type_qm c r (a ∷ b ∷ l)
