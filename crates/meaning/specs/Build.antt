-- Building: what a constructor makes of its arguments, or the refusal (document 01, composites and their order; the
-- source's `call_ctor`, ctor.rs).
use Rattle.std.proofs.Math.Option.{Option, none, some}
use Rattle.std.specs.Prelude.{List, [], ◌∷◌, ◌++◌, map, Bool, not, ◌&&◌, cond, ℕ, ◌*◌, eqb, length, replicate}
use Rattle.meaning.specs.Kinds.{Kind, aint, is_abstract, same_kind}
use Rattle.meaning.specs.Scalars.{Stage, conv, ctor_test, ctor_bits}
use Rattle.meaning.specs.Trees.{Ty, Ts, Tv, Tm, Ta, Tu, Tys, Val, Vs, Vv, Vm, Va, Vu, Target, Of, Tr, Qa, Qv, Qm}
use Rattle.meaning.specs.Trees.{type_of, set_leaf, inner, zero_of, vals_of, tys_list}
use Rattle.meaning.specs.Answers.{Result, ok, no, ◌>>=◌, ◌>>◌, or_no, need, need_count, all, all_some, map_some}
use Rattle.meaning.specs.Convert.{converts, conv_val, conv_lits, common, float_kind}

-- ---- scalars

-- one literal through the constructor of kind k: "the same kind keeps its bits", else 15 or 21, or the payload made
unfoldable pub ctor_lit : Stage → Kind → Kind → ℕ → Result ℕ
ctor_lit s k j p = cond (same_kind j k) (ok p) (need (eqb (ctor_test s k j p) 0) (ctor_test s k j p) >> ok (ctor_bits k j p))

-- "6 scalar given a non-scalar"
unfoldable pub scalar_of : Stage → Kind → Val → Result Val
scalar_of s k (Vs j p) = do
  q ← ctor_lit s k j p
  ok (Vs k q)
scalar_of s k (Vv j ps) = no 6
scalar_of s k (Vm c r j ps) = no 6
scalar_of s k (Va l) = no 6
scalar_of s k (Vu i l) = no 6

-- ---- vectors

-- "vectors are flattened"
unfoldable pub parts : Val → List Val
parts (Vs k p) = Vs k p ∷ []
parts (Vv k ps) = map (Vs k) ps
parts (Vm c r k ps) = Vm c r k ps ∷ []
parts (Va l) = Va l ∷ []
parts (Vu i l) = Vu i l ∷ []

unfoldable pub flattened : List Val → List Val
flattened [] = []
flattened (v ∷ l) = parts v ++ flattened l

-- the payload of a literal
unfoldable pub payload : Val → Option ℕ
payload (Vs k p) = some p
payload (Vv k ps) = none
payload (Vm c r k ps) = none
payload (Va l) = none
payload (Vu i l) = none

-- "flattened, count (8), then conversion (9)"
unfoldable pub vec_parts : ℕ → Kind → List Val → Result Val
vec_parts n k l = do
  need_count (eqb (length l) n) n (length l)
  ws ← or_no 9 (all_some (conv_val (Ts k)) l)
  ps ← or_no 9 (all_some payload ws)
  ok (Vv k ps)

-- "one literal converts and is repeated (9); one vector needs equal n (7), then the scalar constructor on each
-- component" (an abstract vector type has none: 12)
unfoldable pub vec_one : Stage → ℕ → Kind → Val → Result Val
vec_one s n k (Vs j p) = do
  q ← or_no 9 (conv k j p)
  ok (Vv k (replicate n q))
vec_one s n k (Vv j ps) = do
  need (eqb (length ps) n) 7
  need (not (is_abstract k)) 12
  qs ← all (ctor_lit s k j) ps
  ok (Vv k qs)
vec_one s n k (Vm c r j ps) = vec_parts n k (Vm c r j ps ∷ [])
vec_one s n k (Va l) = vec_parts n k (Va l ∷ [])
vec_one s n k (Vu i l) = vec_parts n k (Vu i l ∷ [])

-- the kind of a scalar type
unfoldable pub lit_kind : Ty → Option Kind
lit_kind (Ts k) = some k
lit_kind (Tv n k) = none
lit_kind (Tm c r k) = none
lit_kind (Ta n t) = none
lit_kind (Tu i m) = none

-- `Qv`: "flattened count (8), common type (10), scalars only (12)"; a literal that does not fit the common type is 10 too
unfoldable pub qv_parts : ℕ → List Val → Result Val
qv_parts n l = do
  need_count (eqb (length l) n) n (length l)
  t ← or_no 10 (common (map type_of l))
  ws ← or_no 10 (all_some (conv_val t) l)
  k ← or_no 12 (lit_kind t)
  ps ← or_no 12 (all_some payload ws)
  ok (Vv k ps)

-- "one literal repeated; one vector of n kept (7)"
unfoldable pub qv_one : ℕ → Val → Result Val
qv_one n (Vs k p) = ok (Vv k (replicate n p))
qv_one n (Vv k ps) = need (eqb (length ps) n) 7 >> ok (Vv k ps)
qv_one n (Vm c r j ps) = qv_parts n (Vm c r j ps ∷ [])
qv_one n (Va l) = qv_parts n (Va l ∷ [])
qv_one n (Vu i l) = qv_parts n (Vu i l ∷ [])

-- ---- arrays and structs

-- each argument to the element type (9)
unfoldable pub elements : Ty → List Val → Result (List Val)
elements t l = or_no 9 (all_some (conv_val t) l)

-- each argument to its member's type (the counts are equal where this is asked)
unfoldable pub memberwise : List Ty → List Val → Option (List Val)
memberwise [] l = some []
memberwise (t ∷ m) l =
    elim l [ [] ↦ some [] | v ∷ vs ↦ elim (conv_val t v) [ none ↦ none | some w ↦ map_some (w ∷◌) (memberwise m vs) ] ]

-- "struct: count (8), conversion (9)"
unfoldable pub struct_of : ℕ → Tys → List Val → Result Val
struct_of i m l = do
  need_count (eqb (length l) (length (tys_list m))) (length (tys_list m)) (length l)
  ws ← or_no 9 (memberwise (tys_list m) l)
  ok (Vu i (vals_of ws))

-- "counted array: conversion (9) before count (8)"
unfoldable pub array_of : ℕ → Ty → List Val → Result Val
array_of n t l = do
  ws ← elements t l
  need_count (eqb (length l) n) n (length l)
  ok (Va (vals_of ws))

-- "`Tr`: the count is that of the arguments"
unfoldable pub runtime_of : Ty → List Val → Result Val
runtime_of t l = do
  ws ← elements t l
  ok (Va (vals_of ws))

-- "`Qa`: 11, then 10" (11 is below, where there are no arguments)
unfoldable pub qa_of : List Val → Result Val
qa_of l = do
  t ← or_no 10 (common (map type_of l))
  ws ← or_no 10 (all_some (conv_val t) l)
  ok (Va (vals_of ws))

-- ---- matrices

-- "rows (14), columns or c × r scalars (8), 13": t is the arguments' type and n their number
unfoldable pub mat_shape : ℕ → ℕ → Ty → ℕ → Result (Unit {0})
mat_shape c r (Ts k) n = need_count (eqb n (c * r)) (c * r) n
mat_shape c r (Tv m k) n = need (eqb m r) 14 >> need_count (eqb n c) c n
mat_shape c r (Tm a b k) n = no 13
mat_shape c r (Ta m t) n = no 13
mat_shape c r (Tu i m) n = no 13

-- the payloads of a column or of a scalar
unfoldable pub payloads_of : Val → List ℕ
payloads_of (Vs k p) = p ∷ []
payloads_of (Vv k ps) = ps
payloads_of (Vm c r k ps) = []
payloads_of (Va l) = []
payloads_of (Vu i l) = []

unfoldable pub payloads_of_all : List Val → List ℕ
payloads_of_all [] = []
payloads_of_all (v ∷ l) = payloads_of v ++ payloads_of_all l

-- "the first argument's type with the target's scalar one level down, or in its place if it is a scalar", if what
-- stands there converts to it; "a struct never does"
unfoldable pub to_inner : Kind → Ty → Option Ty
to_inner k t = cond (converts (inner t) (Ts k)) (some (set_leaf k t)) none

-- "7 if that doesn't convert, all convert to that (10), rows (14), columns or c × r scalars (8), 13": the arguments are v and l
unfoldable pub mat_parts : ℕ → ℕ → Kind → Val → List Val → Result Val
mat_parts c r k v l = do
  t ← or_no 7 (to_inner k (type_of v))
  ws ← or_no 10 (all_some (conv_val t) (v ∷ l))
  mat_shape c r t (length (v ∷ l))
  ok (Vm c r k (payloads_of_all ws))

unfoldable pub same_size : ℕ → ℕ → ℕ → ℕ → Bool
same_size c r a b = eqb a c && eqb b r

-- "one matrix needs equal size (7), then constructors" (13 "also one matrix into a kind 2 matrix type")
unfoldable pub mat_one : Stage → ℕ → ℕ → Kind → Val → Result Val
mat_one s c r k (Vm a b j ps) = do
  need (same_size c r a b) 7
  need (not (is_abstract k)) 13
  qs ← all (ctor_lit s k j) ps
  ok (Vm c r k qs)
mat_one s c r k (Vs j p) = mat_parts c r k (Vs j p) []
mat_one s c r k (Vv j ps) = mat_parts c r k (Vv j ps) []
mat_one s c r k (Va l) = mat_parts c r k (Va l) []
mat_one s c r k (Vu i l) = mat_parts c r k (Vu i l) []

-- `Qm`: "common type (10); float, AbstractInt becoming AbstractFloat (13); conversion (10); rows (14); count (8); 13"
unfoldable pub qm_parts : ℕ → ℕ → List Val → Result Val
qm_parts c r l = do
  t ← or_no 10 (common (map type_of l))
  k ← or_no 13 (float_kind (inner t))
  ws ← or_no 10 (all_some (conv_lits k) l)
  mat_shape c r t (length l)
  ok (Vm c r k (payloads_of_all ws))

-- "one matrix of equal size kept (7)"
unfoldable pub qm_one : ℕ → ℕ → Val → Result Val
qm_one c r (Vm a b k ps) = need (same_size c r a b) 7 >> ok (Vm a b k ps)
qm_one c r (Vs k p) = qm_parts c r (Vs k p ∷ [])
qm_one c r (Vv k ps) = qm_parts c r (Vv k ps ∷ [])
qm_one c r (Va l) = qm_parts c r (Va l ∷ [])
qm_one c r (Vu i l) = qm_parts c r (Vu i l ∷ [])

-- ---- every target, by how many arguments there are

-- one argument: 4 for an abstract scalar
unfoldable pub build_one : Stage → Ty → Val → Result Val
build_one s (Ts k) v = need (not (is_abstract k)) 4 >> scalar_of s k v
build_one s (Tv n k) v = vec_one s n k v
build_one s (Tm c r k) v = mat_one s c r k v
build_one s (Ta n t) v = array_of n t (v ∷ [])
build_one s (Tu i m) v = struct_of i m (v ∷ [])

-- two arguments or more: 5 for a scalar
unfoldable pub build_more : Ty → Val → List Val → Result Val
build_more (Ts k) v l = need (not (is_abstract k)) 4 >> no 5
build_more (Tv n k) v l = vec_parts n k (flattened (v ∷ l))
build_more (Tm c r k) v l = mat_parts c r k v l
build_more (Ta n t) v l = array_of n t (v ∷ l)
build_more (Tu i m) v l = struct_of i m (v ∷ l)

-- "no arguments with a type record: the zero value. `Qv` without arguments: AbstractInt zeros"; 4 building `Tr` with none, 11 `Qa` and `Qm`
unfoldable pub build : Stage → Target → List Val → Result Val
build s (Of t) [] = ok (zero_of t)
build s (Of t) (v ∷ []) = build_one s t v
build s (Of t) (v ∷ w ∷ l) = build_more t v (w ∷ l)
build s (Tr t) [] = no 4
build s (Tr t) (v ∷ l) = runtime_of t (v ∷ l)
build s Qa [] = no 11
build s Qa (v ∷ l) = qa_of (v ∷ l)
build s (Qv n) [] = ok (zero_of (Tv n aint))
build s (Qv n) (v ∷ []) = qv_one n v
build s (Qv n) (v ∷ w ∷ l) = qv_parts n (flattened (v ∷ w ∷ l))
build s (Qm c r) [] = no 11
build s (Qm c r) (v ∷ []) = qm_one c r v
build s (Qm c r) (v ∷ w ∷ l) = qm_parts c r (v ∷ w ∷ l)
