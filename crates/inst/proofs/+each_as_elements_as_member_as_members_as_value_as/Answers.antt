-- Reading by the front of the type that stands there; its parts are read one after another.
use mathlib.Core.Path.{refl}
use Prim.Native.Nat.{◌-◌, ◌+◌}
use native.Mathlib.Omega.{arith}
use Rattle.ty.proofs.Heads.{array_here, struct_here}
use Rattle.ty.proofs.Walks.{same_trans}
use Rattle.inst.proofs.ValueRows.{each_on, each_none, each_end}
use Rattle.inst.proofs.ByType.{scalar_kind, vector_kind, matrix_kind, scalar_says, scalars_say, vector_says, vectors_say}
use Rattle.inst.proofs.ByType.{matrix_says, array_unlike, array_says, struct_unlike, struct_says}
use Rattle.inst.proofs.ByType.{left_first, left_again, left_none, left_end}
use Rattle.inst.proofs.+each_as_elements_as_member_as_members_as_value_as.Goals as goal
use Rattle.std.specs.declared.option.Option.TheVariants.{None, Some}

-- ---- n values of one type

pub each_as-returns-in_err-i : goal.each_as-returns-in_err-i
each_as-returns-in_err-i t c =
    rw c.from_residual.ensures
    (λ u z w e x. each_none (omega arith) (c.in_err-i.ensures u z w) e (((c.loop.invariant.1 u z w).0 e).1 x))

pub each_as-loop-preserved : goal.each_as-loop-preserved
each_as-loop-preserved t c = (
  (c.in_ok-i.ensures c.requires.0.type c.requires.0.end c.requires.0.stands).0.within,
  λ u z w. let x = c.in_ok-i.ensures u z w in (
    same_trans (each_on (c.args.n - (c.loop.counter + 1)) (omega arith) x.0) (c.loop.invariant.1 u z w).0,
    λ h. x.1,
  ),
)

pub each_as-returns : goal.each_as-returns
each_as-returns t c =
    λ u z w. let v = c.loop.invariant.1 u z w in (
      (v.0 c.loop.i).0 (each_end c.args.s.now c.loop.i (c.args.n - c.loop.counter) u (omega arith) c.loop.invariant.0),
      λ h. v.1 (omega arith),
    )

-- ---- values of types in a row

pub members_as-member_as-requires : goal.members_as-member_as-requires
members_as-member_as-requires t c = (
  omega (arith, c.decreases),
  left_first (c.loop.invariant.1 c.requires.0.types c.requires.0.end c.requires.0.stands) (omega arith),
)

pub members_as-returns-in_err-i : goal.members_as-returns-in_err-i
members_as-returns-in_err-i t c =
    rw c.from_residual.ensures (λ m z w. left_none (c.loop.invariant.1 m z w) (omega arith) c.in_err-i.ensures)

pub members_as-loop-preserved : goal.members_as-loop-preserved
members_as-loop-preserved t c =
    let f = left_first (c.loop.invariant.1 c.requires.0.types c.requires.0.end c.requires.0.stands) (omega arith) in (
      (c.in_ok-i.ensures f.type f.end f.stands).0.within,
      λ m z w. left_again (c.loop.invariant.1 m z w) (omega arith) c.in_ok-i.ensures,
    )

pub members_as-returns : goal.members_as-returns
members_as-returns t c = λ m z w. left_end (c.loop.invariant.1 m z w) (omega arith) c.loop.invariant.0

-- ---- by the front

pub elements_as-literals-requires : goal.elements_as-literals-requires
elements_as-literals-requires t c = (scalar_kind c.requires.0 c.in-Scalar.ensures, c.requires.1)

pub elements_as-columns-requires : goal.elements_as-columns-requires
elements_as-columns-requires t c = (vector_kind c.requires.0 c.in-Vector.ensures, c.requires.1)

pub elements_as-returns-in_err-literals-in-Scalar : goal.elements_as-returns-in_err-literals-in-Scalar
elements_as-returns-in_err-literals-in-Scalar t c =
    rw c.from_residual.ensures
    (λ u z w. scalars_say c.args.s.now c.args.at w c.args.n None (c.in-Scalar.ensures u z w) c.in_err-literals-in-Scalar.ensures)

pub elements_as-returns-in_ok-literals-in-Scalar : goal.elements_as-returns-in_ok-literals-in-Scalar
elements_as-returns-in_ok-literals-in-Scalar t c =
    λ u z w. scalars_say c.args.s.now c.args.at w c.args.n (Some c.in_ok-literals-in-Scalar.field-0) (c.in-Scalar.ensures u z w)
    c.in_ok-literals-in-Scalar.ensures

pub elements_as-returns-in_err-columns-in-Vector : goal.elements_as-returns-in_err-columns-in-Vector
elements_as-returns-in_err-columns-in-Vector t c =
    rw c.from_residual-in_err-columns-in-Vector.ensures
    (λ u z w. vectors_say c.args.s.now c.args.at w c.args.n None (c.in-Vector.ensures u z w) c.in_err-columns-in-Vector.ensures)

pub elements_as-returns-in_ok-columns-in-Vector : goal.elements_as-returns-in_ok-columns-in-Vector
elements_as-returns-in_ok-columns-in-Vector t c =
    λ u z w. vectors_say c.args.s.now c.args.at w c.args.n (Some c.in_ok-columns-in-Vector.field-0) (c.in-Vector.ensures u z w)
    c.in_ok-columns-in-Vector.ensures

pub member_as-literal_as-requires : goal.member_as-literal_as-requires
member_as-literal_as-requires t c = scalar_kind c.requires c.in-Scalar.ensures

pub member_as-vector_as-requires : goal.member_as-vector_as-requires
member_as-vector_as-requires t c = vector_kind c.requires c.in-Vector.ensures

pub member_as-returns-in_err-literal_as-in-Scalar : goal.member_as-returns-in_err-literal_as-in-Scalar
member_as-returns-in_err-literal_as-in-Scalar t c =
    rw c.from_residual.ensures
    (λ u z w. scalar_says c.args.s.now c.args.at w None (c.in-Scalar.ensures u z w) c.in_err-literal_as-in-Scalar.ensures)

pub member_as-returns-in_ok-literal_as-in-Scalar : goal.member_as-returns-in_ok-literal_as-in-Scalar
member_as-returns-in_ok-literal_as-in-Scalar t c =
    λ u z w. scalar_says c.args.s.now c.args.at w (Some c.in_ok-literal_as-in-Scalar.field-0) (c.in-Scalar.ensures u z w)
    c.in_ok-literal_as-in-Scalar.ensures

pub member_as-returns-in_err-vector_as-in-Vector : goal.member_as-returns-in_err-vector_as-in-Vector
member_as-returns-in_err-vector_as-in-Vector t c =
    rw c.from_residual-in_err-vector_as-in-Vector.ensures
    (λ u z w. vector_says c.args.s.now c.args.at w None (c.in-Vector.ensures u z w) c.in_err-vector_as-in-Vector.ensures)

pub member_as-returns-in_ok-vector_as-in-Vector : goal.member_as-returns-in_ok-vector_as-in-Vector
member_as-returns-in_ok-vector_as-in-Vector t c =
    λ u z w. vector_says c.args.s.now c.args.at w (Some c.in_ok-vector_as-in-Vector.field-0) (c.in-Vector.ensures u z w)
    c.in_ok-vector_as-in-Vector.ensures

pub value_as-literal_as-requires : goal.value_as-literal_as-requires
value_as-literal_as-requires t c = scalar_kind c.requires c.in-Scalar.ensures

pub value_as-vector_as-requires : goal.value_as-vector_as-requires
value_as-vector_as-requires t c = vector_kind c.requires c.in-Vector.ensures

pub value_as-matrix_as-requires : goal.value_as-matrix_as-requires
value_as-matrix_as-requires t c = matrix_kind c.requires c.in-Matrix.ensures

pub value_as-returns-in_err-literal_as-in-Scalar : goal.value_as-returns-in_err-literal_as-in-Scalar
value_as-returns-in_err-literal_as-in-Scalar t c =
    rw c.from_residual.ensures
    (λ u z w. scalar_says c.args.s.now c.args.at w None (c.in-Scalar.ensures u z w) c.in_err-literal_as-in-Scalar.ensures)

pub value_as-returns-in_ok-literal_as-in-Scalar : goal.value_as-returns-in_ok-literal_as-in-Scalar
value_as-returns-in_ok-literal_as-in-Scalar t c =
    λ u z w. scalar_says c.args.s.now c.args.at w (Some c.in_ok-literal_as-in-Scalar.field-0) (c.in-Scalar.ensures u z w)
    c.in_ok-literal_as-in-Scalar.ensures

pub value_as-returns-in_err-vector_as-in-Vector : goal.value_as-returns-in_err-vector_as-in-Vector
value_as-returns-in_err-vector_as-in-Vector t c =
    rw c.from_residual-in_err-vector_as-in-Vector.ensures
    (λ u z w. vector_says c.args.s.now c.args.at w None (c.in-Vector.ensures u z w) c.in_err-vector_as-in-Vector.ensures)

pub value_as-returns-in_ok-vector_as-in-Vector : goal.value_as-returns-in_ok-vector_as-in-Vector
value_as-returns-in_ok-vector_as-in-Vector t c =
    λ u z w. vector_says c.args.s.now c.args.at w (Some c.in_ok-vector_as-in-Vector.field-0) (c.in-Vector.ensures u z w)
    c.in_ok-vector_as-in-Vector.ensures

pub value_as-returns-in_err-matrix_as-in-Matrix : goal.value_as-returns-in_err-matrix_as-in-Matrix
value_as-returns-in_err-matrix_as-in-Matrix t c =
    rw c.from_residual-in_err-matrix_as-in-Matrix.ensures
    (λ u z w. matrix_says c.args.s.now c.args.at w None (c.in-Matrix.ensures u z w) c.in_err-matrix_as-in-Matrix.ensures)

pub value_as-returns-in_ok-matrix_as-in-Matrix : goal.value_as-returns-in_ok-matrix_as-in-Matrix
value_as-returns-in_ok-matrix_as-in-Matrix t c =
    λ u z w. matrix_says c.args.s.now c.args.at w (Some c.in_ok-matrix_as-in-Matrix.field-0) (c.in-Matrix.ensures u z w)
    c.in_ok-matrix_as-in-Matrix.ensures

pub value_as-returns-then-not-four_at : goal.value_as-returns-then-not-four_at
value_as-returns-then-not-four_at t c =
    λ u z w. array_unlike c.args.s.now c.args.at w (c.in-Array.ensures u z w)
    (rw (c.low.ensures, c.high.ensures) at c.if-not-four_at.ensures)

pub value_as-overflow_sub-depth : goal.value_as-overflow_sub-depth
value_as-overflow_sub-depth t c = (array_here c.requires c.in-Array.ensures refl).deep

pub value_as-elements_as-requires : goal.value_as-elements_as-requires
value_as-elements_as-requires t c =
    let x = array_here c.requires c.in-Array.ensures refl in
    (omega (arith, x.deep), (record { type = x.elem; end = c.requires.end; stands = x.part }, c.if-not-four_at.ensures.room))

pub value_as-returns-else-not-four_at : goal.value_as-returns-else-not-four_at
value_as-returns-else-not-four_at t c =
    λ u z w. array_says c.args.s.now c.args.at w (c.in-Array.ensures u z w) c.elements_as.result
    (rw (c.low.ensures, c.high.ensures) at c.if-not-four_at.ensures) c.elements_as.ensures

pub value_as-returns-then-not-struct_starts : goal.value_as-returns-then-not-struct_starts
value_as-returns-then-not-struct_starts t c =
    λ u z w. struct_unlike c.args.s.now c.args.at w (c.in-Struct.ensures u z w) c.if-not-struct_starts.ensures

pub value_as-overflow_sub-depth-in-Struct : goal.value_as-overflow_sub-depth-in-Struct
value_as-overflow_sub-depth-in-Struct t c = (struct_here c.requires c.in-Struct.ensures refl).deep

pub value_as-members_as-requires : goal.value_as-members_as-requires
value_as-members_as-requires t c =
    let x = struct_here c.requires c.in-Struct.ensures refl in
    (omega (arith, x.deep), (record { types = x.members; end = c.requires.end; stands = x.parts }, c.if-not-struct_starts.ensures.room))

pub value_as-returns-else-not-struct_starts : goal.value_as-returns-else-not-struct_starts
value_as-returns-else-not-struct_starts t c =
    λ u z w. struct_says c.args.s.now c.args.at w (c.in-Struct.ensures u z w) c.members_as.result
    c.if-not-struct_starts.ensures c.members_as.ensures
