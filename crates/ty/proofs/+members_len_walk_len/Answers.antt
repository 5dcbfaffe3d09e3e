-- The lengths of members add up, and what the front says of a type with parts.
use mathlib.Core.Path.{refl}
use native.Mathlib.Omega.{arith}
use Rattle.ty.proofs.Heads.{array_here, struct_here}
use Rattle.ty.proofs.Lens.{left_first, left_again, left_over, left_long, left_none, scalar_len, vector_len, matrix_len}
use Rattle.ty.proofs.Lens.{array_len, struct_len}
use Rattle.ty.proofs.+members_len_walk_len.Goals as goal

pub members_len-walk_len-requires : goal.members_len-walk_len-requires
members_len-walk_len-requires t c = (
  omega (arith, c.decreases),
  left_first (c.loop.invariant.1 c.requires.types c.requires.end c.requires.stands) (omega arith),
)

pub members_len-returns-in_err-e : goal.members_len-returns-in_err-e
members_len-returns-in_err-e t c =
    rw c.from_residual.ensures (λ m e w. left_long (c.loop.invariant.1 m e w) (omega arith) c.in_err-e.ensures)

pub members_len-loop-preserved : goal.members_len-loop-preserved
members_len-loop-preserved t c =
    let x = c.in_ok-sum.ensures in
    (omega (arith, x), λ m e w. rw x.1 (left_again (c.loop.invariant.1 m e w) (omega arith) c.in_ok-e.ensures))

pub members_len-returns-in_err-sum : goal.members_len-returns-in_err-sum
members_len-returns-in_err-sum t c =
    rw c.from_residual-in_err-sum.ensures
    (λ m e w. left_over (c.loop.invariant.1 m e w) (omega arith) c.in_ok-e.ensures c.in_err-sum.ensures)

pub members_len-returns : goal.members_len-returns
members_len-returns t c = λ m e w. left_none (c.loop.invariant.1 m e w) (omega arith) c.loop.invariant.0

pub walk_len-overflow_sub-depth : goal.walk_len-overflow_sub-depth
walk_len-overflow_sub-depth t c = (array_here c.requires c.in-Array.ensures refl).deep

pub walk_len-walk_len-requires : goal.walk_len-walk_len-requires
walk_len-walk_len-requires t c =
    let x = array_here c.requires c.in-Array.ensures refl in
    (omega (arith, c.decreases, x.deep), record { type = x.elem; end = c.requires.end; stands = x.part })

pub walk_len-array_len-requires : goal.walk_len-array_len-requires
walk_len-array_len-requires t c = (array_here c.requires c.in-Array.ensures refl).some

pub walk_len-overflow_sub-depth-in-Struct : goal.walk_len-overflow_sub-depth-in-Struct
walk_len-overflow_sub-depth-in-Struct t c = (struct_here c.requires c.in-Struct.ensures refl).deep

pub walk_len-members_len-requires : goal.walk_len-members_len-requires
walk_len-members_len-requires t c =
    let x = struct_here c.requires c.in-Struct.ensures refl in
    (omega (arith, c.decreases, x.deep), record { types = x.members; end = c.requires.end; stands = x.parts })

pub walk_len-returns-in-Scalar : goal.walk_len-returns-in-Scalar
walk_len-returns-in-Scalar t c = λ t' e w. scalar_len w (c.in-Scalar.ensures t' e w) c.literal_len.ensures

pub walk_len-returns-in-Vector : goal.walk_len-returns-in-Vector
walk_len-returns-in-Vector t c = λ t' e w. vector_len w (c.in-Vector.ensures t' e w) c.vector_len.ensures (omega arith)

pub walk_len-returns-in-Matrix : goal.walk_len-returns-in-Matrix
walk_len-returns-in-Matrix t c = λ t' e w. matrix_len w (c.in-Matrix.ensures t' e w) c.matrix_len.ensures (omega arith)

pub walk_len-returns-in-Array : goal.walk_len-returns-in-Array
walk_len-returns-in-Array t c = λ t' e w. array_len w (c.in-Array.ensures t' e w) c.walk_len.ensures c.array_len.ensures

pub walk_len-returns-in-Struct : goal.walk_len-returns-in-Struct
walk_len-returns-in-Struct t c = λ t' e w. struct_len w (c.in-Struct.ensures t' e w) c.members_len.ensures
