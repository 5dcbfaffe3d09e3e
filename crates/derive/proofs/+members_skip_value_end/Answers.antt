-- A value ends where its type says; of an array the first element, of a struct each member.
use native.Mathlib.Omega.{arith}
use Rattle.meaning.specs.Trees.{val_len}
use Rattle.derive.proofs.Skips.{leaf_end, first_having, array_end, array_within, members_having, struct_end, left_having, left_skip}
use Rattle.derive.proofs.Skips.{left_done}
use Rattle.derive.proofs.+members_skip_value_end.Goals as goal

pub members_skip-value_end-i-requires : goal.members_skip-value_end-i-requires
members_skip-value_end-i-requires t c = (
  omega (arith, c.decreases),
  left_having (c.loop.invariant c.requires.types c.requires.end c.requires.typed) (omega arith),
)

pub members_skip-loop-preserved : goal.members_skip-loop-preserved
members_skip-loop-preserved t c = λ m e w. left_skip (c.loop.invariant m e w) (omega arith) c.value_end-i.ensures

pub members_skip-returns : goal.members_skip-returns
members_skip-returns t c = λ m e w. left_done (c.loop.invariant m e w) (omega arith)

pub value_end-returns-in-Scalar : goal.value_end-returns-in-Scalar
unfolding val_len
value_end-returns-in-Scalar t c = leaf_end (rw c.in-Scalar.is at c.in-Some.ensures) c.literal_len.ensures

pub value_end-returns-in-Vector : goal.value_end-returns-in-Vector
value_end-returns-in-Vector t c = leaf_end (rw c.in-Vector.is at c.in-Some.ensures) c.vector_len.ensures

pub value_end-returns-in-Matrix : goal.value_end-returns-in-Matrix
value_end-returns-in-Matrix t c = leaf_end (rw c.in-Matrix.is at c.in-Some.ensures) c.matrix_len.ensures

pub value_end-value_end-e-requires : goal.value_end-value_end-e-requires
value_end-value_end-e-requires t c =
    let f = rw c.in-Array.is at c.in-Some.ensures in (omega (arith, c.decreases, f.deep), first_having f c.requires)

pub value_end-overflow_sub-result : goal.value_end-overflow_sub-result
value_end-overflow_sub-result t c =
    (array_within (rw c.in-Array.is at c.in-Some.ensures) _ _ c.from.ensures c.value_end-e.ensures c.requires).0

pub value_end-overflow_mul-result : goal.value_end-overflow_mul-result
value_end-overflow_mul-result t c =
    let x = array_within (rw c.in-Array.is at c.in-Some.ensures) _ _ c.from.ensures c.value_end-e.ensures c.requires in
    record { fits = omega (arith, x.1) }

pub value_end-overflow_add-result-in-Array-3 : goal.value_end-overflow_add-result-in-Array-3
value_end-overflow_add-result-in-Array-3 t c =
    let x = array_within (rw c.in-Array.is at c.in-Some.ensures) _ _ c.from.ensures c.value_end-e.ensures c.requires in
    record { fits = omega (arith, x.1) }

pub value_end-returns-in-Array : goal.value_end-returns-in-Array
value_end-returns-in-Array t c =
    λ u e w. (array_end (rw c.in-Array.is at c.in-Some.ensures) _ _ c.from.ensures c.value_end-e.ensures u e w).1

pub value_end-members_skip-requires : goal.value_end-members_skip-requires
value_end-members_skip-requires t c =
    let f = rw c.in-Struct.is at c.in-Some.ensures in (omega (arith, c.decreases, f.deep), members_having f c.requires)

pub value_end-returns-in-Struct : goal.value_end-returns-in-Struct
value_end-returns-in-Struct t c =
    struct_end (rw c.in-Struct.is at c.in-Some.ensures) c.members_skip.result c.members_skip.ensures
