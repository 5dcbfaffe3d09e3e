-- `write_value` calls `write_elements` and `write_members` at a depth one less; `write_elements` calls `each_element`,
-- `write_members` calls `write_member`, and these two call `write_value`, each at its own depth d: 4d for
-- `write_value`, 4d + 1 for `write_member`, 4d + 2 for the loops, 4d + 3 for `write_elements`.
use native.Mathlib.Omega.{arith}
use Rattle.write_layout.proofs.Walks.{each_all, each_room, each_pad, each_on, each_end, all_all, all_here, all_pad}
use Rattle.write_layout.proofs.Walks.{all_room, all_on, all_end}
use Rattle.write_layout.proofs.Arms.{value_stands, table_here, scalar_room, vector_room}
use Rattle.write_layout.proofs.Arms.{matrix_room}
use Rattle.write_layout.proofs.Arms.{array_deep, array_room, struct_deep}
use Rattle.write_layout.proofs.Arms.{struct_room, struct_pad}
use Rattle.write_layout.proofs.Arms.{scalar_done, vector_done, matrix_done, array_done, struct_done, elements_stand, scalars_room}
use Rattle.write_layout.proofs.Arms.{vectors_room, scalars_done, vectors_done}
use Rattle.write_layout.proofs.+each_element_write_elements_write_member_write_members_write_value.Goals as goal

pub each_element-loop-init : goal.each_element-loop-init
each_element-loop-init t c = (λ q e u l x. each_all x c.args.w.now.out.now c.args.w.now.at, search)

pub each_element-write_value-all-requires : goal.each_element-write_value-all-requires
each_element-write_value-all-requires t c = (
  omega (arith, c.decreases),
  each_room c.requires.are
      (c.loop.invariant.0 c.requires.ty_end c.requires.end c.requires.type c.requires.values c.requires.are) c.loop-test.true c.requires.room,
)

pub each_element-put_zeros-requires : goal.each_element-put_zeros-requires
each_element-put_zeros-requires t c =
    each_pad c.requires.are (c.loop.invariant.0 c.requires.ty_end c.requires.end c.requires.type c.requires.values c.requires.are)
    c.loop-test.true c.write_value-all.ensures.moved
    c.requires.room

pub each_element-loop-preserved : goal.each_element-loop-preserved
each_element-loop-preserved t c =
    (λ q e u l x. each_on x (c.loop.invariant.0 q e u l x) c.loop-test.true c.write_value-all.ensures.moved c.put_zeros.ensures.put, search)

pub each_element-returns-clause-moved : goal.each_element-returns-clause-moved
each_element-returns-clause-moved t c = λ q e u l x. each_end x (c.loop.invariant.0 q e u l x) (omega arith)

pub write_elements-head_at-h-requires : goal.write_elements-head_at-h-requires
write_elements-head_at-h-requires t c = search elements_stand

pub write_elements-write_literals-from-requires : goal.write_elements-write_literals-from-requires
write_elements-write_literals-from-requires t c = search scalars_room

pub write_elements-returns-in-Scalar-clause-moved : goal.write_elements-returns-in-Scalar-clause-moved
write_elements-returns-in-Scalar-clause-moved t c =
    λ q e u l x. scalars_done x c.head_at-h.ensures (search)
    c.write_literals-from.ensures.moved

pub write_elements-write_columns-from-requires : goal.write_elements-write_columns-from-requires
write_elements-write_columns-from-requires t c = search vectors_room

pub write_elements-returns-in-Vector-clause-moved : goal.write_elements-returns-in-Vector-clause-moved
write_elements-returns-in-Vector-clause-moved t c =
    λ q e u l x. vectors_done x c.head_at-h.ensures (search)
    c.write_columns-from.ensures.moved

pub write_member-head_at-h-requires : goal.write_member-head_at-h-requires
write_member-head_at-h-requires t c = search value_stands

pub write_member-write_literals-from-requires : goal.write_member-write_literals-from-requires
write_member-write_literals-from-requires t c = search scalar_room

pub write_member-returns-in-Scalar-clause-moved : goal.write_member-returns-in-Scalar-clause-moved
write_member-returns-in-Scalar-clause-moved t c =
    λ q e v x. scalar_done x c.head_at-h.ensures (search)
    c.write_literals-from.ensures.moved

pub write_member-write_literals-from-requires-in-Vector : goal.write_member-write_literals-from-requires-in-Vector
write_member-write_literals-from-requires-in-Vector t c = search vector_room

pub write_member-returns-in-Vector-clause-moved : goal.write_member-returns-in-Vector-clause-moved
write_member-returns-in-Vector-clause-moved t c =
    λ q e v x. vector_done x c.head_at-h.ensures
    c.in-Vector.is (search) c.write_literals-from-in-Vector.ensures.moved

pub write_members-loop-init : goal.write_members-loop-init
write_members-loop-init t c = (λ q e off l x. all_all c.args.w.now.out.now c.args.w.now.at x, search)

pub write_members-overflow_add-all : goal.write_members-overflow_add-all
write_members-overflow_add-all t c =
    omega
    (arith, all_here (c.loop.invariant.0 c.requires.ty_end c.requires.end c.requires.off c.requires.values c.requires.are) c.loop-test.true)

pub write_members-bounds-src-all : goal.write_members-bounds-src-all
write_members-bounds-src-all t c =
    all_here
    (c.loop.invariant.0 c.requires.ty_end c.requires.end c.requires.off c.requires.values c.requires.are) c.loop-test.true

pub write_members-put_zeros-requires : goal.write_members-put_zeros-requires
write_members-put_zeros-requires t c = all_pad (c.loop.invariant.0 c.requires.ty_end c.requires.end c.requires.off c.requires.values c.requires.are) c.loop-test.true c.requires.room

pub write_members-write_member-all-requires : goal.write_members-write_member-all-requires
write_members-write_member-all-requires t c = (
  omega (arith, c.decreases),
  all_room
      (c.loop.invariant.0 c.requires.ty_end c.requires.end c.requires.off c.requires.values c.requires.are) c.loop-test.true
      c.put_zeros.ensures.put c.requires.room,
)

pub write_members-loop-preserved : goal.write_members-loop-preserved
write_members-loop-preserved t c =
    (λ q e off l x. all_on (c.loop.invariant.0 q e off l x) c.loop-test.true c.put_zeros.ensures.put c.write_member-all.ensures.moved, search)

pub write_members-returns-clause-moved : goal.write_members-returns-clause-moved
write_members-returns-clause-moved t c = λ q e off l x. all_end (c.loop.invariant.0 q e off l x) (omega arith)

pub write_value-head_at-requires : goal.write_value-head_at-requires
write_value-head_at-requires t c = search value_stands

pub write_value-write_literals-requires : goal.write_value-write_literals-requires
write_value-write_literals-requires t c = search scalar_room

pub write_value-write_literals-requires-in-Vector : goal.write_value-write_literals-requires-in-Vector
write_value-write_literals-requires-in-Vector t c = search vector_room

pub write_value-bounds-src-at : goal.write_value-bounds-src-at
write_value-bounds-src-at t c = search table_here

pub write_value-write_columns-requires : goal.write_value-write_columns-requires
write_value-write_columns-requires t c = search matrix_room

pub write_value-bounds-src-at-in-Array : goal.write_value-bounds-src-at-in-Array
write_value-bounds-src-at-in-Array t c = search table_here

pub write_value-overflow_sub-depth : goal.write_value-overflow_sub-depth
write_value-overflow_sub-depth t c = search array_deep

pub write_value-write_elements-requires : goal.write_value-write_elements-requires
write_value-write_elements-requires t c = (omega (arith, c.decreases, array_deep c.requires c.head_at.ensures c.in-Array.is), array_room c.requires c.head_at.ensures c.in-Array.is)

pub write_value-overflow_sub-depth-in-Struct : goal.write_value-overflow_sub-depth-in-Struct
write_value-overflow_sub-depth-in-Struct t c = search struct_deep

pub write_value-write_members-all-requires : goal.write_value-write_members-all-requires
write_value-write_members-all-requires t c = (omega (arith, c.decreases, struct_deep c.requires c.head_at.ensures c.in-Struct.is), struct_room c.requires c.head_at.ensures c.in-Struct.is)

pub write_value-bounds-src-at-in-Struct : goal.write_value-bounds-src-at-in-Struct
write_value-bounds-src-at-in-Struct t c = search table_here

pub write_value-put_zeros-requires : goal.write_value-put_zeros-requires
write_value-put_zeros-requires t c = search struct_pad

pub write_value-returns-in-Scalar-clause-moved : goal.write_value-returns-in-Scalar-clause-moved
write_value-returns-in-Scalar-clause-moved t c =
    λ q e v x. scalar_done x c.head_at.ensures (search)
    c.write_literals.ensures.moved

pub write_value-returns-in-Vector-clause-moved : goal.write_value-returns-in-Vector-clause-moved
write_value-returns-in-Vector-clause-moved t c =
    λ q e v x. vector_done x c.head_at.ensures
    c.in-Vector.is (search) c.write_literals-in-Vector.ensures.moved

pub write_value-returns-in-Matrix-clause-moved : goal.write_value-returns-in-Matrix-clause-moved
write_value-returns-in-Matrix-clause-moved t c =
    λ q e v x. matrix_done x c.head_at.ensures
    c.in-Matrix.is (search) c.write_columns.ensures.moved

pub write_value-returns-in-Array-clause-moved : goal.write_value-returns-in-Array-clause-moved
write_value-returns-in-Array-clause-moved t c =
    λ q e v x. array_done x c.head_at.ensures (search)
    c.write_elements.ensures.moved

pub write_value-returns-in-Struct-clause-moved : goal.write_value-returns-in-Struct-clause-moved
write_value-returns-in-Struct-clause-moved t c =
    λ q e v x. struct_done x
    c.head_at.ensures
    c.in-Struct.is
    c.write_members-all.ensures.moved c.put_zeros.ensures.put
