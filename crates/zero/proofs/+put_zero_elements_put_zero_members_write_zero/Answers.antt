-- `write_zero` calls `put_zero_elements` and `put_zero_members` at a depth one less, and both call it at their own
-- depth: 2d for `write_zero` and 2d + 1 for the others.
use mathlib.Core.Path.{sym, ◌∙◌}
use native.Mathlib.Omega.{arith}
use Rattle.record.proofs.Puts.{put_length}
use Rattle.zero.proofs.Zeros.{room_stands, scalar_zero_is, vector_zero_is, matrix_zero_is, whole_done, array_done, struct_done}
use Rattle.zero.proofs.Zeros.{scalar_room, vector_room, matrix_room, array_room, array_deep, array_parts, struct_room}
use Rattle.zero.proofs.Zeros.{struct_deep, struct_parts}
use Rattle.zero.proofs.Zeros.{each_first, each_room, each_on, each_end, all_first, all_room, all_on, all_end}
use Rattle.zero.proofs.+put_zero_elements_put_zero_members_write_zero.Goals as goal

pub put_zero_elements-loop-element-init : goal.put_zero_elements-loop-element-init
put_zero_elements-loop-element-init t c = (λ u e w. each_first u e c.args.n c.args.w.now.out.now c.args.w.now.at c.args.at, search)

pub put_zero_elements-write_zero-end-requires : goal.put_zero_elements-write_zero-end-requires
put_zero_elements-write_zero-end-requires t c = (
  omega (arith, c.decreases),
  each_room c.requires.stands (c.loop-element.invariant.0 c.requires.type c.requires.end c.requires.stands)
      c.loop-element-test.true c.requires.room,
)

pub put_zero_elements-loop-element-preserved : goal.put_zero_elements-loop-element-preserved
put_zero_elements-loop-element-preserved t c =
    (λ u e w. each_on w (c.loop-element.invariant.0 u e w) c.loop-element-test.true c.write_zero-end.ensures.zeroes, search)

pub put_zero_elements-returns-clause-zeroes : goal.put_zero_elements-returns-clause-zeroes
put_zero_elements-returns-clause-zeroes t c = λ u e w. each_end w (c.loop-element.invariant.0 u e w) c.requires.some (omega arith)

pub put_zero_members-loop-member-init : goal.put_zero_members-loop-member-init
put_zero_members-loop-member-init t c = (λ m e w. all_first c.args.w.now.out.now c.args.w.now.at w, search)

pub put_zero_members-write_zero-i-requires : goal.put_zero_members-write_zero-i-requires
put_zero_members-write_zero-i-requires t c = (
  omega (arith, c.decreases),
  all_room (c.loop-member.invariant.0 c.requires.types c.requires.end c.requires.stands)
      c.loop-member-test.true c.requires.room,
)

pub put_zero_members-loop-member-preserved : goal.put_zero_members-loop-member-preserved
put_zero_members-loop-member-preserved t c =
    (λ m e w. all_on (c.loop-member.invariant.0 m e w) c.loop-member-test.true c.write_zero-i.ensures.zeroes, search)

pub put_zero_members-returns-clause-zeroes : goal.put_zero_members-returns-clause-zeroes
put_zero_members-returns-clause-zeroes t c = λ m e w. all_end (c.loop-member.invariant.0 m e w) (omega arith)

pub write_zero-head_at-requires : goal.write_zero-head_at-requires
write_zero-head_at-requires t c = search room_stands

pub write_zero-put_zero-requires : goal.write_zero-put_zero-requires
write_zero-put_zero-requires t c = search scalar_room

pub write_zero-put_vector-requires : goal.write_zero-put_vector-requires
write_zero-put_vector-requires t c = search vector_room

pub write_zero-put_matrix-requires : goal.write_zero-put_matrix-requires
write_zero-put_matrix-requires t c = search matrix_room

pub write_zero-put_array-requires : goal.write_zero-put_array-requires
write_zero-put_array-requires t c = search array_room

pub write_zero-overflow_sub-depth : goal.write_zero-overflow_sub-depth
write_zero-overflow_sub-depth t c = search array_deep

pub write_zero-put_zero_elements-requires : goal.write_zero-put_zero_elements-requires
write_zero-put_zero_elements-requires t c = (
  omega (arith, array_deep c.requires c.head_at.ensures c.in-Array.is),
  array_parts c.requires c.head_at.ensures c.in-Array.is c.put_array.ensures.put
      (put_length c.put_array.ensures.put),
)

pub write_zero-put_struct-requires : goal.write_zero-put_struct-requires
write_zero-put_struct-requires t c = search struct_room

pub write_zero-overflow_sub-depth-in-Struct : goal.write_zero-overflow_sub-depth-in-Struct
write_zero-overflow_sub-depth-in-Struct t c = search struct_deep

pub write_zero-put_zero_members-requires : goal.write_zero-put_zero_members-requires
write_zero-put_zero_members-requires t c = (
  omega (arith, struct_deep c.requires c.head_at.ensures c.in-Struct.is),
  struct_parts c.requires c.head_at.ensures c.in-Struct.is c.put_struct.ensures.put
      (put_length c.put_struct.ensures.put),
)

pub write_zero-returns-in-Scalar-clause-zeroes : goal.write_zero-returns-in-Scalar-clause-zeroes
write_zero-returns-in-Scalar-clause-zeroes t c =
    λ u e w. whole_done w (scalar_zero_is w (sym c.in-Scalar.is
    ∙ c.head_at.ensures u e w)) c.put_zero.ensures.put

pub write_zero-returns-in-Vector-clause-zeroes : goal.write_zero-returns-in-Vector-clause-zeroes
write_zero-returns-in-Vector-clause-zeroes t c =
    λ u e w. whole_done w (vector_zero_is w (sym c.in-Vector.is
    ∙ c.head_at.ensures u e w)) c.put_vector.ensures.put

pub write_zero-returns-in-Matrix-clause-zeroes : goal.write_zero-returns-in-Matrix-clause-zeroes
write_zero-returns-in-Matrix-clause-zeroes t c =
    λ u e w. whole_done w (matrix_zero_is w (sym c.in-Matrix.is
    ∙ c.head_at.ensures u e w)) c.put_matrix.ensures.put

pub write_zero-returns-in-Array-clause-zeroes : goal.write_zero-returns-in-Array-clause-zeroes
write_zero-returns-in-Array-clause-zeroes t c =
    λ u e w. array_done w (sym c.in-Array.is ∙
    c.head_at.ensures u e w) c.put_array.ensures.put
    c.put_zero_elements.ensures.zeroes

pub write_zero-returns-in-Struct-clause-zeroes : goal.write_zero-returns-in-Struct-clause-zeroes
write_zero-returns-in-Struct-clause-zeroes t c =
    λ u e w. struct_done w (sym c.in-Struct.is
    ∙ c.head_at.ensures u e w) c.put_struct.ensures.put
    c.put_zero_members.ensures.zeroes
