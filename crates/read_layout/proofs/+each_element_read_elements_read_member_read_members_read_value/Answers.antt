-- `read_value` calls `read_elements` and `read_members` at a depth one less; `read_elements` calls `each_element`,
-- `read_members` calls `read_member`, and these two call `read_value`, each at its own depth d: 4d for `read_value`, 4d
-- + 1 for `read_member`, 4d + 2 for the loops, 4d + 3 for `read_elements`.
use native.Mathlib.Omega.{arith}
use Rattle.read_layout.proofs.Values.{value_stands, scalar_room, scalar_done, vector_room, vector_done}
use Rattle.read_layout.proofs.Values.{matrix_end, matrix_front, matrix_room, matrix_done, array_front_lem, array_end, array_deep}
use Rattle.read_layout.proofs.Values.{array_room, array_done}
use Rattle.read_layout.proofs.Values.{struct_front_lem, struct_end, struct_deep, struct_room, struct_within, struct_done}
use Rattle.read_layout.proofs.Values.{elements_stand, scalars_room, scalars_done, vectors_room}
use Rattle.read_layout.proofs.Values.{vectors_done}
use Rattle.read_layout.proofs.Parted.{elements_all, element_room, element_on}
use Rattle.read_layout.proofs.Parted.{elements_end}
use Rattle.read_layout.proofs.Parted.{members_all, member_index, member_within, member_room, member_on}
use Rattle.read_layout.proofs.Parted.{members_end}
use Rattle.read_layout.proofs.+each_element_read_elements_read_member_read_members_read_value.Goals as goal

pub each_element-loop-init : goal.each_element-loop-init
each_element-loop-init t c = (
  elements_all c.args.depth c.args.src.now.ty.now c.args.at.ty c.args.n c.args.pad c.args.src.now.pads.now
      c.args.src.now.bytes.now c.args.at.from c.args.w.now.out.now c.args.w.now.at c.args.at.ty,
  search,
)

pub each_element-read_value-all-requires : goal.each_element-read_value-all-requires
each_element-read_value-all-requires t c = (omega (arith, c.decreases), element_room c.requires c.loop.invariant.0 c.loop-test.true)

pub each_element-loop-preserved : goal.each_element-loop-preserved
each_element-loop-preserved t c =
    (element_on c.requires c.loop.invariant.0 c.loop-test.true c.read_value-all.ensures.moved c.from-skip.ensures, search)

pub each_element-returns-clause-moved : goal.each_element-returns-clause-moved
each_element-returns-clause-moved t c = elements_end c.requires c.loop.invariant.0 (omega arith)

pub read_elements-head_at-h-requires : goal.read_elements-head_at-h-requires
read_elements-head_at-h-requires t c = search elements_stand

pub read_elements-read_scalars-from-requires : goal.read_elements-read_scalars-from-requires
read_elements-read_scalars-from-requires t c = search scalars_room

pub read_elements-returns-in-Scalar-clause-moved : goal.read_elements-returns-in-Scalar-clause-moved
read_elements-returns-in-Scalar-clause-moved t c = search scalars_done

pub read_elements-read_columns-from-requires : goal.read_elements-read_columns-from-requires
read_elements-read_columns-from-requires t c = search vectors_room

pub read_elements-returns-in-Vector-clause-moved : goal.read_elements-returns-in-Vector-clause-moved
read_elements-returns-in-Vector-clause-moved t c = search vectors_done

pub read_member-head_at-h-requires : goal.read_member-head_at-h-requires
read_member-head_at-h-requires t c = search value_stands

pub read_member-read_scalars-from-requires : goal.read_member-read_scalars-from-requires
read_member-read_scalars-from-requires t c = search scalar_room

pub read_member-returns-in-Scalar-clause-moved : goal.read_member-returns-in-Scalar-clause-moved
read_member-returns-in-Scalar-clause-moved t c = search scalar_done

pub read_member-read_vector-from-requires : goal.read_member-read_vector-from-requires
read_member-read_vector-from-requires t c = search vector_room

pub read_member-returns-in-Vector-clause-moved : goal.read_member-returns-in-Vector-clause-moved
read_member-returns-in-Vector-clause-moved t c = search vector_done

pub read_members-loop-init : goal.read_members-loop-init
read_members-loop-init t c = (
  members_all c.args.depth c.args.src.now.ty.now c.args.at.ty c.args.n c.args.src.now.pads.now
      c.args.src.now.bytes.now c.args.at.from c.args.w.now.out.now c.args.w.now.at,
  search,
)

pub read_members-overflow_add-all : goal.read_members-overflow_add-all
read_members-overflow_add-all t c =
    omega (
      arith,
      member_index c.requires c.loop.invariant.0
          c.loop-test.true,
    )

pub read_members-bounds-src-all : goal.read_members-bounds-src-all
read_members-bounds-src-all t c =
    omega (
      arith,
      member_index c.requires c.loop.invariant.0
          c.loop-test.true,
    )

pub read_members-overflow_add-all-in-loop : goal.read_members-overflow_add-all-in-loop
read_members-overflow_add-all-in-loop t c =
    omega (
      arith,
      member_within c.requires
          c.loop.invariant.0 c.loop-test.true c.from.ensures,
    )

pub read_members-read_member-all-requires : goal.read_members-read_member-all-requires
read_members-read_member-all-requires t c = (omega (arith, c.decreases), member_room c.requires c.loop.invariant.0 c.loop-test.true c.from.ensures)

pub read_members-loop-preserved : goal.read_members-loop-preserved
read_members-loop-preserved t c =
    (member_on c.requires c.loop.invariant.0 c.loop-test.true c.from.ensures c.read_member-all.ensures.moved, search)

pub read_members-returns-clause-moved : goal.read_members-returns-clause-moved
read_members-returns-clause-moved t c = members_end c.requires c.loop.invariant.0 (omega arith)

pub read_value-head_at-requires : goal.read_value-head_at-requires
read_value-head_at-requires t c = search value_stands

pub read_value-read_scalars-requires : goal.read_value-read_scalars-requires
read_value-read_scalars-requires t c = search scalar_room

pub read_value-read_vector-requires : goal.read_value-read_vector-requires
read_value-read_vector-requires t c = search vector_room

pub read_value-put_four-requires : goal.read_value-put_four-requires
read_value-put_four-requires t c = search matrix_front

pub read_value-bounds-src-at : goal.read_value-bounds-src-at
read_value-bounds-src-at t c =
    omega (
      arith,
      matrix_end
          c.requires
          (search) c.in-Matrix.is,
    )

pub read_value-read_columns-requires : goal.read_value-read_columns-requires
read_value-read_columns-requires t c = search matrix_room

pub read_value-put_array-requires : goal.read_value-put_array-requires
read_value-put_array-requires t c = search array_front_lem

pub read_value-bounds-src-at-in-Array : goal.read_value-bounds-src-at-in-Array
read_value-bounds-src-at-in-Array t c =
    omega (
      arith,
      array_end
          c.requires (search)
          c.in-Array.is,
    )

pub read_value-overflow_sub-depth : goal.read_value-overflow_sub-depth
read_value-overflow_sub-depth t c = search array_deep

pub read_value-read_elements-requires : goal.read_value-read_elements-requires
read_value-read_elements-requires t c = (
  omega (
    arith,
    c.decreases,
    array_deep c.requires (search) c.in-Array.is,
  ),
  search array_room,
)

pub read_value-put_struct-requires : goal.read_value-put_struct-requires
read_value-put_struct-requires t c = search struct_front_lem

pub read_value-overflow_sub-depth-in-Struct : goal.read_value-overflow_sub-depth-in-Struct
read_value-overflow_sub-depth-in-Struct t c = search struct_deep

pub read_value-read_members-all-requires : goal.read_value-read_members-all-requires
read_value-read_members-all-requires t c = (
  omega (
    arith,
    c.decreases,
    struct_deep c.requires
        (search) c.in-Struct.is,
  ),
  search struct_room,
)

pub read_value-bounds-src-at-in-Struct : goal.read_value-bounds-src-at-in-Struct
read_value-bounds-src-at-in-Struct t c =
    omega (
      arith,
      struct_end
          c.requires (search)
          c.in-Struct.is,
    )

pub read_value-overflow_add-all : goal.read_value-overflow_add-all
read_value-overflow_add-all t c =
    omega (
      arith,
      struct_within
          c.requires (search)
          c.in-Struct.is (search)
          c.read_members-all.ensures.moved c.from-in-Struct.ensures,
    )

pub read_value-returns-in-Scalar-clause-moved : goal.read_value-returns-in-Scalar-clause-moved
read_value-returns-in-Scalar-clause-moved t c = search scalar_done

pub read_value-returns-in-Vector-clause-moved : goal.read_value-returns-in-Vector-clause-moved
read_value-returns-in-Vector-clause-moved t c = search vector_done

pub read_value-returns-in-Matrix-clause-moved : goal.read_value-returns-in-Matrix-clause-moved
read_value-returns-in-Matrix-clause-moved t c = search matrix_done

pub read_value-returns-in-Array-clause-moved : goal.read_value-returns-in-Array-clause-moved
read_value-returns-in-Array-clause-moved t c = search array_done

pub read_value-returns-in-Struct-clause-moved : goal.read_value-returns-in-Struct-clause-moved
read_value-returns-in-Struct-clause-moved t c = search struct_done
