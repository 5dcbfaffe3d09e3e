-- The members from the first one on that is past 64 bits, and the parts of the type that stands there.
use mathlib.Core.Path.{refl, ◌∙◌}
use native.Mathlib.Omega.{arith}
use lib.ListN.{length-set}
use Rattle.ty.proofs.Heads.{any_front}
use Rattle.layout.proofs.Parts.{array_deep, array_part, struct_deep, struct_parts}
use Rattle.layout.proofs.Extents.{is_past}
use Rattle.layout.proofs.Walks.{scalar_extended, vector_extended, matrix_past, matrix_extended}
use Rattle.layout.proofs.Walks.{array_too, array_rounded, array_extended, struct_too, struct_extended}
use Rattle.layout.proofs.Walks.{matrix_aligned, array_aligned, struct_aligned}
use Rattle.layout.proofs.Walks.{extent_all, extent_first, extent_front, extent_too, extent_align, extent_over}
use Rattle.layout.proofs.Walks.{extent_again, extent_none}
use Rattle.layout.proofs.+members_extent_walk_extent.Goals as goal

pub members_extent-loop-init : goal.members_extent-loop-init
members_extent-loop-init t c = (omega arith, omega arith, refl, λ m e w. extent_all (omega arith) w)

pub members_extent-walk_extent-requires : goal.members_extent-walk_extent-requires
members_extent-walk_extent-requires t c = (
  omega (arith, c.decreases),
  (
    extent_first (c.loop.invariant.3 _ _ c.requires.0.stands) (omega arith),
    omega (arith, c.loop.invariant.2, c.requires.1),
  ),
)

pub members_extent-returns-in_err-member : goal.members_extent-returns-in_err-member
members_extent-returns-in_err-member t c =
    rw c.from_residual.ensures (λ m e w. extent_too (c.loop.invariant.3 m e w) (omega arith) c.in_err-member.ensures)

pub members_extent-gap-g-requires : goal.members_extent-gap-g-requires
members_extent-gap-g-requires t c =
    extent_align (c.loop.invariant.3 _ _ c.requires.0.stands) (omega arith) c.in_ok-member.ensures

pub members_extent-bounds-pads-i : goal.members_extent-bounds-pads-i
members_extent-bounds-pads-i t c =
    omega (
      arith,
      extent_front (c.loop.invariant.3 _ _ c.requires.0.stands) (omega arith),
      c.walk_extent.auto.pads,
      c.loop.invariant.2,
      c.requires.1,
    )

pub members_extent-returns-in_err-end : goal.members_extent-returns-in_err-end
members_extent-returns-in_err-end t c =
    rw c.from_residual-in_err-end.ensures
    (λ m e w. extent_over (c.loop.invariant.3 m e w) (omega arith) c.in_ok-member.ensures c.gap-g.ensures.0 c.in_err-end.ensures)

pub members_extent-loop-preserved : goal.members_extent-loop-preserved
members_extent-loop-preserved t c =
    let y = is_past _ _ c.in_ok-end.ensures in (
      omega (arith, y.0, y.1),
      omega (arith, c.loop.invariant.1, c.max-most.ensures),
      simp length-set (c.walk_extent.auto.pads ∙ c.loop.invariant.2),
      λ m e w.
          extent_again (c.loop.invariant.3 m e w) (omega arith) c.in_ok-member.ensures c.gap-g.ensures.0
          c.in_ok-end.ensures
          c.max-most.ensures (omega arith) c.walk_extent.auto.pads c.loop.invariant.2 c.requires.1,
    )

pub members_extent-returns : goal.members_extent-returns
members_extent-returns t c =
    λ m e w. extent_none (c.loop.invariant.3 m e w) (omega arith) c.loop.invariant.0 c.loop.invariant.1

pub walk_extent-rounded-requires : goal.walk_extent-rounded-requires
walk_extent-rounded-requires t c = (
  matrix_aligned c.requires.0 c.in-Matrix.ensures c.vector_extent-in-Matrix.ensures,
  omega (arith, any_front c.requires.0.stands, c.requires.1),
)

pub walk_extent-returns-in_err-column-in-Matrix : goal.walk_extent-returns-in_err-column-in-Matrix
walk_extent-returns-in_err-column-in-Matrix t c =
    rw c.from_residual.ensures
    (matrix_past c.in-Matrix.ensures c.vector_extent-in-Matrix.ensures c.in_err-column-in-Matrix.ensures)

pub walk_extent-overflow_sub-depth : goal.walk_extent-overflow_sub-depth
walk_extent-overflow_sub-depth t c = array_deep c.requires.0 c.in-Array.ensures

pub walk_extent-walk_extent-requires : goal.walk_extent-walk_extent-requires
walk_extent-walk_extent-requires t c = (
  omega (arith, c.decreases, array_deep c.requires.0 c.in-Array.ensures),
  (array_part c.requires.0 c.in-Array.ensures, c.requires.1),
)

pub walk_extent-returns-in_err-part-in-Array : goal.walk_extent-returns-in_err-part-in-Array
walk_extent-returns-in_err-part-in-Array t c =
    rw c.from_residual-in_err-part-in-Array.ensures (array_too c.in-Array.ensures c.in_err-part-in-Array.ensures)

pub walk_extent-rounded-requires-in-Array : goal.walk_extent-rounded-requires-in-Array
walk_extent-rounded-requires-in-Array t c = (
  array_aligned c.requires.0 c.in-Array.ensures c.in_ok-part-in-Array.ensures,
  omega (arith, any_front c.requires.0.stands, c.requires.1, c.walk_extent.auto.pads),
)

pub walk_extent-returns-in_err-element-in-Array : goal.walk_extent-returns-in_err-element-in-Array
walk_extent-returns-in_err-element-in-Array t c =
    rw c.from_residual-in_err-element-in-Array.ensures
    (array_rounded c.in-Array.ensures c.in_ok-part-in-Array.ensures c.in_err-element-in-Array.ensures)

pub walk_extent-overflow_sub-depth-in-Struct : goal.walk_extent-overflow_sub-depth-in-Struct
walk_extent-overflow_sub-depth-in-Struct t c = struct_deep c.requires.0 c.in-Struct.ensures

pub walk_extent-members_extent-requires : goal.walk_extent-members_extent-requires
walk_extent-members_extent-requires t c = (
  omega (arith, c.decreases, struct_deep c.requires.0 c.in-Struct.ensures),
  (struct_parts c.requires.0 c.in-Struct.ensures, c.requires.1),
)

pub walk_extent-returns-in_err-members-in-Struct : goal.walk_extent-returns-in_err-members-in-Struct
walk_extent-returns-in_err-members-in-Struct t c =
    rw c.from_residual-in_err-members-in-Struct.ensures
    (struct_too c.in-Struct.ensures c.in_err-members-in-Struct.ensures)

pub walk_extent-rounded-requires-in-Struct : goal.walk_extent-rounded-requires-in-Struct
walk_extent-rounded-requires-in-Struct t c = (
  struct_aligned c.requires.0 c.in-Struct.ensures c.in_ok-members-in-Struct.ensures,
  omega (arith, any_front c.requires.0.stands, c.requires.1, c.members_extent.auto.pads),
)

pub walk_extent-returns-in-Scalar : goal.walk_extent-returns-in-Scalar
walk_extent-returns-in-Scalar t c = scalar_extended c.in-Scalar.ensures c.scalar_extent.ensures

pub walk_extent-returns-in-Vector : goal.walk_extent-returns-in-Vector
walk_extent-returns-in-Vector t c = vector_extended c.in-Vector.ensures c.vector_extent.ensures

pub walk_extent-returns-in_ok-column-in-Matrix : goal.walk_extent-returns-in_ok-column-in-Matrix
walk_extent-returns-in_ok-column-in-Matrix t c =
    matrix_extended c.in-Matrix.ensures c.vector_extent-in-Matrix.ensures c.requires.1 c.in_ok-column-in-Matrix.ensures
    c.from.ensures c.times.ensures

pub walk_extent-returns-in_ok-element-in-Array : goal.walk_extent-returns-in_ok-element-in-Array
walk_extent-returns-in_ok-element-in-Array t c =
    array_extended c.in-Array.ensures c.in_ok-part-in-Array.ensures
    (omega (arith, c.requires.1, c.walk_extent.auto.pads))
    c.in_ok-element-in-Array.ensures c.times-in-Array.ensures

pub walk_extent-returns-in_ok-members-in-Struct : goal.walk_extent-returns-in_ok-members-in-Struct
walk_extent-returns-in_ok-members-in-Struct t c =
    struct_extended c.in-Struct.ensures c.in_ok-members-in-Struct.ensures
    (omega (arith, c.requires.1, c.members_extent.auto.pads)) c.rounded-in-Struct.ensures
