-- The type so far and what is left come to the whole.
use mathlib.Core.Path.{refl, ◌∙◌}
use native.Mathlib.Omega.{arith}
use Rattle.shape.proofs.Places.{cut_whole}
use Rattle.shape.proofs.TypeRows.{types_standing, types_short, types_ends, types_next, types_less, types_on, types_end}
use Rattle.common_type.proofs.SoFar.{so_on, so_never, so_end}
use Rattle.common_type.proofs.common_types_from.Goals as goal

pub end_of_type-e-requires : goal.end_of_type-e-requires
end_of_type-e-requires c =
    types_standing
    (c.loop-at.invariant.1 _ _ c.requires.rest.row c.requires.so_far.stands) c.loop-at-test.true

pub slice_bounds-meet-count : goal.slice_bounds-meet-count
slice_bounds-meet-count c =
    omega (
      arith,
      types_less (c.loop-at.invariant.1 _ _ c.requires.rest.row c.requires.so_far.stands)
          c.loop-at-test.true c.end_of_type-e.ensures,
    )

pub slice_bounds-meet-start : goal.slice_bounds-meet-start
slice_bounds-meet-start c =
    omega (
      arith,
      types_less (c.loop-at.invariant.1 _ _ c.requires.rest.row c.requires.so_far.stands)
          c.loop-at-test.true c.end_of_type-e.ensures,
    )

pub slice_bounds-meet-end : goal.slice_bounds-meet-end
slice_bounds-meet-end c =
    (types_ends (c.loop-at.invariant.1 _ _ c.requires.rest.row c.requires.so_far.stands) c.loop-at-test.true
    c.end_of_type-e.ensures).stands.within

pub invariant_of-meet : goal.invariant_of-meet
invariant_of-meet c =
    let g = c.loop-at.invariant.1 _ _ c.requires.rest.row c.requires.so_far.stands in
    let w = cut_whole (types_ends g c.loop-at-test.true c.end_of_type-e.ensures).stands (omega arith) in
    record { one = record { type = _; stands = w } }

pub meet-requires : goal.meet-requires
meet-requires c =
    let g = c.loop-at.invariant.1 _ _ c.requires.rest.row c.requires.so_far.stands in
    let w = cut_whole (types_ends g c.loop-at-test.true c.end_of_type-e.ensures).stands (omega arith) in
    record {
      so_far = record { type = g.so.type; stands = g.so.stands };
      room = omega
          (arith, w.size, (types_ends g c.loop-at-test.true c.end_of_type-e.ensures).stands.size, types_short g c.loop-at-test.true c.end_of_type-e.ensures, c.loop-at.invariant.0, c.requires.room);
    }

pub returns-in_err-end : goal.returns-in_err-end
returns-in_err-end c =
    λ l t w v. rw c.from_residual.ensures (types_next (c.loop-at.invariant.1 l t w v) (search) (search)
    λ u k x q.
    so_never q refl (cut_whole x (omega arith)) c.meet.result c.meet.new.ty c.meet.ensures c.in_err-end.was)

pub loop-at-smaller : goal.loop-at-smaller
loop-at-smaller c =
    omega (
      arith,
      c.loop-at-test.true,
      types_less (c.loop-at.invariant.1 _ _
          c.requires.rest.row c.requires.so_far.stands) c.loop-at-test.true c.end_of_type-e.ensures,
    )

pub loop-at-preserved : goal.loop-at-preserved
loop-at-preserved c = (
  c.meet.auto.ty ∙ c.loop-at.invariant.0,
  λ l t w v.
      types_on (c.loop-at.invariant.1 l t w v) (search) (search) λ u k x q.
      so_on q refl (cut_whole x (omega arith)) c.meet.result c.meet.new.ty c.meet.ensures c.in_ok-end.was,
)

pub returns : goal.returns
returns c = λ l t w v. so_end (types_end (c.loop-at.invariant.1 l t w v) c.loop-at-test.false) refl
