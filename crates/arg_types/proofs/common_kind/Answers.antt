-- The kind so far, and what is left to be met.
use native.Mathlib.Omega.{arith}
use Rattle.shape.proofs.TypeRows.{types_standing, types_first, types_less, types_on, types_end, type_stands}
use Rattle.arg_types.proofs.KindsLeft.{parts_standing, parts_none, kind_start, kind_no_lem, kind_on, kind_end}
use Rattle.arg_types.proofs.common_kind.Goals as goal

pub component_kind-requires : goal.component_kind-requires
component_kind-requires c = parts_standing c.requires.kinds

pub returns-in_err-k : goal.returns-in_err-k
returns-in_err-k c = λ l j js x. absurd (parts_none x c.component_kind.ensures c.in_err-k.was)

pub end_of_type-i-requires : goal.end_of_type-i-requires
end_of_type-i-requires c = parts_standing c.requires.kinds

pub loop-i-init : goal.loop-i-init
loop-i-init c =
    λ l j js x. kind_start x c.component_kind.ensures c.in_ok-k.was
    c.end_of_type-i.ensures

pub meet_part-requires : goal.meet_part-requires
meet_part-requires c =
    types_standing (c.loop-i.invariant _ _ _ c.requires.kinds)
    c.loop-i-test.true

pub returns-in_err-k-2 : goal.returns-in_err-k-2
returns-in_err-k-2 c =
    λ l j js x. rw c.from_residual-in_err-k-2.ensures
    (types_first (c.loop-i.invariant l j js x) c.loop-i-test.true λ t m v q.
    kind_no_lem q (type_stands v) c.meet_part.ensures c.in_err-k-2.was)

pub end_of_type-i-requires-in-loop-i : goal.end_of_type-i-requires-in-loop-i
end_of_type-i-requires-in-loop-i c =
    types_standing (c.loop-i.invariant _ _ _
    c.requires.kinds)
    c.loop-i-test.true

pub loop-i-smaller : goal.loop-i-smaller
loop-i-smaller c =
    omega (
      arith,
      c.loop-i-test.true,
      types_less
          (c.loop-i.invariant _ _ _
          c.requires.kinds)
          c.loop-i-test.true c.end_of_type-i-in-loop-i.ensures,
    )

pub loop-i-preserved : goal.loop-i-preserved
loop-i-preserved c =
    λ l j js x. types_on (c.loop-i.invariant l j js x)
    c.loop-i-test.true c.end_of_type-i-in-loop-i.ensures λ t m w q.
    kind_on q w c.meet_part.ensures c.in_ok-k-2.was

pub returns : goal.returns
returns c = λ l j js x. kind_end (types_end (c.loop-i.invariant l j js x) c.loop-i-test.false)
