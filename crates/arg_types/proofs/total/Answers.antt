-- The sum so far, and what is left to be added.
use native.Mathlib.Omega.{arith}
use Rattle.shape.proofs.TypeRows.{types_standing, types_less, types_on, types_end}
use Rattle.arg_types.proofs.Components.{adds_on, adds_end}
use Rattle.arg_types.proofs.total.Goals as goal

pub component_count-requires : goal.component_count-requires
component_count-requires c = types_standing (c.loop-i.invariant c.requires.types c.requires.row) c.loop-i-test.true

pub end_of_type-i-requires : goal.end_of_type-i-requires
end_of_type-i-requires c =
    types_standing (c.loop-i.invariant c.requires.types c.requires.row)
    c.loop-i-test.true

pub loop-i-smaller : goal.loop-i-smaller
loop-i-smaller c =
    omega (
      arith,
      c.loop-i-test.true,
      types_less (c.loop-i.invariant c.requires.types c.requires.row)
          c.loop-i-test.true c.end_of_type-i.ensures,
    )

pub loop-i-preserved : goal.loop-i-preserved
loop-i-preserved c =
    λ l x. types_on (c.loop-i.invariant l x) c.loop-i-test.true c.end_of_type-i.ensures λ t m w q.
    adds_on m w q (c.component_count.ensures t _ w)

pub returns : goal.returns
returns c = λ l x. adds_end (types_end (c.loop-i.invariant l x) c.loop-i-test.false)
