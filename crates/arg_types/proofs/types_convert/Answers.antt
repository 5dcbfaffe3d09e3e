-- What is left to look at decides.
use native.Mathlib.Omega.{arith}
use Rattle.meaning.specs.Convert.{converts}
use Rattle.meaning.specs.Records.{every}
use Rattle.shape.proofs.TypeRows.{types_standing, types_less, types_ends, types_next, types_on, types_end}
use Rattle.arg_types.proofs.Passing.{every_no, every_on}
use Rattle.arg_types.proofs.types_convert.Goals as goal

pub end_of_type-e-requires : goal.end_of_type-e-requires
unfolding every
end_of_type-e-requires c =
    types_standing
    (c.loop-i.invariant c.requires.some_type_row.types c.requires.ends.type c.requires.some_type_row.row
    c.requires.ends.stands) c.loop-i-test.true

pub converts_at-requires-clause-ends : goal.converts_at-requires-clause-ends
unfolding every
converts_at-requires-clause-ends c =
    types_ends (c.loop-i.invariant c.requires.some_type_row.types c.requires.ends.type c.requires.some_type_row.row c.requires.ends.stands) c.loop-i-test.true
    c.end_of_type-e.ensures

pub returns-then-not-converts_at : goal.returns-then-not-converts_at
unfolding every
returns-then-not-converts_at c =
    λ l t x w. types_next (c.loop-i.invariant l t x w) c.loop-i-test.true
    c.end_of_type-e.ensures λ u m v q.
    every_no (λ a. converts a t) u m q (c.converts_at.ensures u t v w)
    (c.if-not-converts_at.true)

pub loop-i-smaller : goal.loop-i-smaller
unfolding every
loop-i-smaller c =
    omega (
      arith,
      c.loop-i-test.true,
      types_less
          (c.loop-i.invariant c.requires.some_type_row.types c.requires.ends.type (search) (search)) c.loop-i-test.true
          c.end_of_type-e.ensures,
    )

pub loop-i-preserved : goal.loop-i-preserved
unfolding every
loop-i-preserved c =
    λ l t x w. types_on (c.loop-i.invariant l t x w) c.loop-i-test.true
    c.end_of_type-e.ensures λ u m v q.
    every_on (λ a. converts a t) u m q (c.converts_at.ensures u t v w)
    (c.if-not-converts_at.false)

pub returns : goal.returns
unfolding every
returns c = λ l t x w. types_end (c.loop-i.invariant l t x w) c.loop-i-test.false
