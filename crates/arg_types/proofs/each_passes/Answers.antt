-- What is left to look at decides: from i on there are types, and what is said of them is said of all.
use mathlib.Core.Bool.{true, false}
use native.Mathlib.Omega.{arith}
use Rattle.shape.proofs.TypeRows.{type_stands, types_first, types_standing, types_less, types_on, types_end}
use Rattle.arg_types.proofs.Passing.{pass_no, pass_on, pass_end}
use Rattle.arg_types.proofs.each_passes.Goals as goal

pub test-requires : goal.test-requires
test-requires g c = c.requires.tested _ (types_standing (c.loop-i.invariant c.requires.some_type_row.types c.requires.some_type_row.row) c.loop-i-test.true)

pub returns-then-not-test : goal.returns-then-not-test
returns-then-not-test g c =
    λ f l k x. types_first (c.loop-i.invariant l x) c.loop-i-test.true λ t m v q.
    q f k false (pass_no f 12 t m (k _ t _ _ (type_stands v) c.test.ensures)
    (c.if-not-test.true))

pub end_of_type-i-requires : goal.end_of_type-i-requires
end_of_type-i-requires g c =
    types_standing
    (c.loop-i.invariant c.requires.some_type_row.types c.requires.some_type_row.row) c.loop-i-test.true

pub loop-i-smaller : goal.loop-i-smaller
loop-i-smaller g c =
    omega (
      arith,
      c.loop-i-test.true,
      types_less
          (c.loop-i.invariant c.requires.some_type_row.types (search)) c.loop-i-test.true
          c.end_of_type-i.ensures,
    )

pub loop-i-preserved : goal.loop-i-preserved
loop-i-preserved g c =
    λ l x. types_on (c.loop-i.invariant l x) c.loop-i-test.true c.end_of_type-i.ensures
    λ t m w q. λ f k b p. q f k b (pass_on f 12 t m (k _ t _ _ w c.test.ensures)
    (c.if-not-test.false) b p)

pub returns : goal.returns
returns g c = λ f l k x. types_end (c.loop-i.invariant l x) c.loop-i-test.false f k true (pass_end f)
