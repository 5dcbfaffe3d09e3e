-- What is left to look at decides.
use mathlib.Core.Path.{ap, ◌∙◌}
use native.Mathlib.Omega.{arith}
use Rattle.conv.proofs.Walk.{next_item}
use Rattle.error.proofs.Refusals.{passed_on}
use Rattle.scalar.specs.Made.{number_in}
use Rattle.scalar.proofs.MadeLeft.{decide_no, decide_on, decide_less, decide_end}
use Rattle.scalar.proofs.all_made.Goals as goal

pub item_made-requires : goal.item_made-requires
item_made-requires c = next_item (c.loop-i.invariant c.requires.items c.requires.stands) c.loop-i-test.true

pub returns-in_err-i : goal.returns-in_err-i
returns-in_err-i c =
    λ s j l x w. ap number_in (passed_on c.from_residual.result c.from_residual.ensures.1)
    ∙ decide_no l (c.loop-i.invariant l w) c.loop-i-test.true c.item_made.ensures c.in_err-i.was s j x

pub loop-i-smaller : goal.loop-i-smaller
loop-i-smaller c =
    omega (
      arith,
      c.loop-i-test.true,
      decide_less c.requires.items (c.loop-i.invariant c.requires.items (search)) c.loop-i-test.true
          c.item_made.ensures c.in_ok-i.was,
    )

pub loop-i-preserved : goal.loop-i-preserved
loop-i-preserved c = λ l w. decide_on l (c.loop-i.invariant l w) c.loop-i-test.true c.item_made.ensures c.in_ok-i.was

pub returns : goal.returns
returns c = λ s j l x w. decide_end l (c.loop-i.invariant l w) c.loop-i-test.false s j x
