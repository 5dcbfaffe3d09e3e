-- Where the first of those that are left end, the first of all do.
use native.Mathlib.Omega.{arith}
use Rattle.columns.proofs.Columns.{skip_arg, skip_on, skip_end}
use Rattle.columns.proofs.skip.Goals as goal

pub next_arg-e-requires : goal.next_arg-e-requires
next_arg-e-requires c =
    skip_arg (c.loop.invariant c.requires.values c.requires.row c.requires.enough)
    c.loop-test.true

pub loop-preserved : goal.loop-preserved
loop-preserved c = λ l w h. skip_on (c.loop.invariant l w h) c.loop-test.true c.next_arg-e.ensures

pub returns : goal.returns
returns c = λ l w h. skip_end (c.loop.invariant l w h) (omega arith)
