-- What is added is the gap up to the next multiple; where that is past 64 bits nothing is put into the table.
use native.Mathlib.Omega.{arith}
use Rattle.layout.proofs.Extents.{rounds_over, rounds_is}
use Rattle.layout.proofs.rounded.Goals as goal

pub returns-in_err-size : goal.returns-in_err-size
returns-in_err-size c =
    rw c.from_residual.ensures
    (rounds_over c.args.x c.requires.0 c.gap-g.ensures.0 c.from.ensures (omega (arith, c.in_err-size.ensures)))

pub returns : goal.returns
returns c = rounds_is c.args.x c.requires.0 c.gap-g.ensures.0 c.from.ensures c.in_ok-size.ensures.1 c.in_ok-size.ensures.0
