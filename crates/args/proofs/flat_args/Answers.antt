-- As many as were read stand before i.
use native.Mathlib.Omega.{arith}
use Rattle.args.proofs.Rest.{flat_left}
use Rattle.args.proofs.flat_args.Goals as goal

pub loop-i-preserved : goal.loop-i-preserved
loop-i-preserved c = flat_left c.loop-i.invariant (grind arith) (grind arith) c.in-Some.ensures
