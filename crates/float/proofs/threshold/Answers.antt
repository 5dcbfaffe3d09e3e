-- `float::threshold` meets its contract. It is that of the laws on rounding.
use native.Mathlib.Omega.{arith}
use Rattle.float.proofs.Ranges.{threshold_is}
use Rattle.float.proofs.threshold.Goals as goal

pub returns : goal.returns
returns c = threshold_is c.args.p c.args.emax (omega (arith, c.requires))
