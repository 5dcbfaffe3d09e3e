-- `float::largest` meets its contract. The value is its digits, all ones, and the places below them.
use native.Mathlib.Omega.{arith}
use Rattle.float.proofs.Ranges.{largest_is}
use Rattle.float.proofs.largest.Goals as goal

pub returns : goal.returns
returns c = largest_is c.args.p c.args.emax 1074 (omega (arith, c.requires.0))
