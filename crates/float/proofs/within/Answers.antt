-- `float::within` meets its contract. Each arm is the case of the definition for its number.
use mathlib.Core.Bool.{cond}
use Rattle.meaning.specs.Scalars as Scalars
use Rattle.float.specs.Taken.{size}
use Rattle.float.proofs.Ranges.{inside}
use Rattle.float.proofs.within.Goals as goal

pub returns-in-Nan : goal.returns-in-Nan
unfolding Scalars.within
returns-in-Nan c = rw c.in-Nan.is

pub returns-in-Inf : goal.returns-in-Inf
unfolding Scalars.within
returns-in-Inf c = rw c.in-Inf.is

pub returns-in-Fin : goal.returns-in-Fin
unfolding Scalars.within
returns-in-Fin c =
    rw c.in-Fin.is (inside (cond c.in-Fin.s c.args.range.low c.args.range.high) (size c.in-Fin.x) 1074 c.end.ensures
    (rw c.whole.ensures at c.beyond.ensures))
