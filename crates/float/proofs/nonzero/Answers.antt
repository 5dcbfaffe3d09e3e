-- `float::nonzero` meets its contract. Each arm is the case of the definition for its number.
use Rattle.meaning.specs.Scalars as Scalars
use Rattle.float.proofs.Ranges.{positive}
use Rattle.float.proofs.nonzero.Goals as goal

pub returns-in-Nan : goal.returns-in-Nan
unfolding Scalars.nonzero
returns-in-Nan c = rw c.in-Nan.is

pub returns-in-Inf : goal.returns-in-Inf
unfolding Scalars.nonzero
returns-in-Inf c = rw c.in-Inf.is

pub returns-in-Fin : goal.returns-in-Fin
unfolding Scalars.nonzero
returns-in-Fin c = rw c.in-Fin.is (positive c.in-Fin.x.significand c.in-Fin.x.exponent)
