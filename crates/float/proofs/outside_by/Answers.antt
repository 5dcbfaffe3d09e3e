-- `float::outside_by` meets its contract. Each arm is the case of the definition for its number.
use Rattle.meaning.specs.Floats as Floats
use Rattle.float.proofs.outside_by.Goals as goal

pub returns-in-Nan : goal.returns-in-Nan
unfolding Floats.outside
returns-in-Nan c = rw c.in-Nan.is

pub returns-in-Inf : goal.returns-in-Inf
unfolding Floats.outside
returns-in-Inf c = rw c.in-Inf.is

pub returns-in-Fin : goal.returns-in-Fin
unfolding Floats.outside
returns-in-Fin c = rw c.in-Fin.is (rw c.largest.ensures at c.beyond.ensures)
