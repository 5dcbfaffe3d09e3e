-- `float::rounds_finite_by` meets its contract. Each arm is the law for its number; the limit is the threshold.
use mathlib.Core.Path.{◌∙◌}
use Rattle.float.specs.Taken.{size}
use Rattle.float.proofs.Ranges.{nan_not, inf_not, fin_below}
use Rattle.float.proofs.rounds_finite_by.Goals as goal

pub returns-in-Nan : goal.returns-in-Nan
returns-in-Nan c = rw c.in-Nan.is (nan_not c.requires.format c.requires.least.0 c.requires.least.1)

pub returns-in-Inf : goal.returns-in-Inf
returns-in-Inf c = rw c.in-Inf.is (inf_not c.requires.format c.requires.least.0 c.requires.least.1 c.in-Inf.field-0)

pub returns-in-Fin : goal.returns-in-Fin
returns-in-Fin c =
    rw c.in-Fin.is (rw c.threshold.ensures at c.beyond.ensures
    ∙ fin_below c.requires.format c.requires.least.0 c.requires.least.1 c.in-Fin.field-0 (size c.in-Fin.x))
