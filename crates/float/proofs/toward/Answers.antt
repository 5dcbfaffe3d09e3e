-- `float::toward` meets its contract. Each arm is the case of the definition for its number.
use mathlib.Core.Path.{ap, ◌∙◌}
use Prim.Native.Nat.{◌/◌, ◌^◌, min}
use Rattle.meaning.specs.Scalars as Scalars
use Rattle.float.specs.Taken.{size}
use Rattle.float.proofs.toward.Goals as goal

pub returns-in-Nan-clause-value : goal.returns-in-Nan-clause-value
unfolding Scalars.toward
returns-in-Nan-clause-value c = rw c.in-Nan.is

pub returns-in-Inf-clause-value : goal.returns-in-Inf-clause-value
unfolding Scalars.toward
returns-in-Inf-clause-value c = rw c.in-Inf.is (c.wrap.ensures.value ∙ ap (Scalars.wrap c.in-Inf.s) c.end.ensures)

pub returns-in-Fin-clause-value : goal.returns-in-Fin-clause-value
unfolding Scalars.toward
returns-in-Fin-clause-value c =
    rw c.in-Fin.is (c.wrap-in-Fin.ensures.value ∙ ap (Scalars.wrap c.in-Fin.s)
    (c.cut.ensures ∙ ap (min (size c.in-Fin.x / 2 ^ 1074)) c.end-in-Fin.ensures))
