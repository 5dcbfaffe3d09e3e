-- 11 without arguments.
use mathlib.Core.Path.{refl}
use native.Mathlib.Omega.{arith}
use Rattle.meaning.specs.Trees.{Qa}
use Rattle.meaning.specs.Build.{build}
use Rattle.error.proofs.BufferAtExit.{builds_no, builds_as}
use Rattle.builtin.proofs.Counts.{builds_none, qa_build}
use Rattle.builtin.proofs.array_given.Goals as goal

pub returns-then-args-eq0 : goal.returns-then-args-eq0
unfolding build
returns-then-args-eq0 c = λ s l g. builds_none (build s Qa) l g c.if-args-eq0.true (builds_no _ _ refl)

pub returns : goal.returns
unfolding build
returns c =
    λ s l g. builds_as _ (qa_build s l g.count (omega (arith, c.if-args-eq0.false)))
    (c.qa_of.ensures l g)
