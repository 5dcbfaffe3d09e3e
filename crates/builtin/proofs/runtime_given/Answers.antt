-- 4 without arguments.
use mathlib.Core.Path.{refl}
use native.Mathlib.Omega.{arith}
use Rattle.meaning.specs.Trees.{Tr}
use Rattle.meaning.specs.Build.{build}
use Rattle.error.proofs.BufferAtExit.{builds_no, builds_as}
use Rattle.builtin.proofs.Counts.{builds_none, runtime_build}
use Rattle.builtin.proofs.runtime_given.Goals as goal

pub returns-then-args-eq0 : goal.returns-then-args-eq0
unfolding build
returns-then-args-eq0 c = λ s t w l g. builds_none (build s (Tr t)) l g c.if-args-eq0.true (builds_no _ _ refl)

pub returns : goal.returns
unfolding build
returns c =
    λ s t w l g. builds_as _ (runtime_build s t l g.count (omega (arith, c.if-args-eq0.false)))
    (c.runtime_of.ensures t l w g)
