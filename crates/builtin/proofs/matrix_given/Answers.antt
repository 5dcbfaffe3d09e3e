-- 11 without arguments.
use mathlib.Core.Path.{refl}
use native.Mathlib.Omega.{arith}
use Rattle.meaning.specs.Trees.{Qm}
use Rattle.meaning.specs.Build.{build}
use Rattle.error.proofs.BufferAtExit.{builds_no}
use Rattle.scalar.specs.Made.{given_one}
use Rattle.builtin.proofs.Counts.{builds_none, builds_one, builds_more}
use Rattle.builtin.proofs.matrix_given.Goals as goal

pub returns-then-args-eq0 : goal.returns-then-args-eq0
unfolding build
returns-then-args-eq0 c = λ s l g. builds_none (build s (Qm _ _)) l g c.if-args-eq0.true (builds_no _ _ refl)

pub invariant_of-qm_one : goal.invariant_of-qm_one
invariant_of-qm_one c = record { one = given_one c.args.args.given c.if-args-eq1.true }

pub returns-then-args-eq1 : goal.returns-then-args-eq1
unfolding build
returns-then-args-eq1 c =
    λ s l g. builds_one (build s (Qm _ _)) l g c.if-args-eq1.true
    (λ v w. c.qm_one.ensures v w)

pub qm_parts-requires : goal.qm_parts-requires
qm_parts-requires c = omega (arith, c.if-args-eq0.false)

pub returns : goal.returns
unfolding build
returns c =
    λ s l g. builds_more (build s (Qm _ _)) l g (omega (
      arith,
      c.if-args-eq0.false,
      c.if-args-eq1.false,
    )) (λ v u m x. c.qm_parts.ensures _ x.row (omega arith) x.count)
