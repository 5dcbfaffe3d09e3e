-- One argument goes through the constructor; more are refused.
use mathlib.Core.Path.{sym, ◌∙◌}
use native.Mathlib.Omega.{arith}
use Rattle.meaning.specs.Trees.{Of, Ts}
use Rattle.meaning.specs.Build.{build}
use Rattle.scalar.proofs.OneLiteral.{abstract_is}
use Rattle.error.proofs.BufferAtExit.{builds_no}
use Rattle.scalar.specs.Made.{given_one}
use Rattle.builtin.proofs.Counts.{builds_one, builds_more, more_abstract, more_concrete}
use Rattle.builtin.proofs.scalar_ctor.Goals as goal

pub invariant_of-scalar : goal.invariant_of-scalar
invariant_of-scalar c = record { one = given_one c.args.args.given c.if-args-eq1.true }

pub returns-then-args-eq1 : goal.returns-then-args-eq1
unfolding build
returns-then-args-eq1 c =
    λ s j e q l g. builds_one (build s (Of (Ts j))) l g c.if-args-eq1.true
    (λ v w. c.scalar.ensures s j v e q w)

pub returns-then-is_abstract : goal.returns-then-is_abstract
unfolding build
returns-then-is_abstract c =
    λ s j e q l g. builds_more (build s (Of (Ts j))) l g (omega
    (arith, c.requires, c.if-args-eq1.false))
    (λ v u m x. builds_no _ _ (more_abstract j (sym (abstract_is j q c.is_abstract.ensures) ∙ c.if-is_abstract.true) v _))

pub returns : goal.returns
unfolding build
returns c =
    λ s j e q l g. builds_more (build s (Of (Ts j))) l g (omega
    (arith, c.requires, c.if-args-eq1.false))
    (λ v u m x. builds_no _ _ (more_concrete j (sym (abstract_is j q c.is_abstract.ensures) ∙ c.if-is_abstract.false) v _))
