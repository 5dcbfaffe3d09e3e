-- One argument, or several that are flattened.
use native.Mathlib.Omega.{arith}
use Rattle.meaning.specs.Trees.{Of, Tv}
use Rattle.meaning.specs.Build.{build, build_one, build_more}
use Rattle.scalar.specs.Made.{given_one}
use Rattle.builtin.proofs.Counts.{builds_one, builds_more}
use Rattle.builtin.proofs.vec_ctor.Goals as goal

pub invariant_of-vec_one : goal.invariant_of-vec_one
invariant_of-vec_one c = record { one = given_one c.args.args.given c.if-args-eq1.true }

pub returns-then-args-eq1 : goal.returns-then-args-eq1
unfolding build build_one build_more
returns-then-args-eq1 c =
    λ s j e q l g. builds_one (build s (Of (Tv _ j))) l g c.if-args-eq1.true
    (λ v w. c.vec_one.ensures s j v e q w)

pub returns : goal.returns
unfolding build build_one build_more
returns c =
    λ s j e q l g. builds_more (build s (Of (Tv _ j))) l g (omega (arith, c.if-args-eq1.false))
    (λ v u m x. c.vec_parts.ensures j _ q x.row)
