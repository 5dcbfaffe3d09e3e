-- AbstractInt zeros without arguments.
use mathlib.Core.Path.{refl}
use native.Mathlib.Omega.{arith}
use Rattle.meaning.specs.Kinds.{aint, kind_no}
use Rattle.meaning.specs.Trees.{Qv}
use Rattle.meaning.specs.Build.{build}
use Rattle.ty.proofs.Numbers.{is_number}
use Rattle.scalar.specs.Made.{given_one}
use Rattle.builtin.proofs.Counts.{builds_none, builds_one, builds_more}
use Rattle.builtin.proofs.vector_given.Goals as goal

pub zero_vector-requires-clause-kind : goal.zero_vector-requires-clause-kind
unfolding build kind_no
zero_vector-requires-clause-kind c = is_number aint

pub returns-then-args-eq0 : goal.returns-then-args-eq0
unfolding build kind_no
returns-then-args-eq0 c =
    λ s l g. builds_none (build s (Qv _)) l g c.if-args-eq0.true
    (c.zero_vector.ensures aint refl)

pub invariant_of-qv_one : goal.invariant_of-qv_one
invariant_of-qv_one c = record { one = given_one c.args.args.given c.if-args-eq1.true }

pub returns-then-args-eq1 : goal.returns-then-args-eq1
unfolding build kind_no
returns-then-args-eq1 c =
    λ s l g. builds_one (build s (Qv _)) l g c.if-args-eq1.true
    (λ v w. c.qv_one.ensures v w)

pub returns : goal.returns
unfolding build kind_no
returns c =
    λ s l g. builds_more (build s (Qv _)) l g (omega (
      arith,
      c.if-args-eq0.false,
      c.if-args-eq1.false,
    )) (λ v u m x. c.qv_parts.ensures _ x.row)
