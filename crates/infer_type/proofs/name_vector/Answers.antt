-- By how many arguments there are.
use Rattle.meaning.specs.Trees.{Tv}
use Rattle.arg_types.proofs.Given.{given_none, given_one, given_more}
use Rattle.infer_type.proofs.Shapes.{names_as, qv_none, qv_one_lem, qv_more}
use Rattle.infer_type.proofs.name_vector.Goals as goal

pub returns-then-args-eq0 : goal.returns-then-args-eq0
returns-then-args-eq0 c = λ l g. qv_none c.args.n (given_none g c.if-args-eq0.true)

pub invariant_of-name_vector_one : goal.invariant_of-name_vector_one
invariant_of-name_vector_one c =
    let x = given_one c.args.args.given.given c.if-args-eq1.true in
    record { one = record { type = _; stands = x.whole } }

pub returns-then-args-eq1 : goal.returns-then-args-eq1
returns-then-args-eq1 c =
    λ l g. let x = given_one g c.if-args-eq1.true in
    names_as (Tv c.args.n) c.name_vector_one.result
    (qv_one_lem c.args.n x.is) (c.name_vector_one.ensures x.type x.whole)

pub returns : goal.returns
returns c =
    λ l g. names_as (Tv c.args.n) c.name_vector_parts.result
    (qv_more c.args.n (given_more g c.if-args-eq0.false c.if-args-eq1.false))
    (c.name_vector_parts.ensures l g)
