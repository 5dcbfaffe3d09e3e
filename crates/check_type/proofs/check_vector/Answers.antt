-- The kind decides first, then how many arguments there are.
use mathlib.Core.Path.{◌∙◌}
use Rattle.meaning.specs.Trees.{Tv}
use Rattle.arg_types.proofs.Given.{given_none, given_one, given_more}
use Rattle.check_type.proofs.Checks.{rules_as, of_refused, of_none, of_one, of_more, vector_abstract, vector_typeable, vector_one}
use Rattle.check_type.proofs.Checks.{vector_more}
use Rattle.check_type.proofs.check_vector.Goals as goal

pub returns-then-is_abstract : goal.returns-then-is_abstract
returns-then-is_abstract c = λ j l e g. of_refused (Tv _ j) l (vector_abstract j e c.is_abstract.ensures _ c.if-is_abstract.true)

pub returns-then-args-eq0 : goal.returns-then-args-eq0
returns-then-args-eq0 c = λ j l e g. search (of_none, vector_typeable, given_none)

pub invariant_of-check_vector_one : goal.invariant_of-check_vector_one
invariant_of-check_vector_one c =
    let x = given_one c.args.args.given.given c.if-args-eq1.true in
    record { one = record { type = _; stands = x.whole } }

pub returns-then-args-eq1 : goal.returns-then-args-eq1
returns-then-args-eq1 c =
    λ j l e g. let x = given_one g c.if-args-eq1.true in
    rules_as (Tv _ j) c.check_vector_one.result (of_one (Tv _ j)
    (vector_typeable j e c.is_abstract.ensures _ c.if-is_abstract.false) x.is
    ∙ vector_one _ j x.type) (c.check_vector_one.ensures j x.type e x.whole)

pub returns : goal.returns
returns c =
    λ j l e g. rules_as (Tv _ j) c.check_vector_parts.result (of_more (Tv _ j)
    (vector_typeable j e c.is_abstract.ensures _ c.if-is_abstract.false)
    (given_more g c.if-args-eq0.false c.if-args-eq1.false) ∙ vector_more _ j l) (c.check_vector_parts.ensures j l e g)
