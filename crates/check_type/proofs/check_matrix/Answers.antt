-- By how many arguments there are.
use mathlib.Core.Path.{◌∙◌}
use Rattle.meaning.specs.Trees.{Tm}
use Rattle.arg_types.proofs.Given.{given_none, given_one, given_more, given_alone}
use Rattle.check_type.proofs.Checks.{rules_as, of_none, of_one, of_more}
use Rattle.check_type.proofs.Matrices.{matrix_typeable, matrix_one, matrix_more}
use Rattle.check_type.proofs.check_matrix.Goals as goal

pub returns-then-args-eq0 : goal.returns-then-args-eq0
returns-then-args-eq0 c = λ j l n g. search (of_none, matrix_typeable, given_none)

pub returns-then-args-eq1 : goal.returns-then-args-eq1
returns-then-args-eq1 c =
    λ j l n g. let x = given_one g c.if-args-eq1.true in
    rules_as (Tm c.args.size.columns c.args.size.rows j) c.check_matrix_one.result
    (of_one (Tm c.args.size.columns c.args.size.rows j) (matrix_typeable c.args.size.columns c.args.size.rows j) x.is ∙ matrix_one c.args.size.columns c.args.size.rows j x.type)
    (c.check_matrix_one.ensures j x.type n (given_alone g c.if-args-eq1.true))

pub returns : goal.returns
returns c =
    λ j l n g. rules_as (Tm c.args.size.columns c.args.size.rows j) c.check_matrix_parts.result
    (of_more (Tm c.args.size.columns c.args.size.rows j) (matrix_typeable c.args.size.columns c.args.size.rows j) (given_more g c.if-args-eq0.false c.if-args-eq1.false)
    ∙ matrix_more c.args.size.columns c.args.size.rows j l) (c.check_matrix_parts.ensures j l n g)
