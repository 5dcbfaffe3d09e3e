-- By how many arguments there are.
use Rattle.meaning.specs.Trees.{Tm}
use Rattle.arg_types.proofs.Given.{given_none, given_one, given_more, given_alone}
use Rattle.infer_type.proofs.Shapes.{names_as, qm_none, qm_one_lem, qm_more}
use Rattle.infer_type.proofs.name_matrix.Goals as goal

pub returns-then-args-eq0 : goal.returns-then-args-eq0
returns-then-args-eq0 c = λ l g. qm_none c.args.size.columns c.args.size.rows (given_none g c.if-args-eq0.true)

pub returns-then-args-eq1 : goal.returns-then-args-eq1
returns-then-args-eq1 c =
    λ l g. let x = given_one g c.if-args-eq1.true in
    names_as (Tm c.args.size.columns c.args.size.rows) c.name_matrix_one.result (qm_one_lem c.args.size.columns c.args.size.rows x.is)
    (c.name_matrix_one.ensures x.type (given_alone g c.if-args-eq1.true))

pub returns : goal.returns
returns c =
    λ l g. names_as (Tm c.args.size.columns c.args.size.rows) c.name_matrix_parts.result
    (qm_more c.args.size.columns c.args.size.rows (given_more g c.if-args-eq0.false c.if-args-eq1.false)) (c.name_matrix_parts.ensures l g)
