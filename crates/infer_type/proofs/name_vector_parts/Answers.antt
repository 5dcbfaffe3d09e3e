-- The parts, then their number, then their common kind.
use mathlib.Core.Path.{sym, ap, ◌∙◌}
use Rattle.meaning.specs.Answers.{miscount}
use Rattle.arg_types.proofs.Given.{given_two}
use Rattle.infer_type.proofs.Shapes.{kinds_of, qv_not, qv_miscount, qv_named}
use Rattle.infer_type.proofs.name_vector_parts.Goals as goal

pub returns-then-not-are_parts : goal.returns-then-not-are_parts
returns-then-not-are_parts c =
    λ l g. qv_not c.args.n l (c.are_parts.ensures l g.row)
    (c.if-not-are_parts.true)

pub returns-then-sum-n : goal.returns-then-sum-n
returns-then-sum-n c =
    λ l g. let x = kinds_of g.row (given_two g c.requires)
    (c.are_parts.ensures l g.row)
    (c.if-not-are_parts.false) in
    qv_miscount c.args.n l x.kinds
    (λ z. c.if-sum-n.true (c.total-sum.ensures l g.row ∙ z)) ∙ ap (miscount c.args.n)
    (sym g.count)

pub common_kind-requires : goal.common_kind-requires
common_kind-requires c =
    let x = kinds_of c.args.args.given.given.row (given_two c.args.args.given.given c.requires)
    (c.are_parts.ensures _ c.args.args.given.given.row)
    (c.if-not-are_parts.false) in
    record { types = _; first = _; others = _; kinds = x.kinds }

pub returns : goal.returns
returns c =
    λ l g. let x = kinds_of g.row (given_two g c.requires) (c.are_parts.ensures l g.row)
    (c.if-not-are_parts.false) in
    rw c.ok_or.ensures.value
    (qv_named c.args.n l x.kinds (sym (c.total-sum.ensures l g.row) ∙ c.if-sum-n.false)
    (c.common_kind.ensures l _ _ x.kinds))
