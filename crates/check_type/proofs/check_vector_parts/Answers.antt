-- The parts, then their number.
use mathlib.Core.Path.{sym, ap, ◌∙◌}
use Rattle.meaning.specs.Answers.{miscount}
use Rattle.check_type.proofs.Checks.{parts_not, parts_miscount, parts_pass}
use Rattle.check_type.proofs.check_vector_parts.Goals as goal

pub returns-then-not-parts_to : goal.returns-then-not-parts_to
returns-then-not-parts_to c = λ j l e g. parts_not _ j l (c.parts_to.ensures j l e g.row) (c.if-not-parts_to.true)

pub returns-then-total-m : goal.returns-then-total-m
returns-then-total-m c =
    λ j l e g. parts_miscount _ j l (c.parts_to.ensures j l e g.row)
    (c.if-not-parts_to.false)
    (λ z. c.if-total-m.true (c.total.ensures l g.row ∙ z)) ∙ ap (miscount c.args.m)
    (sym g.count)

pub returns : goal.returns
returns c =
    λ j l e g. parts_pass _ j l (c.parts_to.ensures j l e g.row)
    (c.if-not-parts_to.false)
    (sym (c.total.ensures l g.row) ∙ c.if-total-m.false)
