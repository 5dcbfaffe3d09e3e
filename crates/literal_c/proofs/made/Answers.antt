-- A stage's refusal, the constructor's, or its payload.
use mathlib.Core.Path.{sym, ap, ◌∙◌}
use Rattle.error.specs.Refusals as refusals
use Rattle.error.proofs.Refusals.{passed_on}
use Rattle.literal.specs.LiteralAnswers.{paper}
use Rattle.literal_c.proofs.Shown.{built, no_stage}
use Rattle.literal_c.proofs.made.Goals as goal

pub returns-in_err-rules : goal.returns-in_err-rules
returns-in_err-rules c =
    rw (passed_on c.from_residual.result c.from_residual.ensures.1) (no_stage _ _ _ _ c.rules_at.ensures c.in_err-rules.was)

pub returns-in_err-payload : goal.returns-in_err-payload
unfolding refusals.paper paper
returns-in_err-payload c =
    rw (passed_on c.from_residual-in_err-payload.result c.from_residual-in_err-payload.ensures.1)
    (ap paper (sym c.in_err-payload.was) ∙ built _ _ _ _ c.rules_at.ensures _ c.in_ok-rules.was c.construct.ensures)

pub returns : goal.returns
unfolding refusals.paper paper
returns c = ap paper (sym c.in_ok-payload.was) ∙ built _ _ _ _ c.rules_at.ensures _ c.in_ok-rules.was c.construct.ensures
