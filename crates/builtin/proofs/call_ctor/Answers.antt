-- The stage is read first, and the target's answer follows.
use Rattle.meaning.specs.Entries.{stage_of}
use Rattle.literal.proofs.Stages.{staged_at, staged_never}
use Rattle.error.proofs.Refusals.{passed_on}
use Rattle.error.proofs.Told.{told_as}
use Rattle.error.proofs.BufferAtExit.{refused}
use Rattle.builtin.proofs.CallAnswers.{no_stage, staged_answer}
use Rattle.builtin.proofs.call_ctor.Goals as goal

pub returns-in_err-rules : goal.returns-in_err-rules
returns-in_err-rules c =
    let n = staged_never (stage_of _) c.rules_at.ensures c.in_err-rules.was in
    rw (passed_on c.from_residual.result c.from_residual.ensures.1, n.1) (refused _ _ (no_stage _ _ _ _ n.0))

pub returns : goal.returns
returns c =
    let x = staged_at (stage_of _) c.rules_at.ensures c.in_ok-rules.was in
    told_as (staged_answer _ _ _ _ x.1) (c.target_call.ensures x.0.stage x.0.ruled)
