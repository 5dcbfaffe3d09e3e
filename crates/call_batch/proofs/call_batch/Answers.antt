-- Refused before anything is done, or each job in its turn; what a turn does is said in Turns.
use Rattle.std.proofs.Common.{◌≡◌, ℕ, refl, sym, ap, subst, ◌∙◌, arith, add-one, length}
use Rattle.std.proofs.Math.ListN.{length-set}
use Rattle.error.specs.Refusals.{paper}
use Rattle.call_batch.proofs.Turns.{Done, done_none, done_one, ready, done_all, refused_all}
use Rattle.call_batch.proofs.call_batch.Goals as goal

pub returns-in-Err : goal.returns-in-Err
unfolding paper
returns-in-Err c =
    rw c.refused.ensures (refused_all c.args.bytes.now c.args.jobs.now c.args.out.now _ (sym c.judged.ensures ∙ ap paper c.in-Err.is))

pub loop-k-init : goal.loop-k-init
loop-k-init c = (refl, done_none c.args.bytes.now c.args.jobs.now c.args.out.now)

pub do_job-step-requires : goal.do_job-step-requires
unfolding paper
do_job-step-requires c =
    ready c.args.bytes.now c.args.jobs.now c.args.out.now c.loop-k.k c.loop-k.at c.loop-k.jobs c.loop-k.out _ (omega arith)
    c.loop-k.invariant.1 (sym c.judged.ensures ∙ ap paper c.in_default.is)

pub loop-k-preserved : goal.loop-k-preserved
loop-k-preserved c = (
  length-set _ _ _ ∙ c.loop-k.invariant.0,
  rw (add-one, c.do_job-step.ensures.0, c.do_job-step.ensures.1)
      (done_one c.args.bytes.now c.args.jobs.now c.args.out.now c.loop-k.k c.loop-k.at c.loop-k.jobs c.loop-k.out _
      (omega arith) c.loop-k.invariant.1),
)

pub returns : goal.returns
unfolding paper
returns c =
    let last : c.loop-k.k ≡ length c.args.jobs.now = omega arith in
    rw c.accepted.ensures (done_all c.args.bytes.now c.args.jobs.now c.args.out.now c.loop-k.at c.loop-k.jobs c.loop-k.out
    (sym c.judged.ensures ∙ ap paper c.in_default.is)
    (subst (λ (x : ℕ). Done c.args.bytes.now c.args.jobs.now c.args.out.now x c.loop-k.at c.loop-k.jobs c.loop-k.out)
    last c.loop-k.invariant.1))
