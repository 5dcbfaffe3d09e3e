-- The count first, then each job's parts.
use Rattle.std.proofs.Common.{◌≡◌, true, length, List, map, take, refl, sym, ◌∙◌, arith, add-one}
use lib.Seq.{take-length}
use borrow.Author.Tests.{le-leb, lt-leb}
use Rattle.meaning.specs.Records.{every}
use Rattle.meaning.specs.Batch.{parts_inside}
use Rattle.error.specs.Refusals.{paper}
use Rattle.call_batch.specs.Jobs.{job_of}
use Rattle.call_batch.proofs.Turns.{every_one, not_every}
use Rattle.call_batch.proofs.judged.Goals as goal

pub returns-then-jobs-gt-JOBS : goal.returns-then-jobs-gt-JOBS
unfolding paper
returns-then-jobs-gt-JOBS c = rw (lt-leb (length c.args.jobs.now) 256 c.if-jobs-gt-JOBS.true) refl

pub loop-job-init : goal.loop-job-init
unfolding every
loop-job-init c = refl

pub returns-then-not-parts_inside : goal.returns-then-not-parts_inside
unfolding paper
returns-then-not-parts_inside c =
    rw (
      le-leb (length c.args.jobs.now) 256 c.if-jobs-gt-JOBS.false,
      not_every (parts_inside c.args.room) c.args.jobs.now c.loop-job.job-index _ (omega arith)
          (sym c.parts_inside.ensures ∙ c.if-not-parts_inside.true),
    ) refl

pub loop-job-preserved : goal.loop-job-preserved
loop-job-preserved c =
    rw add-one (every_one (parts_inside c.args.room) c.args.jobs.now c.loop-job.job-index _ (omega arith) c.loop-job.invariant
    (sym c.parts_inside.ensures ∙ c.if-not-parts_inside.false))

pub returns : goal.returns
unfolding paper
returns c =
    let all : c.loop-job.job-index ≡ length c.args.jobs.now = omega arith in
    rw (
      le-leb (length c.args.jobs.now) 256 c.if-jobs-gt-JOBS.false,
      rw (all, take-length) at c.loop-job.invariant,
    ) refl
