-- The job alone, and what becomes of its entry.
use native.Mathlib.Omega.{arith}
use Rattle.call_batch.proofs.Alone.{parts_fit, value_fits, steps}
use Rattle.call_batch.proofs.do_job.Goals as goal

pub one_job-answer-requires : goal.one_job-answer-requires
one_job-answer-requires c =
    let f = parts_fit _ _ c.requires.0 in
    (f.0, f.1, c.requires.1)

pub overflow_add-result : goal.overflow_add-result
overflow_add-result c =
    omega (
      arith,
      value_fits c.args.bytes.now c.args.job c.args.out.now c.args.at c.one_job-answer.ensures,
      c.requires.1,
    )

pub returns : goal.returns
returns c = steps c.args.bytes.now c.args.job c.args.out.now c.args.at c.one_job-answer.ensures
