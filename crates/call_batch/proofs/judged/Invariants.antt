-- The parts of the jobs before this one are inside.
use Rattle.std.proofs.Common.{◌≡◌, true, List, map, take}
use Rattle.meaning.specs.Records.{every}
use Rattle.meaning.specs.Batch.{parts_inside}
use Rattle.call_batch.specs.Jobs.{job_of}
use Rattle.call_batch.proofs.judged.Given as goal

abbrev pub invariant-loop-job : goal.invariant-loop-job
invariant-loop-job l = every (parts_inside l.room) (map job_of (take l.job-index l.jobs)) ≡ true
