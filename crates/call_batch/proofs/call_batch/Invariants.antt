-- What is kept before each turn: what the turns so far have done.
use Rattle.std.proofs.Common.{◌≡◌, length}
use Rattle.call_batch.proofs.Turns.{Done}
use Rattle.call_batch.proofs.call_batch.Given as goal

abbrev pub invariant-loop-k : goal.invariant-loop-k
invariant-loop-k l = (length l.jobs ≡ length l.fn.jobs) × Done l.bytes l.fn.jobs l.fn.out l.k l.at l.jobs l.out
