-- The parts of the slice and of the buffer, as they are lent.
use Rattle.call_batch.proofs.Alone.{does}
use Rattle.call_batch.proofs.one_job.Goals as goal

pub returns : goal.returns
returns c =
    does c.args.bytes.now c.args.out.now c.args.target c.args.target_len c.args.args c.args.args_len c.args.stage c.args.at
    c.call_ctor.ensures c.from.ensures
