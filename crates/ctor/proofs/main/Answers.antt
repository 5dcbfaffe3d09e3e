-- What is written is the front of the buffer, up to the line's end.
use Rattle.ctor_line.proofs.Lines.{put_front}
use Rattle.ctor.proofs.main.Goals as goal

pub print-requires : goal.print-requires
print-requires c = put_front c.run-r.ensures.put c.run-r.ensures.upper_bound
