-- A part overwritten as a whole.
use native.Mathlib.Omega.{arith}
use Rattle.record.proofs.Puts.{put_part}
use Rattle.record.proofs.Writer.put_bytes.Goals as goal

pub returns-clause-put : goal.returns-clause-put
returns-clause-put c = put_part c.requires (omega arith) c.overwrite.ensures
