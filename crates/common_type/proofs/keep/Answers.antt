-- What was stored is the type's record.
use Rattle.std.proofs.Common.{rules}
use Rattle.record.proofs.Puts.{put_left}
use Rattle.common_type.proofs.SoFar.{kept_stands}
use Rattle.common_type.proofs.keep.Goals as goal

pub returns : goal.returns
returns c = λ t v. kept_stands v (put_left c.put_bytes.ensures.put (search rules)) c.requires
