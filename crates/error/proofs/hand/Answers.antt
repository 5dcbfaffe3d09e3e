-- Measured first, then written.
use Rattle.std.proofs.Common.{rules}
use Rattle.record.proofs.Puts.{put_left}
use Rattle.error.proofs.BufferAtExit.{refused, written}
use Rattle.error.proofs.Handed.{handed_no, handed_yes}
use Rattle.error.proofs.hand.Goals as goal

pub returns-then-s-out : goal.returns-then-s-out
returns-then-s-out c = refused _ _ (handed_no _ _ c.if-s-out.true)

pub returns : goal.returns
returns c = written _ (handed_yes _ _ c.if-s-out.false) c.if-s-out.false (put_left c.put_bytes.ensures.put (search rules))
