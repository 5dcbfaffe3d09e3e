-- The mark and the kind, and then the payload.
use Rattle.std.proofs.Common.{rules}
use Rattle.record.specs.Literals.{literal_of}
use Rattle.record.proofs.Puts.{put_put, put_left}
use Rattle.record.proofs.Writer.put_literal.Goals as goal

pub returns-clause-put : goal.returns-clause-put
unfolding literal_of
returns-clause-put c =
    put_left (put_put c.put_three.ensures.put (rw c.width.ensures.0 at c.put_le.ensures.put)) (search rules)
