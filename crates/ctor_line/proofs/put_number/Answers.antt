-- The digits, and the byte after them.
use native.Mathlib.Omega.{arith}
use Rattle.record.proofs.Puts.{put_put, put_length}
use Rattle.ctor_line.proofs.put_number.Goals as goal

pub put_byte-requires : goal.put_byte-requires
put_byte-requires c = omega (arith, put_length c.put_decimal.ensures.put)

pub returns-clause-put : goal.returns-clause-put
returns-clause-put c = put_put c.put_decimal.ensures.put c.put_byte.ensures.put
