-- The two parts.
use native.Mathlib.Omega.{arith}
use Rattle.meaning.specs.Entries.{line}
use Rattle.record.proofs.Puts.{put_put, put_length}
use Rattle.ctor_line.proofs.put_no.Goals as goal

pub returns-clause-put : goal.returns-clause-put
unfolding line
returns-clause-put c = put_put c.put_three.ensures.put c.put_number.ensures.put

pub returns-clause-upper_bound : goal.returns-clause-upper_bound
returns-clause-upper_bound c = omega (arith, put_length c.put_three.ensures.put, put_length c.put_number.ensures.put)
