-- The four parts.
use native.Mathlib.Omega.{arith}
use Rattle.record.proofs.Puts.{put_put, put_length}
use Rattle.ctor_line.proofs.Lines.{miscount_line}
use Rattle.ctor_line.proofs.put_miscount.Goals as goal

pub put_number-requires-2 : goal.put_number-requires-2
put_number-requires-2 c = omega (arith, put_length c.put_three.ensures.put, put_length c.put_number.ensures.put)

pub put_number-requires-3 : goal.put_number-requires-3
put_number-requires-3 c =
    omega (arith, put_length c.put_three.ensures.put, put_length c.put_number.ensures.put, put_length c.put_number-2.ensures.put)

pub returns-clause-put : goal.returns-clause-put
returns-clause-put c =
    rw (← miscount_line c.args.wanted c.args.given)
    (put_put c.put_three.ensures.put
    (put_put (rw c.number.ensures at c.put_number.ensures.put) (put_put c.put_number-2.ensures.put c.put_number-3.ensures.put)))

pub returns-clause-upper_bound : goal.returns-clause-upper_bound
returns-clause-upper_bound c =
    omega (
      arith,
      put_length c.put_three.ensures.put,
      put_length c.put_number.ensures.put,
      put_length c.put_number-2.ensures.put,
      put_length c.put_number-3.ensures.put,
    )
