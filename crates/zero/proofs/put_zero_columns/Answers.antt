-- What writes the rest makes the whole.
use native.Mathlib.Omega.{arith}
use Rattle.record.proofs.Left.{copies_room, copies_on, copies_end}
use Rattle.zero.proofs.put_zero_columns.Goals as goal

pub put_vector-requires : goal.put_vector-requires
put_vector-requires c = copies_room c.loop.invariant.0 c.loop-test.true c.requires

pub loop-preserved : goal.loop-preserved
loop-preserved c = (copies_on c.loop.invariant.0 c.loop-test.true c.put_vector.ensures.put, search)

pub returns-clause-put : goal.returns-clause-put
returns-clause-put c = copies_end c.loop.invariant.0 (omega arith)
