-- What writes the rest makes the whole.
use Rattle.std.proofs.Common.{rules}
use native.Mathlib.Omega.{arith}
use Rattle.record.proofs.Left.{copies_room, copies_on, copies_end}
use Rattle.record.proofs.Literals.{literal_long}
use Rattle.record.proofs.Puts.{put_left}
use Rattle.record.proofs.Writer.put_literals.Goals as goal

pub put_literal-requires : goal.put_literal-requires
put_literal-requires c = omega (arith, copies_room c.loop.invariant.0 c.loop-test.true c.requires, literal_long c.args.k c.args.bits)

pub loop-preserved : goal.loop-preserved
loop-preserved c = (copies_on c.loop.invariant.0 c.loop-test.true c.put_literal.ensures.put, search)

pub returns-clause-put : goal.returns-clause-put
returns-clause-put c = put_left (copies_end c.loop.invariant.0 (omega arith)) (search rules)
