-- The mark, and then the count.
use Rattle.std.proofs.Common.{rules}
use native.Mathlib.Omega.{arith}
use Rattle.record.proofs.Puts.{put_put, put_length, put_left}
use Rattle.record.specs.Fronts.{array_front}
use Rattle.record.proofs.Fronts.{array_front_long}
use Rattle.record.proofs.Writer.put_array.Goals as goal

pub put_mark-requires : goal.put_mark-requires
put_mark-requires c = omega (arith, c.requires, array_front_long c.args.n)

pub put_le-requires : goal.put_le-requires
put_le-requires c = (
  tt,
  omega (arith, c.requires, array_front_long c.args.n, c.put_mark.ensures.put.end, put_length c.put_mark.ensures.put),
)

pub returns-clause-put : goal.returns-clause-put
unfolding array_front
returns-clause-put c = put_left (put_put c.put_mark.ensures.put c.put_le.ensures.put) (search rules)
