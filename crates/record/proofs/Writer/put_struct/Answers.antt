-- The mark, the identity, and then the count.
use Rattle.std.proofs.Common.{rules}
use native.Mathlib.Omega.{arith}
use Rattle.laws.proofs.Length.{le_len}
use Rattle.record.proofs.Puts.{put_put, put_length, put_left}
use Rattle.record.specs.Fronts.{struct_front}
use Rattle.record.proofs.Fronts.{struct_front_long}
use Rattle.record.proofs.Writer.put_struct.Goals as goal

pub put_mark-requires : goal.put_mark-requires
put_mark-requires c = omega (arith, c.requires, struct_front_long c.args.i c.args.n)

pub put_le-requires : goal.put_le-requires
put_le-requires c = (
  tt,
  omega (arith, c.requires, struct_front_long c.args.i c.args.n, c.put_mark.ensures.put.end, put_length c.put_mark.ensures.put),
)

pub put_le-requires-2 : goal.put_le-requires-2
put_le-requires-2 c = (
  tt,
  omega (
    arith,
    c.requires,
    struct_front_long c.args.i c.args.n,
    c.put_mark.ensures.put.end,
    put_length c.put_mark.ensures.put,
    c.put_le.ensures.put.end,
    put_length c.put_le.ensures.put,
    le_len 2 c.args.i,
  ),
)

pub returns-clause-put : goal.returns-clause-put
unfolding struct_front
returns-clause-put c =
    put_left (put_put c.put_mark.ensures.put (put_put c.put_le.ensures.put c.put_le-2.ensures.put)) (search rules)
