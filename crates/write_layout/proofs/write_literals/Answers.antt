-- What writes the rest of the scalars makes the whole, and the rest of the literals stands where the loop has come to.
use Rattle.std.proofs.Common.{rules}
use native.Mathlib.Omega.{arith}
use Rattle.record.proofs.Puts.{put_left}
use Rattle.write_layout.proofs.Literals.{literals_all, literal_here, literal_room, literal_on, literals_end}
use Rattle.write_layout.proofs.write_literals.Goals as goal

pub loop-init : goal.loop-init
loop-init c = (λ e j ps x. literals_all c.args.w.now.out.now c.args.w.now.at x, search)

pub number-requires : goal.number-requires
number-requires c = (
  c.width-wide.ensures.1,
  omega (
    arith,
    literal_here (c.loop.invariant.0 c.requires.end c.requires.kind c.requires.payloads c.requires.has)
        c.loop-test.true c.width-wide.ensures.0 c.scalar_size-size.ensures.0,
  ),
)

pub put_le-requires : goal.put_le-requires
put_le-requires c = (
  c.scalar_size-size.ensures.1,
  literal_room (c.loop.invariant.0 c.requires.end c.requires.kind c.requires.payloads c.requires.has) c.loop-test.true
      c.width-wide.ensures.0 c.scalar_size-size.ensures.0 c.requires.room,
)

pub loop-preserved : goal.loop-preserved
loop-preserved c = (
  λ e j ps x. literal_on (c.loop.invariant.0 e j ps x) c.loop-test.true c.width-wide.ensures.0 c.scalar_size-size.ensures.0
      c.number.ensures c.put_le.ensures.put,
  search,
)

pub returns-clause-moved : goal.returns-clause-moved
returns-clause-moved c =
    λ e j ps x. let y = literals_end (c.loop.invariant.0 e j ps x) (omega arith) in (y.0, put_left y.1 (search rules))
