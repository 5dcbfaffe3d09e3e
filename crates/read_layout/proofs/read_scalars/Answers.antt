-- What writes the rest makes the whole; the place in memory says what the rest is.
use Rattle.std.proofs.Common.{rules}
use native.Mathlib.Omega.{arith}
use Rattle.record.proofs.Puts.{put_left}
use Rattle.read_layout.proofs.Scalars.{scalars_all, scalar_within, scalar_room, scalar_on, scalars_end}
use Rattle.read_layout.proofs.read_scalars.Goals as goal

pub loop-init : goal.loop-init
loop-init c = (scalars_all c.args.mem.now c.args.at c.args.n c.args.k c.args.w.now.out.now c.args.w.now.at, search)

pub number-requires : goal.number-requires
number-requires c =
    (c.scalar_size-size.ensures.1, scalar_within c.requires c.loop.invariant.0 c.scalar_size-size.ensures.0 c.loop-test.true)

pub put_literal-requires : goal.put_literal-requires
put_literal-requires c =
    scalar_room c.requires c.loop.invariant.0 c.scalar_size-size.ensures.0 c.loop-test.true c.number.ensures

pub loop-preserved : goal.loop-preserved
loop-preserved c = (
  scalar_on c.requires
      c.loop.invariant.0
      c.scalar_size-size.ensures.0
      c.loop-test.true
      c.number.ensures c.put_literal.ensures.put,
  search,
)

pub returns-clause-moved : goal.returns-clause-moved
returns-clause-moved c =
    λ j e. let y = scalars_end c.requires c.loop.invariant.0 (omega arith) j e in (y.0, put_left y.1 (search rules))
