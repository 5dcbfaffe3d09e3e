-- What writes the rest of the columns makes the whole, and the rest of them stands where the loop has come to.
use native.Mathlib.Omega.{arith}
use Rattle.write_layout.proofs.Columns.{columns_all, column_room, column_pad, column_on, columns_end}
use Rattle.write_layout.proofs.write_columns.Goals as goal

pub loop-init : goal.loop-init
loop-init c = (λ e j cols x. columns_all c.args.w.now.out.now c.args.w.now.at x, search)

pub write_literals-i-requires : goal.write_literals-i-requires
write_literals-i-requires c =
    column_room (c.loop.invariant.0 c.requires.end c.requires.kind c.requires.columns c.requires.has) c.loop-test.true
    c.from-rows.ensures c.requires.room

pub put_zeros-requires : goal.put_zeros-requires
put_zeros-requires c =
    column_pad (c.loop.invariant.0 c.requires.end c.requires.kind c.requires.columns c.requires.has) c.loop-test.true
    c.from-rows.ensures c.write_literals-i.ensures.moved c.requires.room

pub loop-preserved : goal.loop-preserved
loop-preserved c = (
  λ e j cols x. column_on (c.loop.invariant.0 e j cols x) c.loop-test.true c.from-rows.ensures c.write_literals-i.ensures.moved
      c.put_zeros.ensures.put,
  search,
)

pub returns-clause-moved : goal.returns-clause-moved
returns-clause-moved c = λ e j cols x. columns_end (c.loop.invariant.0 e j cols x) (omega arith)
