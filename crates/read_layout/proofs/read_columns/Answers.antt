-- What writes the rest makes the whole; the padding behind each vector leads to the next.
use native.Mathlib.Omega.{arith}
use Rattle.read_layout.proofs.Vectors.{columns_all, column_room, column_on, columns_end}
use Rattle.read_layout.proofs.read_columns.Goals as goal

pub loop-init : goal.loop-init
loop-init c =
    (columns_all c.args.mem.now c.args.at c.args.n c.args.r c.args.k c.args.pad c.args.w.now.out.now c.args.w.now.at, search)

pub read_vector-requires : goal.read_vector-requires
read_vector-requires c = column_room c.requires c.loop.invariant.0 c.loop-test.true

pub loop-preserved : goal.loop-preserved
loop-preserved c = (
  column_on c.requires c.loop.invariant.0 c.loop-test.true c.read_vector.ensures.moved c.from-skip.ensures,
  search,
)

pub returns-clause-moved : goal.returns-clause-moved
returns-clause-moved c = columns_end c.requires c.loop.invariant.0 (omega arith)
