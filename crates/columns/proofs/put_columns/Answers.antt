-- What writes the rest of the columns makes the whole.
use mathlib.Core.Path.{◌∙◌}
use native.Mathlib.Omega.{arith}
use Rattle.columns.proofs.Columns.{columns_front, columns_room, columns_on, columns_end}
use Rattle.columns.proofs.put_columns.Goals as goal

pub skip-e-requires : goal.skip-e-requires
skip-e-requires c =
    columns_front (c.loop.invariant.1 c.requires.kind c.requires.pays c.requires.are)
    c.loop-test.true

pub put_column-requires : goal.put_column-requires
put_column-requires c = search (columns_room (c.loop.invariant.1 c.requires.kind c.requires.pays c.requires.are))

pub loop-preserved : goal.loop-preserved
loop-preserved c = (
  c.put_column.ensures.same_reference ∙ c.loop.invariant.0,
  λ j qs x. search (columns_on (c.loop.invariant.1 j qs x)),
)

pub returns-clause-put : goal.returns-clause-put
returns-clause-put c = λ j qs x. columns_end (c.loop.invariant.1 j qs x) (omega arith)
