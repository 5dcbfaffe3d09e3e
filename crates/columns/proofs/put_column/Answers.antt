-- The mark, the rows, and then the scalars.
use mathlib.Core.Path.{refl}
use native.Mathlib.Omega.{arith}
use Rattle.record.proofs.Puts.{put_length}
use Rattle.conv.proofs.Values.{scan_room, scan_put}
use Rattle.columns.proofs.Columns.{column_scan, column_long, column_put}
use Rattle.columns.proofs.put_column.Goals as goal

pub put_three-requires : goal.put_three-requires
put_three-requires c = omega (arith, c.requires.room, column_long c.requires.column)

pub convert_items-requires : goal.convert_items-requires
convert_items-requires c =
    scan_room (column_scan c.requires.column) c.requires.column.no refl
    (omega (
      arith,
      c.requires.room,
      column_long c.requires.column,
      c.put_three.ensures.put.end,
      put_length c.put_three.ensures.put,
    ))

pub returns-clause-put : goal.returns-clause-put
returns-clause-put c =
    λ j qs x. column_put x c.put_three.ensures.put (scan_put (column_scan x) x.no refl c.convert_items.ensures.put)
