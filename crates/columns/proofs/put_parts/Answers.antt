-- By the shape.
use mathlib.Core.Path.{refl}
use Rattle.conv.proofs.Values.{scan_room, scan_put}
use Rattle.columns.proofs.Hands.{vectors_scan}
use Rattle.columns.proofs.put_parts.Goals as goal

pub convert_items-requires : goal.convert_items-requires
convert_items-requires c =
    let x = rw c.in-Columns.is at c.requires in
    scan_room (vectors_scan x.are) x.are.no refl x.room

pub returns-in-Columns-clause-put : goal.returns-in-Columns-clause-put
returns-in-Columns-clause-put c =
    rw c.in-Columns.is (λ j qs x. scan_put (vectors_scan x) x.no refl c.convert_items.ensures.put)
