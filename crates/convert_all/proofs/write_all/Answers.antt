-- The scan writes where there is a kind at the bottom; structs are copied.
use mathlib.Core.Path.{ap}
use mathlib.Core.List.{List}
use native.Mathlib.Omega.{arith}
use lib.ListN.{length}
use Rattle.meaning.specs.Trees.{Val}
use Rattle.meaning.specs.Records.{val_bytes, joined}
use Rattle.meaning.specs.Answers.{map_some}
use Rattle.conv.proofs.Values.{scan_room, scan_put}
use Rattle.args.proofs.ArgumentRows.{row_bytes}
use Rattle.convert_all.proofs.Converts.{some_to, row_scan, row_into, row_put}
use Rattle.convert_all.proofs.write_all.Goals as goal

pub convert_items-requires : goal.convert_items-requires
unfolding map_some
convert_items-requires c =
    let y = row_scan c.requires.row c.requires.stands (some_to c.requires.type c.requires.values c.requires.goes) c.leaf_at.ensures
    c.in-Some.is in
    scan_room y.scan y.no (ap (map_some (joined val_bytes)) c.requires.goes) c.requires.room

pub put_bytes-requires : goal.put_bytes-requires
unfolding map_some
put_bytes-requires c =
    let b = row_bytes c.requires.row in
    let q = ap (λ (l : List Val). length (joined val_bytes l))
    (row_into c.requires.row c.requires.stands (some_to c.requires.type c.requires.values c.requires.goes) c.leaf_at.ensures
    c.in-None.is c.requires.goes) in
    omega (arith, b.size, b.within, c.requires.room)

pub returns-in-Some-clause-put : goal.returns-in-Some-clause-put
unfolding map_some
returns-in-Some-clause-put c =
    λ l t e ws w v g. let y = row_scan w v (some_to t l g) (search) c.in-Some.is in
    scan_put y.scan y.no (ap (map_some (joined val_bytes)) g) c.convert_items.ensures.put

pub returns-in-None-clause-put : goal.returns-in-None-clause-put
unfolding map_some
returns-in-None-clause-put c =
    λ l t e ws w v g. row_put w v (some_to t l g) (search) c.in-None.is g
    c.put_bytes.ensures.put
