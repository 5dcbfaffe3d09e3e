-- The scan writes where there is a kind at the bottom; a struct is copied.
use mathlib.Core.Path.{ap}
use native.Mathlib.Omega.{arith}
use lib.ListN.{length}
use Rattle.meaning.specs.Trees.{Val}
use Rattle.meaning.specs.Records.{val_bytes}
use Rattle.meaning.specs.Answers.{map_some}
use Rattle.conv.proofs.Values.{scan_room, scan_put}
use Rattle.conv.proofs.ValueByType.{kind_scan, struct_into, struct_put}
use Rattle.conv.proofs.write_converted.Goals as goal

pub convert_items-requires : goal.convert_items-requires
unfolding map_some
convert_items-requires c =
    let y = kind_scan c.requires.asked c.leaf_at.ensures c.in-Some.is in
    scan_room y.scan y.no (ap (map_some val_bytes) c.requires.goes) c.requires.room

pub put_bytes-requires : goal.put_bytes-requires
unfolding map_some
put_bytes-requires c =
    let q = ap (λ (v : Val). length (val_bytes v)) (struct_into c.requires.asked c.leaf_at.ensures
    c.in-None.is c.requires.goes) in
    omega (arith, c.requires.asked.has.bytes.size, c.requires.asked.has.bytes.within, c.requires.room)

pub returns-in-Some-clause-put : goal.returns-in-Some-clause-put
unfolding map_some
returns-in-Some-clause-put c =
    λ t v w x g. let y = kind_scan x (search) c.in-Some.is in
    scan_put y.scan y.no (ap (map_some val_bytes) g) c.convert_items.ensures.put

pub returns-in-None-clause-put : goal.returns-in-None-clause-put
unfolding map_some
returns-in-None-clause-put c = λ t v w x g. struct_put x (search) c.in-None.is g c.put_bytes.ensures.put
