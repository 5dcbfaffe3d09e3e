-- What writes the rest makes the whole.
use mathlib.Core.Path.{refl}
use native.Mathlib.Omega.{arith}
use Rattle.record.proofs.Left.{left_all}
use Rattle.args.proofs.ArgumentRows.{args_some, args_less}
use Rattle.vector.proofs.PartsLeft.{put_start, put_within, put_room, put_on, put_end}
use Rattle.vector.proofs.put_parts.Goals as goal

pub loop-i-init : goal.loop-i-init
loop-i-init c = (refl, λ j l ps n g. record { items = l; row = g.row; so = record { pays = ps; flats = g.flats; goes = g.goes; rest = left_all _ _ _ } })

pub first_literal-from-requires : goal.first_literal-from-requires
first_literal-from-requires c =
    args_some (c.loop-i.invariant.1 _ _ _ c.requires.some.no c.requires.some.goes)
    c.loop-i-test.true

pub next_arg-end-requires : goal.next_arg-end-requires
next_arg-end-requires c =
    args_some
    (c.loop-i.invariant.1 _ _ _ c.requires.some.no c.requires.some.goes) c.loop-i-test.true

pub slice_bounds-convert_items-count : goal.slice_bounds-convert_items-count
slice_bounds-convert_items-count c = search (put_start (c.loop-i.invariant.1 _ _ _ c.requires.some.no c.requires.some.goes))

pub slice_bounds-convert_items-start : goal.slice_bounds-convert_items-start
slice_bounds-convert_items-start c = search (put_start (c.loop-i.invariant.1 _ _ _ c.requires.some.no c.requires.some.goes))

pub slice_bounds-convert_items-end : goal.slice_bounds-convert_items-end
slice_bounds-convert_items-end c = search (put_within (c.loop-i.invariant.1 _ _ _ c.requires.some.no c.requires.some.goes))

pub convert_items-requires : goal.convert_items-requires
convert_items-requires c = search (put_room (c.loop-i.invariant.1 _ _ _ c.requires.some.no c.requires.some.goes))

pub loop-i-smaller : goal.loop-i-smaller
loop-i-smaller c =
    omega (
      arith,
      args_less (c.loop-i.invariant.1 _ _ _ c.requires.some.no c.requires.some.goes) (search)
          c.next_arg-end.ensures,
    )

pub loop-i-preserved : goal.loop-i-preserved
loop-i-preserved c = (search, λ j l ps n g. search (put_on (c.loop-i.invariant.1 j l ps n g)))

pub returns-clause-put : goal.returns-clause-put
returns-clause-put c = λ j l ps n g. put_end (c.loop-i.invariant.1 j l ps n g) c.loop-i-test.false
