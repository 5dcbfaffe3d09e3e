-- What writes the rest makes the whole.
use mathlib.Core.Path.{refl}
use native.Mathlib.Omega.{arith}
use Rattle.record.proofs.Left.{left_all}
use Rattle.array.proofs.MembersLeft.{put_arg, put_type, put_less, put_within, put_room, put_on, put_end}
use Rattle.array.proofs.write_members.Goals as goal

pub loop-from-init : goal.loop-from-init
loop-from-init c = (refl, λ m l ws x g. record { types = m; values = l; pairs = x; so = record { intos = ws; goes = g; rest = left_all _ _ _ } })

pub next_arg-end-requires : goal.next_arg-end-requires
next_arg-end-requires c =
    put_arg (c.loop-from.invariant.1 _ _ _ c.requires.pairs c.requires.goes)
    c.loop-from-test.true

pub slice_bounds-write_converted-count : goal.slice_bounds-write_converted-count
slice_bounds-write_converted-count c =
    omega (
      arith,
      put_less (c.loop-from.invariant.1 _ _ _ c.requires.pairs c.requires.goes) (search)
          c.next_arg-end.ensures,
    )

pub slice_bounds-write_converted-start : goal.slice_bounds-write_converted-start
slice_bounds-write_converted-start c =
    omega (
      arith,
      put_less (c.loop-from.invariant.1 _ _ _ c.requires.pairs c.requires.goes) (search)
          c.next_arg-end.ensures,
    )

pub slice_bounds-write_converted-end : goal.slice_bounds-write_converted-end
slice_bounds-write_converted-end c =
    put_within (c.loop-from.invariant.1 _ _ _ c.requires.pairs c.requires.goes) c.loop-from-test.true
    c.next_arg-end.ensures

pub write_converted-requires : goal.write_converted-requires
write_converted-requires c =
    put_room (c.loop-from.invariant.1 _ _ _ c.requires.pairs c.requires.goes) c.loop-from-test.true
    c.next_arg-end.ensures c.requires.room

pub end_of_type-at-requires : goal.end_of_type-at-requires
end_of_type-at-requires c =
    put_type
    (c.loop-from.invariant.1 _ _ _ c.requires.pairs c.requires.goes)
    c.loop-from-test.true

pub loop-from-smaller : goal.loop-from-smaller
loop-from-smaller c =
    omega (
      arith,
      put_less (c.loop-from.invariant.1 _ _ _ c.requires.pairs c.requires.goes) (search)
          c.next_arg-end.ensures,
    )

pub loop-from-preserved : goal.loop-from-preserved
loop-from-preserved c = (search, λ m l ws x g. search (put_on (c.loop-from.invariant.1 m l ws x g)))

pub returns-clause-put : goal.returns-clause-put
returns-clause-put c = λ m l ws x g. put_end (c.loop-from.invariant.1 m l ws x g) c.loop-from-test.false
