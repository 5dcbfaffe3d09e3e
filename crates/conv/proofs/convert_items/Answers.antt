-- What writes the rest makes the whole.
use mathlib.Core.Path.{◌∙◌}
use native.Mathlib.Omega.{arith}
use Rattle.std.proofs.Common.{rules}
use Rattle.record.proofs.Puts.{put_left}
use Rattle.conv.proofs.Walk.{next_item, next_less, write_room, write_on, write_end}
use Rattle.conv.proofs.convert_items.Goals as goal

pub put_item-requires : goal.put_item-requires
put_item-requires c =
    write_room (c.loop-i.invariant.1 c.requires.kind c.requires.items c.requires.intos c.requires.no c.requires.stands c.requires.goes) c.loop-i-test.true
    c.requires.room
    λ a b w q t. record { kind = c.requires.kind; no = c.requires.no; item = a; into = b; stands = w; goes = q; room = t }

pub item_end-i-requires : goal.item_end-i-requires
item_end-i-requires c =
    next_item
    (c.loop-i.invariant.1 c.requires.kind c.requires.items c.requires.intos c.requires.no c.requires.stands c.requires.goes)
    c.loop-i-test.true

pub loop-i-smaller : goal.loop-i-smaller
loop-i-smaller c =
    omega (
      arith,
      c.loop-i-test.true,
      next_less (c.loop-i.invariant.1 c.requires.kind c.requires.items c.requires.intos c.requires.no c.requires.stands
          c.requires.goes) c.loop-i-test.true c.item_end-i.ensures,
    )

pub loop-i-preserved : goal.loop-i-preserved
loop-i-preserved c = (
  c.put_item.ensures.same_reference ∙ c.loop-i.invariant.0,
  λ j l m n w g. write_on (c.loop-i.invariant.1 j l m n w g)
      c.loop-i-test.true c.item_end-i.ensures
      (λ a b u q. c.put_item.ensures.put j a b n u q),
)

pub returns-clause-put : goal.returns-clause-put
returns-clause-put c = λ j l m n w g. put_left (write_end (c.loop-i.invariant.1 j l m n w g) c.loop-i-test.false) (search rules)
