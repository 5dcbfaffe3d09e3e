-- A mark is copied; a literal is converted, and one that does not convert is asked for by nobody.
use native.Mathlib.Omega.{arith}
use Rattle.conv.proofs.ItemSteps.{item_front, item_within, mark_room, mark_put, literal_within, literal_room, literal_put}
use Rattle.conv.proofs.ItemSteps.{literal_never}
use Rattle.conv.proofs.put_item.Goals as goal

pub overflow_add-mark : goal.overflow_add-mark
overflow_add-mark c = omega (arith, item_front c.requires.stands)

pub bounds-src-i : goal.bounds-src-i
bounds-src-i c = omega (arith, item_front c.requires.stands)

pub slice_bounds-put_bytes-end : goal.slice_bounds-put_bytes-end
slice_bounds-put_bytes-end c =
    omega (arith, item_within c.requires.stands, c.item_end-end.ensures c.requires.item c.requires.stands)

pub put_bytes-requires : goal.put_bytes-requires
put_bytes-requires c =
    let e = c.item_end-end.ensures c.requires.item c.requires.stands in
    omega (arith, item_within c.requires.stands, c.requires.room, mark_room c.requires.stands c.if-mark-ne115.true c.requires.kind c.requires.goes e)

pub returns-then-mark-ne115-clause-put : goal.returns-then-mark-ne115-clause-put
returns-then-mark-ne115-clause-put c =
    λ j a b n w g. mark_put w c.if-mark-ne115.true j g
    (c.item_end-end.ensures a w) c.put_bytes.ensures.put

pub converted_at-requires : goal.converted_at-requires
converted_at-requires c = literal_within c.requires.stands c.if-mark-ne115.false

pub put_literal-requires : goal.put_literal-requires
put_literal-requires c =
    literal_room c.requires.stands c.if-mark-ne115.false c.requires.kind c.requires.no
    c.converted_at.ensures c.requires.goes _ c.in-Some.is c.requires.room

pub returns-clause-put : goal.returns-clause-put
returns-clause-put c =
    λ j a b n w g. literal_put w (search) j n c.converted_at.ensures g c.in-Some.is
    c.put_literal.ensures.put

pub returns-in_default-clause-put : goal.returns-in_default-clause-put
returns-in_default-clause-put c =
    λ j a b n w g. absurd (literal_never w c.if-mark-ne115.false j n c.converted_at.ensures g
    c.in_default.is)
