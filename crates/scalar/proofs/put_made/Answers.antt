-- A mark is copied; a literal is made, and one that its constructor refuses is asked for by nobody.
use native.Mathlib.Omega.{arith}
use Rattle.conv.proofs.ItemSteps.{item_front, item_within, literal_within}
use Rattle.scalar.proofs.MadeSteps.{mark_length, mark_copied, literal_made, literal_room, literal_put}
use Rattle.scalar.proofs.put_made.Goals as goal

pub overflow_add-mark : goal.overflow_add-mark
overflow_add-mark c = omega (arith, item_front c.requires.stands)

pub bounds-src-i : goal.bounds-src-i
bounds-src-i c = omega (arith, item_front c.requires.stands)

pub slice_bounds-put_bytes-end : goal.slice_bounds-put_bytes-end
slice_bounds-put_bytes-end c =
    omega (arith, item_within c.requires.stands, c.item_end-end.ensures c.requires.item c.requires.stands)

pub put_bytes-requires : goal.put_bytes-requires
put_bytes-requires c =
    let e = c.item_end-end.ensures c.requires.item c.requires.stands in
    omega (arith, item_within c.requires.stands, c.requires.room, mark_length c.requires.stands c.if-mark-ne115.true c.requires.at c.requires.kind c.requires.goes e)

pub returns-then-mark-ne115-clause-put : goal.returns-then-mark-ne115-clause-put
returns-then-mark-ne115-clause-put c =
    λ s j a b x w g. mark_copied w c.if-mark-ne115.true s j g (c.item_end-end.ensures a w)
    c.put_bytes.ensures.put

pub made_at-requires : goal.made_at-requires
made_at-requires c = search literal_within

pub returns-in_default-clause-put : goal.returns-in_default-clause-put
returns-in_default-clause-put c =
    λ s j a b x w g. absurd (c.in_default.not-Ok _ (literal_made w c.if-mark-ne115.false x c.made_at.result
    c.made_at.ensures g).1)

pub put_literal-requires : goal.put_literal-requires
put_literal-requires c =
    literal_room c.requires.stands c.if-mark-ne115.false c.requires.ctor c.made_at.result c.made_at.ensures c.requires.goes
    c.in-Ok.is _ c.requires.room

pub returns-clause-put : goal.returns-clause-put
returns-clause-put c =
    λ s j a b x w g. literal_put w (search) x c.made_at.result c.made_at.ensures g c.in-Ok.is
    c.put_literal.ensures.put
