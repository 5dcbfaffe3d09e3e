-- The mark says what the item is, and so how long.
use native.Mathlib.Omega.{arith}
use Rattle.conv.proofs.ItemSteps.{item_front, item_within, literal_end, vector_end, other_end}
use Rattle.conv.proofs.item_end.Goals as goal

pub overflow_add-mark : goal.overflow_add-mark
overflow_add-mark c = omega (arith, item_front c.requires.stands)

pub bounds-src-i : goal.bounds-src-i
bounds-src-i c = omega (arith, item_front c.requires.stands)

pub bounds-src-i-then-mark-eq115 : goal.bounds-src-i-then-mark-eq115
bounds-src-i-then-mark-eq115 c = omega (arith, item_front c.requires.stands)

pub returns-then-mark-eq115 : goal.returns-then-mark-eq115
returns-then-mark-eq115 c = λ a w. literal_end w c.if-mark-eq115.true c.literal_len.ensures

pub returns-then-mark-eq118 : goal.returns-then-mark-eq118
returns-then-mark-eq118 c = λ a w. vector_end w c.if-mark-eq118.true

pub overflow_add-result-2 : goal.overflow_add-result-2
overflow_add-result-2 c =
    omega
    (arith, item_within c.requires.stands, other_end c.requires.stands c.if-mark-eq115.false c.if-mark-eq118.false)

pub returns : goal.returns
returns c = λ a w. other_end w c.if-mark-eq115.false c.if-mark-eq118.false
