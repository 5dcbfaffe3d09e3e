-- The next kind, else the first, else none.
use Rattle.shape.proofs.KindsFound.{meet_next, meet_first, meet_none}
use Rattle.shape.proofs.meet_kinds.Goals as goal

pub returns-then-kind_converts : goal.returns-then-kind_converts
returns-then-kind_converts c = λ a b e f. meet_next a b e f (c.kind_converts.ensures a b e f) c.if-kind_converts.true

pub returns-then-kind_converts-2 : goal.returns-then-kind_converts-2
returns-then-kind_converts-2 c =
    λ a b e f. meet_first a b e f (c.kind_converts.ensures a b e f)
    (c.kind_converts-2.ensures b a f e) c.if-kind_converts.false c.if-kind_converts-2.true

pub returns : goal.returns
returns c =
    λ a b e f. meet_none a b e f (c.kind_converts.ensures a b e f)
    (c.kind_converts-2.ensures b a f e) c.if-kind_converts.false c.if-kind_converts-2.false
