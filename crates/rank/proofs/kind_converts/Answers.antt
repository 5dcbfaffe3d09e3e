-- The bit of the one kind among those of the other.
use native.Mathlib.Omega.{arith}
use Rattle.rank.proofs.Ranks.{kind_most, kind_goes}
use Rattle.rank.proofs.kind_converts.Goals as goal

pub returns-then-from-gt-F16 : goal.returns-then-from-gt-F16
returns-then-from-gt-F16 c = λ a b e f. absurd (omega (arith, c.if-from-gt-F16.true, e, kind_most a))

pub returns-then-to-gt-F16 : goal.returns-then-to-gt-F16
returns-then-to-gt-F16 c = λ a b e f. absurd (omega (arith, c.if-to-gt-F16.true, f, kind_most b))

pub returns : goal.returns
returns c = λ a b e f. rw c.kinds_from.ensures (kind_goes a b e f)
