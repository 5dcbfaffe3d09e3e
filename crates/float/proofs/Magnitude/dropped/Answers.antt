-- `float::Magnitude::dropped` meets its contract. The leading zeros tell how many digits there are.
use Rattle.float.proofs.Rounds.{places}
use borrow.Author.Rules.{rules}
use Rattle.float.proofs.Magnitude.dropped.Goals as goal

pub returns-clause-value : goal.returns-clause-value
returns-clause-value g c =
    places _ _ _ _ c.unit.ensures (search rules) (search rules) c.saturating_sub.ensures
    (rw c.DIGITS.ensures at c.saturating_sub-2.ensures)
