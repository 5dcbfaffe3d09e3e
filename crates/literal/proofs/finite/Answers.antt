-- `literal::finite` meets its contract: the test is on the very pattern that is answered.
use Rattle.literal.specs.LiteralAnswers.{converted_of}
use Rattle.literal.proofs.finite.Goals as goal

pub returns-then-is_finite : goal.returns-then-is_finite
unfolding converted_of
returns-then-is_finite g c = rw (← c.is_finite.ensures, c.if-is_finite.true)

pub returns-else-is_finite : goal.returns-else-is_finite
unfolding converted_of
returns-else-is_finite g c = rw (← c.is_finite.ensures, c.if-is_finite.false)
