-- `literal::integer` meets its contract: the test is that of the definition.
use mathlib.Core.Path.{ap}
use Rattle.literal.specs.LiteralAnswers.{converted_of}
use Rattle.literal.proofs.integer.Goals as goal
use Rattle.std.specs.declared.option.Option.TheVariants.{Some}

pub returns-then-within : goal.returns-then-within
unfolding converted_of
returns-then-within c = rw (← c.within.ensures, c.if-within.true) (ap Some c.toward.ensures.value)

pub returns-else-within : goal.returns-else-within
unfolding converted_of
returns-else-within c = rw (← c.within.ensures, c.if-within.false)
