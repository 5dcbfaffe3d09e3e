-- `literal::Literal::convert_same` meets its contract: the test is that of the definition.
use borrow.Author.Tests.{eq-eqb, ne_eqb}
use Rattle.literal.specs.LiteralAnswers.{converted_of}
use Rattle.literal.proofs.Literal.convert_same.Goals as goal

pub returns-then-self-to : goal.returns-then-self-to
unfolding converted_of
returns-then-self-to c = rw (eq-eqb c.args.self.kind c.args.to c.if-self-to.true)

pub returns-else-self-to : goal.returns-else-self-to
unfolding converted_of
returns-else-self-to c = rw (ne_eqb c.args.self.kind c.args.to c.if-self-to.false)
