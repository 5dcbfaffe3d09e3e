-- `literal::ranged` meets its contract: the two tests are those of the definition.
use borrow.Author.Tests.{not-true, not-false}
use Rattle.literal.specs.LiteralAnswers.{paper}
use Rattle.literal.proofs.ranged.Goals as goal

pub returns-then-not-rules : goal.returns-then-not-rules
unfolding paper
returns-then-not-rules g c = rw (not-true c.args.rules.checked c.if-not-rules.true)

pub returns-then-outside : goal.returns-then-outside
unfolding paper
returns-then-outside g c =
    rw (
      not-false c.args.rules.checked c.if-not-rules.false,
      ← c.outside.ensures,
      c.if-outside.true,
    )

pub returns-else-outside : goal.returns-else-outside
unfolding paper
returns-else-outside g c =
    rw (
      not-false c.args.rules.checked c.if-not-rules.false,
      ← c.outside.ensures,
      c.if-outside.false,
    )
