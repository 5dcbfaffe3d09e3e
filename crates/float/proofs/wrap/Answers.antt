-- `float::wrap` meets its contract. Two's complement of 32 bits.
use Rattle.meaning.specs.Scalars as Scalars
use Rattle.float.proofs.wrap.Goals as goal

pub returns-then-negative-clause-value : goal.returns-then-negative-clause-value
unfolding Scalars.wrap
returns-then-negative-clause-value c = rw c.if-negative.true

pub returns-else-negative-clause-value : goal.returns-else-negative-clause-value
unfolding Scalars.wrap
returns-else-negative-clause-value c = rw c.if-negative.false
