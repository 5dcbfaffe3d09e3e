-- Twice or four times a scalar's size, which is at most 4.
use native.Mathlib.Omega.{arith}
use borrow.Author.Tests.{ne_eqb}
use Rattle.layout.proofs.Extents.{vector_align}
use Rattle.layout.proofs.vector_align.Goals as goal

pub returns-then-n-eq2 : goal.returns-then-n-eq2
returns-then-n-eq2 c = vector_align _ 2 (rw c.if-n-eq2.true) (omega arith) c.scalar_size-size.ensures.0 c.scalar_size-size.ensures.2

pub returns : goal.returns
returns c =
    vector_align _ 4 (rw (ne_eqb _ 2 c.if-n-eq2.false)) (omega arith) c.scalar_size-size.ensures.0
    c.scalar_size-size.ensures.2
