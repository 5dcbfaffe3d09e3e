-- The tests of the mark and the kind are the front; behind it the payload's range decides.
use native.Mathlib.Omega.{arith}
use Rattle.inst.proofs.Lits.{literal_front, literal_decides}
use Rattle.inst.proofs.is_literal.Goals as goal

pub returns-then-s-at : goal.returns-then-s-at
returns-then-s-at c =
    λ j i. literal_decides i
    record { room = grind arith; first = grind arith; second = grind arith; kind = grind arith }
    (λ x. (c.type_inv.s x).fits) c.number.result c.number.ensures

pub returns-else-s-at : goal.returns-else-s-at
returns-else-s-at c = λ j i. rw c.if-s-at.false (λ f. let x = literal_front i f in absurd (grind arith))
