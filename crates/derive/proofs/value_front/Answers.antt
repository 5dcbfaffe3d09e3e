-- The mark says which.
use mathlib.Core.Path.{refl}
use native.Mathlib.Omega.{arith}
use Rattle.derive.proofs.ValueFronts.{marked, none_marked}
use Rattle.derive.proofs.value_front.Goals as goal

pub returns-then-room-lt3 : goal.returns-then-room-lt3
returns-then-room-lt3 c = λ t e w. omega (arith, (marked c.args.depth c.args.s.now c.args.at t e w).room)

pub returns-then-s-at-ne86 : goal.returns-then-s-at-ne86
returns-then-s-at-ne86 c = λ t e w. c.if-s-at-ne86.true (marked c.args.depth c.args.s.now c.args.at t e w).first

pub returns : goal.returns
returns c =
    none_marked c.args.depth c.args.s.now c.args.at _ record { room = omega arith; first = c.if-s-at-ne86.false; second = refl }
    c.if-mark-eq115.false c.if-mark-eq118.false c.if-mark-eq109.false c.if-mark-eq97.false c.if-mark-eq117.false
