-- The count decides.
use native.Mathlib.Omega.{arith}
use Rattle.derive.proofs.ValueFronts.{array_only, array_fronted}
use Rattle.derive.proofs.array_front.Goals as goal

pub returns-then-depth-lt1 : goal.returns-then-depth-lt1
returns-then-depth-lt1 c = λ t e w. omega (arith, (array_only c.args.depth c.args.s.now c.args.at c.requires t e w).deep)

pub returns-then-room-lt4 : goal.returns-then-room-lt4
returns-then-room-lt4 c = λ t e w. omega (arith, (array_only c.args.depth c.args.s.now c.args.at c.requires t e w).room)

pub returns-then-n-lt1 : goal.returns-then-n-lt1
returns-then-n-lt1 c = λ t e w. let x = array_only c.args.depth c.args.s.now c.args.at c.requires t e w in omega (arith, x.size, x.some, c.join-n.ensures)

pub returns : goal.returns
returns c =
    array_fronted c.args.depth c.args.s.now c.args.at (λ i. (c.type_inv.s i).fits) c.requires (omega arith) c.join-n.result c.join-n.ensures
    (omega arith) (omega arith)
