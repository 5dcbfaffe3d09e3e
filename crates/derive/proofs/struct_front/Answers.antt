-- The member count decides.
use Prim.Native.Nat.{◌≤◌}
use native.Mathlib.Omega.{arith}
use Rattle.derive.proofs.ValueFronts.{struct_only, struct_fronted}
use Rattle.derive.proofs.struct_front.Goals as goal

pub returns-then-depth-lt1 : goal.returns-then-depth-lt1
returns-then-depth-lt1 c = λ t e w. omega (arith, (struct_only c.args.depth c.args.s.now c.args.at c.requires t e w).deep)

pub returns-then-room-lt6 : goal.returns-then-room-lt6
returns-then-room-lt6 c = λ t e w. omega (arith, (struct_only c.args.depth c.args.s.now c.args.at c.requires t e w).room)

pub returns-then-not-matches : goal.returns-then-not-matches
returns-then-not-matches c =
    λ t e w. let x = struct_only c.args.depth c.args.s.now c.args.at c.requires t e w in
    let q = c.join-n.ensures in
    let l : 1 ≤ c.join-n.result = omega (arith, x.size, x.some) in
    let m : c.join-n.result ≤ 1023 = omega (arith, x.size, x.most) in
    grind arith

pub returns : goal.returns
returns c =
    struct_fronted c.args.depth c.args.s.now c.args.at (λ i. (c.type_inv.s i).fits) c.requires (omega arith) c.join-i.result c.join-n.result
    c.join-i.ensures c.join-n.ensures (grind arith) (grind arith) (omega arith)
