-- The length and the kind decide.
use native.Mathlib.Omega.{arith}
use Rattle.record.proofs.Starts.{known, unknown}
use Rattle.derive.proofs.ValueFronts.{vector_only, vector_fronted}
use Rattle.derive.proofs.vector_front.Goals as goal

pub returns-then-depth-lt1 : goal.returns-then-depth-lt1
returns-then-depth-lt1 c = λ t e w. omega (arith, (vector_only c.args.depth c.args.s.now c.args.at c.requires t e w).deep)

pub returns-then-room-lt6 : goal.returns-then-room-lt6
returns-then-room-lt6 c = λ t e w. omega (arith, (vector_only c.args.depth c.args.s.now c.args.at c.requires t e w).room)

pub returns-then-not-is_side : goal.returns-then-not-is_side
returns-then-not-is_side c =
    λ t e w. unknown c.is_side.ensures c.if-not-is_side.true (vector_only c.args.depth c.args.s.now c.args.at c.requires t e w).wide

pub returns-then-not-is_kind : goal.returns-then-not-is_kind
returns-then-not-is_kind c =
    λ t e w. unknown c.is_kind.ensures c.if-not-is_kind.true (vector_only c.args.depth c.args.s.now c.args.at c.requires t e w).known

pub returns : goal.returns
returns c =
    vector_fronted c.args.depth c.args.s.now c.args.at c.requires (known c.is_side.ensures c.if-not-is_side.false)
    (known c.is_kind.ensures c.if-not-is_kind.false) (omega arith)
