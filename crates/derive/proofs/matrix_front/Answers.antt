-- The two lengths and the kind decide.
use native.Mathlib.Omega.{arith}
use Rattle.record.proofs.Starts.{known, unknown}
use Rattle.derive.proofs.ValueFronts.{matrix_only, matrix_fronted}
use Rattle.derive.proofs.matrix_front.Goals as goal

pub returns-then-depth-lt2 : goal.returns-then-depth-lt2
returns-then-depth-lt2 c = λ t e w. omega (arith, (matrix_only c.args.depth c.args.s.now c.args.at c.requires t e w).deep)

pub returns-then-room-lt10 : goal.returns-then-room-lt10
returns-then-room-lt10 c = λ t e w. omega (arith, (matrix_only c.args.depth c.args.s.now c.args.at c.requires t e w).room)

pub returns-then-not-is_side : goal.returns-then-not-is_side
returns-then-not-is_side c =
    λ t e w. unknown c.is_side.ensures c.if-not-is_side.true (matrix_only c.args.depth c.args.s.now c.args.at c.requires t e w).wide

pub returns-then-not-is_side-2 : goal.returns-then-not-is_side-2
returns-then-not-is_side-2 c =
    λ t e w. unknown c.is_side-2.ensures c.if-not-is_side-2.true (matrix_only c.args.depth c.args.s.now c.args.at c.requires t e w).high

pub returns-then-not-is_float : goal.returns-then-not-is_float
returns-then-not-is_float c =
    λ t e w. unknown c.is_float.ensures c.if-not-is_float.true (matrix_only c.args.depth c.args.s.now c.args.at c.requires t e w).float

pub returns : goal.returns
returns c =
    matrix_fronted c.args.depth c.args.s.now c.args.at c.requires (known c.is_side.ensures c.if-not-is_side.false)
    (known c.is_side-2.ensures c.if-not-is_side-2.false) (known c.is_float.ensures c.if-not-is_float.false)
    (omega arith)
