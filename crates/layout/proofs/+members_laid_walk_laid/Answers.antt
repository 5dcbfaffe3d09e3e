-- The members from the first one on that has no layout, and the parts of the type that stands there.
use mathlib.Core.Path.{◌≡◌, refl}
use Prim.Native.Nat.{◌-◌}
use native.Mathlib.Omega.{arith}
use Rattle.layout.proofs.Parts.{array_deep, array_part, struct_deep, struct_parts}
use Rattle.layout.proofs.LaidTypes.{scalar_laid, vector_laid, matrix_laid, array_laid, struct_laid, laid_first}
use Rattle.layout.proofs.LaidTypes.{laid_again, laid_bad, laid_none}
use Rattle.layout.proofs.+members_laid_walk_laid.Goals as goal

pub members_laid-loop-init : goal.members_laid-loop-init
members_laid-loop-init t c =
    λ m e w. let z : c.args.n - 0 ≡ c.args.n = omega arith in record { types = m; stands = rw z w; same = refl }

pub members_laid-walk_laid-requires : goal.members_laid-walk_laid-requires
members_laid-walk_laid-requires t c = (
  omega (arith, c.decreases),
  laid_first (c.loop.invariant c.requires.types c.requires.end c.requires.stands) (omega arith),
)

pub members_laid-returns-in_err-i : goal.members_laid-returns-in_err-i
members_laid-returns-in_err-i t c =
    rw c.from_residual.ensures (λ m e w. laid_bad (c.loop.invariant m e w) (omega arith) c.in_err-i.ensures)

pub members_laid-loop-preserved : goal.members_laid-loop-preserved
members_laid-loop-preserved t c =
    λ m e w. laid_again (c.loop.invariant m e w) (omega arith) (omega arith) c.in_ok-i.ensures

pub members_laid-returns : goal.members_laid-returns
members_laid-returns t c = λ m e w. laid_none (c.loop.invariant m e w) (omega arith)

pub walk_laid-overflow_sub-depth : goal.walk_laid-overflow_sub-depth
walk_laid-overflow_sub-depth t c = array_deep c.requires c.in-Array.ensures

pub walk_laid-walk_laid-requires : goal.walk_laid-walk_laid-requires
walk_laid-walk_laid-requires t c =
    (omega (arith, c.decreases, array_deep c.requires c.in-Array.ensures), array_part c.requires c.in-Array.ensures)

pub walk_laid-overflow_sub-depth-in-Struct : goal.walk_laid-overflow_sub-depth-in-Struct
walk_laid-overflow_sub-depth-in-Struct t c = struct_deep c.requires c.in-Struct.ensures

pub walk_laid-members_laid-requires : goal.walk_laid-members_laid-requires
walk_laid-members_laid-requires t c =
    (omega (arith, c.decreases, struct_deep c.requires c.in-Struct.ensures), struct_parts c.requires c.in-Struct.ensures)

pub walk_laid-returns-in-Scalar : goal.walk_laid-returns-in-Scalar
walk_laid-returns-in-Scalar t c = scalar_laid c.in-Scalar.ensures c.laid_end.ensures

pub walk_laid-returns-in-Vector : goal.walk_laid-returns-in-Vector
walk_laid-returns-in-Vector t c = vector_laid c.in-Vector.ensures c.laid_end-in-Vector.ensures

pub walk_laid-returns-in-Matrix : goal.walk_laid-returns-in-Matrix
walk_laid-returns-in-Matrix t c = matrix_laid c.in-Matrix.ensures c.laid_end-in-Matrix.ensures

pub walk_laid-returns-in-Array : goal.walk_laid-returns-in-Array
walk_laid-returns-in-Array t c = array_laid c.in-Array.ensures c.walk_laid.ensures

pub walk_laid-returns-in-Struct : goal.walk_laid-returns-in-Struct
walk_laid-returns-in-Struct t c = struct_laid c.in-Struct.ensures c.members_laid.ensures
