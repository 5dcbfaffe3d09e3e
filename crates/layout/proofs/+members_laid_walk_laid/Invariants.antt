-- `walk_laid` calls itself and `members_laid` at a depth one less, and `members_laid` calls `walk_laid` at its own
-- depth: 2d for `walk_laid` and 2d + 1 for `members_laid`.
use Prim.Native.Nat.{ℕ, ◌+◌, ◌-◌, ◌*◌}
use Rattle.meaning.specs.Trees.{Tys}
use Rattle.ty.specs.Stands.{StandAll}
use Rattle.layout.proofs.LaidTypes.{LaidLeft}
use Rattle.layout.proofs.+members_laid_walk_laid.Given as goal

abbrev pub decreases-members_laid : goal.decreases-members_laid
decreases-members_laid l = 2 * l.depth + 1

abbrev pub invariant-members_laid-loop : goal.invariant-members_laid-loop
invariant-members_laid-loop l =
    (m : Tys) (e : ℕ) → StandAll l.depth l.ty l.at l.n m e → LaidLeft l.depth l.ty m e l.i (l.n - l.counter)

abbrev pub decreases-walk_laid : goal.decreases-walk_laid
decreases-walk_laid l = 2 * l.depth
