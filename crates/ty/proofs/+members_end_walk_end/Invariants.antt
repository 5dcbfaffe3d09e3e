-- `walk_end` calls itself and `members_end` at a depth one less, and `members_end` calls `walk_end` at its own depth:
-- 2d for `walk_end` and 2d + 1 for `members_end`.
use Prim.Native.Nat.{◌+◌, ◌-◌, ◌*◌, ◌≤◌}
use lib.ListN.{length}
use Rattle.ty.specs.Stands.{EndAll}
use Rattle.ty.specs.TypeFronts.{Same}
use Rattle.ty.proofs.+members_end_walk_end.Given as goal

abbrev pub decreases-members_end : goal.decreases-members_end
decreases-members_end l = 2 * l.depth + 1

abbrev pub invariant-members_end-loop : goal.invariant-members_end-loop
invariant-members_end-loop l =
    (l.i ≤ length l.s) × Same (EndAll l.depth l.s l.i (l.n - l.counter)) (EndAll l.depth l.s l.at l.n)

abbrev pub decreases-walk_end : goal.decreases-walk_end
decreases-walk_end l = 2 * l.depth
