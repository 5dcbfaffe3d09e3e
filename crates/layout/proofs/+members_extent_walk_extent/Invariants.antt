-- `walk_extent` calls itself and `members_extent` at a depth one less, and `members_extent` calls `walk_extent` at its
-- own depth: 2d for `walk_extent` and 2d + 1 for `members_extent`.
use mathlib.Core.Path.{◌≡◌}
use Prim.Native.Nat.{ℕ, ◌+◌, ◌-◌, ◌*◌, ◌^◌, ◌≤◌, ◌<◌}
use lib.ListN.{length}
use Rattle.meaning.specs.Trees.{Tys}
use Rattle.ty.specs.Stands.{StandAll}
use Rattle.layout.proofs.Walks.{ExtentLeft}
use Rattle.layout.proofs.+members_extent_walk_extent.Given as goal

abbrev pub decreases-members_extent : goal.decreases-members_extent
decreases-members_extent l = 2 * l.depth + 1

abbrev pub invariant-members_extent-loop : goal.invariant-members_extent-loop
invariant-members_extent-loop l =
    (l.end < 2 ^ 64) × (1 ≤ l.most) × (length l.pads ≡ length l.initial.pads)
    × ((m : Tys) (e : ℕ) → StandAll l.depth l.ty l.at l.n m e
    → ExtentLeft l.depth l.ty m e l.at l.initial.pads l.i l.end l.most (l.n - l.counter) l.pads)

abbrev pub decreases-walk_extent : goal.decreases-walk_extent
decreases-walk_extent l = 2 * l.depth
