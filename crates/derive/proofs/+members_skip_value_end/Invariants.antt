-- `value_end` calls itself and `members_skip` at a depth one less, and `members_skip` calls `value_end` at its own
-- depth: 2d for `value_end` and 2d + 1 for `members_skip`.
use Prim.Native.Nat.{ℕ, ◌+◌, ◌-◌, ◌*◌}
use Rattle.meaning.specs.Trees.{Tys}
use Rattle.inst.specs.Values.{TypedAll}
use Rattle.derive.proofs.Skips.{SkipLeft}
use Rattle.derive.proofs.+members_skip_value_end.Given as goal

abbrev pub decreases-members_skip : goal.decreases-members_skip
decreases-members_skip l = 2 * l.depth + 1

abbrev pub invariant-members_skip-loop : goal.invariant-members_skip-loop
invariant-members_skip-loop l =
    (m : Tys) (e : ℕ) → TypedAll l.depth l.s l.at l.n m e → SkipLeft l.depth l.s l.i (l.n - l.counter) e

abbrev pub decreases-value_end : goal.decreases-value_end
decreases-value_end l = 2 * l.depth
