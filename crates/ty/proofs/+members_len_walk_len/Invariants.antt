-- `walk_len` calls itself and `members_len` at a depth one less, and `members_len` calls `walk_len` at its own depth:
-- 2d for `walk_len` and 2d + 1 for `members_len`.
use Prim.Native.Nat.{ℕ, ◌+◌, ◌-◌, ◌*◌, ◌<◌, ◌^◌}
use Rattle.meaning.specs.Trees.{Tys}
use Rattle.ty.specs.Stands.{StandAll}
use Rattle.ty.proofs.Lens.{LenLeft}
use Rattle.ty.proofs.+members_len_walk_len.Given as goal

abbrev pub decreases-members_len : goal.decreases-members_len
decreases-members_len l = 2 * l.depth + 1

abbrev pub invariant-members_len-loop : goal.invariant-members_len-loop
invariant-members_len-loop l =
    (l.sum < 2 ^ 64) ×
    ((m : Tys) (e : ℕ) → StandAll l.depth l.ty l.at l.n m e → LenLeft l.depth l.ty m e l.i (l.n - l.counter) l.sum)

abbrev pub decreases-walk_len : goal.decreases-walk_len
decreases-walk_len l = 2 * l.depth
