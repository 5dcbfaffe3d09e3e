-- `value_as` calls `elements_as` and `members_as` at a depth one less; `elements_as` calls `each_as`, `members_as`
-- calls `member_as`, and these two call `value_as`, each at its own depth d: 4d for `value_as`, 4d + 1 for `member_as`,
-- 4d + 2 for the loops, 4d + 3 for `elements_as`.
use mathlib.Core.Path.{◌≡◌}
use Prim.Native.Nat.{ℕ, ◌+◌, ◌-◌, ◌*◌, ◌<◌, ◌≤◌}
use lib.ListN.{length}
use Rattle.meaning.specs.Trees.{Ty, Tys}
use Rattle.ty.specs.Stands.{Stands, StandAll}
use Rattle.ty.specs.TypeFronts.{Same}
use Rattle.inst.specs.Values.{FitsAll, copies}
use Rattle.inst.proofs.ByType.{MembersLeft}
use Rattle.inst.proofs.+each_as_elements_as_member_as_members_as_value_as.Given as goal

abbrev pub decreases-each_as : goal.decreases-each_as
decreases-each_as l = 4 * l.depth + 2

abbrev pub invariant-each_as-loop : goal.invariant-each_as-loop
invariant-each_as-loop l =
    (l.i ≤ length l.s) ×
    ((t : Ty) (z : ℕ) → Stands l.depth l.ty l.o t z →
    Same (FitsAll l.s l.i (copies (l.n - l.counter) t)) (FitsAll l.s l.at (copies l.n t)) × (0 < l.counter → l.q ≡ z))

abbrev pub decreases-elements_as : goal.decreases-elements_as
decreases-elements_as l = 4 * l.depth + 3

abbrev pub decreases-member_as : goal.decreases-member_as
decreases-member_as l = 4 * l.depth + 1

abbrev pub decreases-members_as : goal.decreases-members_as
decreases-members_as l = 4 * l.depth + 2

abbrev pub invariant-members_as-loop : goal.invariant-members_as-loop
invariant-members_as-loop l =
    (l.i ≤ length l.s) ×
    ((m : Tys) (z : ℕ) → StandAll l.depth l.ty l.o l.n m z → MembersLeft l.depth l.ty l.s l.at m z l.i l.q (l.n - l.counter))

abbrev pub decreases-value_as : goal.decreases-value_as
decreases-value_as l = 4 * l.depth
