-- `read_value` calls `read_elements` and `read_members` at a depth one less; `read_elements` calls `each_element`,
-- `read_members` calls `read_member`, and these two call `read_value`, each at its own depth d: 4d for `read_value`, 4d
-- + 1 for `read_member`, 4d + 2 for the loops, 4d + 3 for `read_elements`.
use mathlib.Core.Path.{◌≡◌}
use Prim.Native.Nat.{◌+◌, ◌*◌}
use Rattle.read_layout.proofs.Parted.{ElementsLeft}
use Rattle.read_layout.proofs.Parted.{MembersLeft}
use Rattle.read_layout.proofs.+each_element_read_elements_read_member_read_members_read_value.Given as goal

abbrev pub decreases-each_element : goal.decreases-each_element
decreases-each_element l = 4 * l.depth + 2

abbrev pub invariant-each_element-loop : goal.invariant-each_element-loop
invariant-each_element-loop l =
    ElementsLeft l.depth l.src.ty.now l.at.ty l.n l.pad l.src.pads.now l.src.bytes.now l.at.from l.initial.w.out.now
    l.initial.w.at l.w.out.now l.all.ty l.all.from l.w.at l.counter
    × (l.w.out.ghost_name ≡ l.initial.w.out.ghost_name)

abbrev pub decreases-read_elements : goal.decreases-read_elements
decreases-read_elements l = 4 * l.depth + 3

abbrev pub decreases-read_member : goal.decreases-read_member
decreases-read_member l = 4 * l.depth + 1

abbrev pub decreases-read_members : goal.decreases-read_members
decreases-read_members l = 4 * l.depth + 2

abbrev pub invariant-read_members-loop : goal.invariant-read_members-loop
invariant-read_members-loop l =
    MembersLeft l.depth l.src.ty.now l.initial.all.ty l.n l.src.pads.now l.src.bytes.now l.initial.all.from l.initial.w.out.now
    l.initial.w.at l.w.out.now l.all.ty l.all.from l.w.at l.counter
    × (l.w.out.ghost_name ≡ l.initial.w.out.ghost_name)

abbrev pub decreases-read_value : goal.decreases-read_value
decreases-read_value l = 4 * l.depth
