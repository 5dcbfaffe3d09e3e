-- `write_value` calls `write_elements` and `write_members` at a depth one less; `write_elements` calls `each_element`,
-- `write_members` calls `write_member`, and these two call `write_value`, each at its own depth d: 4d for
-- `write_value`, 4d + 1 for `write_member`, 4d + 2 for the loops, 4d + 3 for `write_elements`.
use mathlib.Core.Path.{◌≡◌}
use Prim.Native.Nat.{ℕ, ◌+◌, ◌*◌}
use Rattle.meaning.specs.Trees.{Ty, Vals}
use Rattle.write_layout.specs.Memory.{Elements, Members}
use Rattle.write_layout.proofs.Walks.{EachLeft, AllLeft}
use Rattle.write_layout.proofs.+each_element_write_elements_write_member_write_members_write_value.Given as goal

abbrev pub decreases-each_element : goal.decreases-each_element
decreases-each_element l = 4 * l.depth + 2

abbrev pub invariant-each_element-loop : goal.invariant-each_element-loop
invariant-each_element-loop v =
    ((q e : ℕ) (t : Ty) (l : Vals) → Elements v.depth v.src.ty.now v.at.ty v.n v.pad v.src.pads.now v.src.bytes.now v.at.from q e t l
    → EachLeft v.src.bytes.now q e v.n t l v.initial.w.out.now v.initial.w.at v.all.ty v.all.from v.w.at v.counter v.w.out.now)
    × (v.w.out.ghost_name ≡ v.initial.w.out.ghost_name)

abbrev pub decreases-write_elements : goal.decreases-write_elements
decreases-write_elements l = 4 * l.depth + 3

abbrev pub decreases-write_member : goal.decreases-write_member
decreases-write_member l = 4 * l.depth + 1

abbrev pub decreases-write_members : goal.decreases-write_members
decreases-write_members l = 4 * l.depth + 2

abbrev pub invariant-write_members-loop : goal.invariant-write_members-loop
invariant-write_members-loop v =
    ((q e off : ℕ) (l : Vals) → Members v.depth v.src.ty.now v.initial.all.ty v.n v.src.pads.now v.src.bytes.now v.initial.all.from q e off l
    → AllLeft v.depth v.src.ty.now v.n v.src.pads.now v.src.bytes.now q e off l v.initial.w.out.now v.initial.w.at v.all.ty
    v.all.from v.w.at v.counter v.w.out.now)
    × (v.w.out.ghost_name ≡ v.initial.w.out.ghost_name)

abbrev pub decreases-write_value : goal.decreases-write_value
decreases-write_value l = 4 * l.depth
