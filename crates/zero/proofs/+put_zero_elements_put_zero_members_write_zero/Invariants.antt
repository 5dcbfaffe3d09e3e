-- `write_zero` calls `put_zero_elements` and `put_zero_members` at a depth one less, and both call it at their own
-- depth: 2d for `write_zero` and 2d + 1 for the others.
use Rattle.std.specs.Prelude.{◌≡◌}
use Prim.Native.Nat.{ℕ, ◌+◌, ◌*◌}
use Rattle.meaning.specs.Trees.{Ty, Tys}
use Rattle.ty.specs.Stands.{Stands, StandAll}
use Rattle.zero.proofs.Zeros.{EachLeft, AllLeft}
use Rattle.zero.proofs.+put_zero_elements_put_zero_members_write_zero.Given as goal

abbrev pub decreases-put_zero_elements : goal.decreases-put_zero_elements
decreases-put_zero_elements l = 2 * l.depth + 1

abbrev pub invariant-put_zero_elements-loop-element : goal.invariant-put_zero_elements-loop-element
invariant-put_zero_elements-loop-element l =
    ((t : Ty) (e : ℕ) → Stands l.depth l.ty l.at t e → EachLeft t e l.n l.initial.w.out.now l.initial.w.at l.end l.w.at l._element l.w.out.now)
    × (l.w.out.ghost_name ≡ l.initial.w.out.ghost_name)

abbrev pub decreases-put_zero_members : goal.decreases-put_zero_members
decreases-put_zero_members l = 2 * l.depth + 1

abbrev pub invariant-put_zero_members-loop-member : goal.invariant-put_zero_members-loop-member
invariant-put_zero_members-loop-member l =
    ((m : Tys) (e : ℕ) → StandAll l.depth l.ty l.at l.n m e
    → AllLeft l.depth l.ty m e l.n l.initial.w.out.now l.initial.w.at l.i l.w.at l._member l.w.out.now)
    × (l.w.out.ghost_name ≡ l.initial.w.out.ghost_name)

abbrev pub decreases-write_zero : goal.decreases-write_zero
decreases-write_zero l = 2 * l.depth
