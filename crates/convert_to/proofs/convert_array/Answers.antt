-- No array is refused; an array goes to the counted one.
use mathlib.Core.Path.{refl, sym}
use Prim.Native.Nat.{◌≤◌}
use lib.ListN.{length}
use lib.Seq.{length-take-le}
use Rattle.error.proofs.BufferAtExit.{refused}
use Rattle.error.proofs.Told.{told_as}
use Rattle.convert_to.proofs.Runtimes.{found_runtime, mark_room, target_sizes, front_room, runtime_no, counted, counted_stands}
use Rattle.convert_to.proofs.Runtimes.{counted_asked, counted_same}
use Rattle.convert_to.proofs.convert_array.Goals as goal
use Rattle.convert_to.proofs.convert_array.Goals.{After-counted-m}

within : (c : After-counted-m) → c.counted-m.result ≤ length c.counted-m.new.out
within c = (counted_stands (found_runtime c.requires.0 c.requires.1) c.if-ty-ne97.false refl c.counted-m.ensures).within

pub bounds-ty-1 : goal.bounds-ty-1
bounds-ty-1 c = mark_room (found_runtime c.requires.0 c.requires.1)

pub returns-then-ty-ne97 : goal.returns-then-ty-ne97
returns-then-ty-ne97 c = λ t v x. refused _ _ (runtime_no x _ c.if-ty-ne97.true)

pub counted-m-requires : goal.counted-m-requires
counted-m-requires c =
    let x = found_runtime c.requires.0 c.requires.1 in
    let s = target_sizes x in (front_room x c.if-ty-ne97.false, s.0, s.1)

pub slice_bounds-whole-end : goal.slice_bounds-whole-end
slice_bounds-whole-end c = within (goal.at.slice_bounds-whole-end c).After-counted-m

pub slice_bounds-to-end : goal.slice_bounds-to-end
slice_bounds-to-end c =
    sym (length-take-le _ _ (within (goal.at.slice_bounds-to-end c).After-counted-m))

pub invariant_of-to : goal.invariant_of-to
invariant_of-to c =
    let x = counted_asked (found_runtime c.requires.0 c.requires.1) c.if-ty-ne97.false refl c.counted-m.ensures in
    record { one = record { type = _; stands = x.whole } }

pub returns : goal.returns
returns c =
    λ t v x. told_as (counted_same x c.if-ty-ne97.false _) (c.convert_value.ensures (counted x c.if-ty-ne97.false) v
    (counted_asked x c.if-ty-ne97.false refl c.counted-m.ensures))
