-- What writes the rest makes the whole.
use mathlib.Core.Path.{◌≡◌}
use mathlib.Core.List.{List}
use Prim.Native.Nat.{◌-◌}
use lib.ListN.{length}
use Rattle.meaning.specs.Kinds.{Kind}
use Rattle.meaning.specs.Scalars.{Stage}
use Rattle.meaning.specs.Answers.{ok}
use Rattle.conv.specs.Items.{Item, ItemsAt}
use Rattle.scalar.specs.Made.{make_items, Ctor}
use Rattle.conv.proofs.Walk.{Writing}
use Rattle.scalar.proofs.MadeLeft.{made_of}
use Rattle.scalar.proofs.write_made.Given as goal

abbrev pub invariant-loop-i : goal.invariant-loop-i
invariant-loop-i v =
    (v.own.out.ghost_name ≡ v.initial.own.out.ghost_name) × ((s : Stage) (j : Kind) (l m : List Item) → Ctor v.rules v.k s j → ItemsAt v.items 0 (length v.items) l
    → make_items s j l ≡ ok m → Writing (made_of s j) v.items (length v.items) v.initial.own.out.now v.initial.own.at m v.i v.own.at v.own.out.now)

abbrev pub decreases-loop-i : goal.decreases-loop-i
decreases-loop-i l = length l.items - l.i
