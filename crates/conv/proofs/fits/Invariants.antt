-- What is left to look at decides.
use mathlib.Core.List.{List}
use Prim.Native.Nat.{◌-◌}
use lib.ListN.{length}
use Rattle.conv.specs.Items.{Item, ItemsAt}
use Rattle.conv.proofs.ItemsLeft.{FitLeft}
use Rattle.conv.proofs.fits.Given as goal

abbrev pub invariant-loop-i : goal.invariant-loop-i
invariant-loop-i v = (l : List Item) → ItemsAt v.items 0 (length v.items) l → FitLeft v.k v.items (length v.items) v.i l

abbrev pub decreases-loop-i : goal.decreases-loop-i
decreases-loop-i l = length l.items - l.i
