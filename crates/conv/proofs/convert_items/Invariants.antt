-- What writes the rest makes the whole.
use mathlib.Core.Path.{◌≡◌}
use mathlib.Core.List.{List}
use mathlib.Core.Option.{some}
use Prim.Native.Nat.{◌-◌}
use lib.ListN.{length}
use Rattle.meaning.specs.Kinds.{Kind, kind_no}
use Rattle.conv.specs.Items.{Item, ItemsAt, conv_item, conv_items}
use Rattle.conv.proofs.Walk.{Writing}
use Rattle.conv.proofs.convert_items.Given as goal

abbrev pub invariant-loop-i : goal.invariant-loop-i
invariant-loop-i v =
    (v.own.out.ghost_name ≡ v.initial.own.out.ghost_name) × ((j : Kind) (l m : List Item) → v.k ≡ kind_no j → ItemsAt v.items 0 (length v.items) l → conv_items j l ≡ some m
    → Writing (conv_item j) v.items (length v.items) v.initial.own.out.now v.initial.own.at m v.i v.own.at v.own.out.now)

abbrev pub decreases-loop-i : goal.decreases-loop-i
decreases-loop-i l = length l.items - l.i
