-- The type so far and what is left come to the whole.
use mathlib.Core.Path.{◌≡◌}
use mathlib.Core.List.{List}
use mathlib.Core.Option.{some}
use Prim.Native.Nat.{◌-◌}
use lib.ListN.{length}
use Rattle.meaning.specs.Trees.{Ty, Val}
use Rattle.meaning.specs.Convert.{common_from}
use Rattle.laws.proofs.Left.{Left}
use Rattle.ty.specs.Stands.{Stands}
use Rattle.args.specs.Row.{Row}
use Rattle.common_type.specs.Brought.{part_types}
use Rattle.common_type.proofs.SoFar.{SoFar}
use Rattle.common_type.proofs.common_from.Given as goal

abbrev pub invariant-loop-at : goal.invariant-loop-at
invariant-loop-at v =
    (length v.ty ≡ length v.initial.ty) × ((l : List Val) (t : Ty) → Row v.args v.i l → Stands 15 v.initial.ty 0 t v.q → Left
    (Row v.args) v.at (SoFar (part_types v.flat) v.end v.ty (common_from (some t) (part_types v.flat l))))

abbrev pub decreases-loop-at : goal.decreases-loop-at
decreases-loop-at l = length l.args - l.at
