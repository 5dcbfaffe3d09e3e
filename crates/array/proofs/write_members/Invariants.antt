-- What writes the rest makes the whole.
use mathlib.Core.Path.{◌≡◌}
use mathlib.Core.List.{List}
use mathlib.Core.Option.{some}
use Prim.Native.Nat.{◌-◌}
use lib.ListN.{length}
use Rattle.meaning.specs.Trees.{Tys, Val, tys_list}
use Rattle.meaning.specs.Build.{memberwise}
use Rattle.array.specs.Members.{Pairs}
use Rattle.array.proofs.MembersLeft.{PutLeft}
use Rattle.array.proofs.write_members.Given as goal

abbrev pub invariant-loop-from : goal.invariant-loop-from
invariant-loop-from v =
    (v.w.out.ghost_name ≡ v.initial.w.out.ghost_name) × ((m : Tys) (l ws : List Val) → Pairs v.target 6 v.args 0 m l
    → memberwise (tys_list m) l ≡ some ws → PutLeft v.target v.at v.args v.from v.initial.w.out.now v.initial.w.at ws v.w.at v.w.out.now)

abbrev pub decreases-loop-from : goal.decreases-loop-from
decreases-loop-from l = length l.args - l.from
