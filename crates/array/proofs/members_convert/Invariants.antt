-- What is left to look at decides.
use mathlib.Core.List.{List}
use Prim.Native.Nat.{◌-◌}
use lib.ListN.{length}
use Rattle.meaning.specs.Scalars.{some?}
use Rattle.meaning.specs.Trees.{Tys, Val, tys_list}
use Rattle.meaning.specs.Build.{memberwise}
use Rattle.array.specs.Members.{Pairs}
use Rattle.array.proofs.MembersLeft.{FitLeft}
use Rattle.array.proofs.members_convert.Given as goal

abbrev pub invariant-loop-i : goal.invariant-loop-i
invariant-loop-i v =
    (m : Tys) (l : List Val) → Pairs v.target 6 v.args 0 m l
    → FitLeft v.target v.at v.args v.i (some? (memberwise (tys_list m) l))

abbrev pub decreases-loop-i : goal.decreases-loop-i
decreases-loop-i l = length l.args - l.i
