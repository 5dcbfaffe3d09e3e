-- What is left to look at decides: from i on there are types, and what is said of them is said of all.
use mathlib.Core.Bool.{Bool}
use mathlib.Core.List.{List}
use Prim.Native.Nat.{◌-◌}
use lib.ListN.{length}
use Rattle.meaning.specs.Answers.{Result, all}
use Rattle.meaning.specs.Kinds.{Kind}
use Rattle.meaning.specs.Trees.{Ty}
use Rattle.laws.proofs.Left.{Left}
use Rattle.shape.specs.TypeRows.{TypeRow}
use Rattle.arg_types.specs.Components.{Passes, Tests}
use Rattle.arg_types.proofs.each_passes.Given as goal

abbrev pub invariant-loop-i : goal.invariant-loop-i
invariant-loop-i g v =
    (l : List Ty) → TypeRow v.args 0 l → Left (TypeRow v.args) v.i
    (λ m. (f : Ty → Result Kind) → Tests (goal.F-post g v.test) v.args f
    → (b : Bool) → Passes 12 (all f m) b → Passes 12 (all f l) b)

abbrev pub decreases-loop-i : goal.decreases-loop-i
decreases-loop-i g l = length l.args - l.i
