-- What writes the rest makes the whole.
use mathlib.Core.Path.{◌≡◌}
use mathlib.Core.List.{List}
use Prim.Native.Nat.{ℕ, ◌-◌}
use lib.ListN.{length}
use Rattle.meaning.specs.Kinds.{Kind, kind_no}
use Rattle.meaning.specs.Trees.{Val}
use Rattle.vector.specs.VectorRules.{Goes}
use Rattle.vector.proofs.PartsLeft.{PutLeft}
use Rattle.vector.proofs.put_parts.Given as goal

abbrev pub invariant-loop-i : goal.invariant-loop-i
invariant-loop-i v =
    (v.w.out.ghost_name ≡ v.initial.w.out.ghost_name) × ((j : Kind) (l : List Val) (ps : List ℕ) → v.k ≡ kind_no j → Goes j v.args 0 l ps
    → PutLeft j v.args v.initial.w.out.now v.initial.w.at ps v.i v.w.at v.w.out.now)

abbrev pub decreases-loop-i : goal.decreases-loop-i
decreases-loop-i l = length l.args - l.i
