-- The literals from i on end where all of them do.
use mathlib.Core.Path.{◌≡◌}
use Prim.Native.Nat.{◌-◌, ◌≤◌}
use lib.ListN.{length}
use Rattle.meaning.specs.Kinds.{Kind, kind_no}
use Rattle.meaning.specs.Trees.{Ts}
use Rattle.ty.specs.TypeFronts.{Same}
use Rattle.inst.specs.Values.{FitsAll, copies}
use Rattle.inst.proofs.literals.Given as goal

abbrev pub invariant-loop : goal.invariant-loop
invariant-loop l =
    (l.i ≤ length l.s) ×
    ((j : Kind) → l.k ≡ kind_no j →
    Same (FitsAll l.s l.i (copies (l.n - l.counter) (Ts j))) (FitsAll l.s l.at (copies l.n (Ts j))))
