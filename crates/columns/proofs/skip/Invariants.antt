-- Where the first of those that are left end, the first of all do.
use mathlib.Core.List.{List}
use Prim.Native.Nat.{◌≤◌}
use lib.ListN.{length}
use Rattle.meaning.specs.Trees.{Val}
use Rattle.args.specs.Row.{Row}
use Rattle.columns.proofs.Columns.{SkipLeft}
use Rattle.columns.proofs.skip.Given as goal

abbrev pub invariant-loop : goal.invariant-loop
invariant-loop v = (l : List Val) → Row v.args v.i l → v.n ≤ length l → SkipLeft v.args v.i v.n l v.e v.counter
