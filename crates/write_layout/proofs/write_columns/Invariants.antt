-- What writes the rest of the columns makes the whole, and the rest of them stands where the loop has come to.
use mathlib.Core.Path.{◌≡◌}
use mathlib.Core.List.{List}
use Prim.Native.Nat.{ℕ}
use Rattle.meaning.specs.Kinds.{Kind}
use Rattle.write_layout.specs.Memory.{Columns}
use Rattle.write_layout.proofs.Columns.{ColumnsLeft}
use Rattle.write_layout.proofs.write_columns.Given as goal

abbrev pub invariant-loop : goal.invariant-loop
invariant-loop l =
    ((e : ℕ) (j : Kind) (cols : List (List ℕ)) → Columns l.s l.at l.n l.r l.k l.pad e j cols
    → ColumnsLeft l.s l.n l.r l.k l.pad e j cols l.initial.w.out.now l.initial.w.at l.i l.w.at l.counter l.w.out.now)
    × (l.w.out.ghost_name ≡ l.initial.w.out.ghost_name)
