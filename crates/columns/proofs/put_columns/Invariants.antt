-- What writes the rest of the columns makes the whole.
use mathlib.Core.Path.{◌≡◌}
use mathlib.Core.List.{List}
use Prim.Native.Nat.{ℕ}
use Rattle.meaning.specs.Kinds.{Kind}
use Rattle.columns.specs.Columns.{Scalars}
use Rattle.columns.proofs.Columns.{ColumnsLeft}
use Rattle.columns.proofs.put_columns.Given as goal

abbrev pub invariant-loop : goal.invariant-loop
invariant-loop l =
    (l.w.out.ghost_name ≡ l.initial.w.out.ghost_name) ×
    ((j : Kind) (qs : List ℕ) → Scalars l.size.columns l.size.rows l.k l.args j qs
    → ColumnsLeft j l.args l.size.columns l.size.rows l.initial.w.out.now l.initial.w.at qs l.i l.w.at l.counter
    l.w.out.now)
