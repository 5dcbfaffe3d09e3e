-- What writes the rest makes the whole; the padding behind each vector leads to the next.
use mathlib.Core.Path.{◌≡◌}
use Rattle.read_layout.proofs.Vectors.{ColumnsLeft}
use Rattle.read_layout.proofs.read_columns.Given as goal

abbrev pub invariant-loop : goal.invariant-loop
invariant-loop l =
    ColumnsLeft l.mem l.at l.n l.r l.k l.pad l.initial.w.out.now l.initial.w.at l.w.out.now l.i l.w.at l.counter
    × (l.w.out.ghost_name ≡ l.initial.w.out.ghost_name)
