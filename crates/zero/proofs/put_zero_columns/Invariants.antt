-- What writes the rest makes the whole.
use Rattle.std.specs.Prelude.{◌≡◌}
use Rattle.zero.specs.Zeros.{vector_of}
use Rattle.record.proofs.Left.{Copies}
use Rattle.zero.proofs.put_zero_columns.Given as goal

abbrev pub invariant-loop : goal.invariant-loop
invariant-loop l =
    Copies (vector_of l.size.rows l.k) l.size.columns l.initial.w.out.now l.initial.w.at l.w.out.now l.w.at l.counter
    × (l.w.out.ghost_name ≡ l.initial.w.out.ghost_name)
