-- What writes the rest makes the whole.
use Rattle.std.specs.Prelude.{◌≡◌}
use Rattle.record.specs.Literals.{literal_of}
use Rattle.record.proofs.Left.{Copies}
use Rattle.record.proofs.Writer.put_literals.Given as goal

abbrev pub invariant-loop : goal.invariant-loop
invariant-loop l =
    Copies (literal_of l.k l.bits) l.n l.initial.w.out.now l.initial.w.at l.w.out.now l.w.at l.counter
    × (l.w.out.ghost_name ≡ l.initial.w.out.ghost_name)
