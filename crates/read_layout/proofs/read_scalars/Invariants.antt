-- What writes the rest makes the whole; the place in memory says what the rest is.
use mathlib.Core.Path.{◌≡◌}
use Rattle.read_layout.proofs.Scalars.{ScalarsLeft}
use Rattle.read_layout.proofs.read_scalars.Given as goal

abbrev pub invariant-loop : goal.invariant-loop
invariant-loop l =
    ScalarsLeft l.mem l.at l.n l.k l.initial.own.out.now l.initial.own.at l.own.out.now l.i l.own.at l.counter
    × (l.own.out.ghost_name ≡ l.initial.own.out.ghost_name)
