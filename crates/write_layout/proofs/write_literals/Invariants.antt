-- What writes the rest of the scalars makes the whole, and the rest of the literals stands where the loop has come to.
use mathlib.Core.Path.{◌≡◌}
use mathlib.Core.List.{List}
use Prim.Native.Nat.{ℕ}
use Rattle.meaning.specs.Kinds.{Kind}
use Rattle.write_layout.specs.Memory.{Literals}
use Rattle.write_layout.proofs.Literals.{LiteralsLeft}
use Rattle.write_layout.proofs.write_literals.Given as goal

abbrev pub invariant-loop : goal.invariant-loop
invariant-loop l =
    ((e : ℕ) (j : Kind) (ps : List ℕ) → Literals l.s l.at l.n l.k e j ps
    → LiteralsLeft l.s l.n l.k e j ps l.initial.own.out.now l.initial.own.at l.i l.own.at l.counter l.own.out.now)
    × (l.own.out.ghost_name ≡ l.initial.own.out.ghost_name)
