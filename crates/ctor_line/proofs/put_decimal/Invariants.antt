-- What writes the rest makes the whole.
use Rattle.std.specs.Prelude.{◌≡◌}
use Prim.Native.Nat.{◌≤◌}
use lib.ListN.{length}
use Rattle.meaning.specs.Entries.{decimal}
use Rattle.ctor_line.proofs.Digits.{DigitsLeft}
use Rattle.ctor_line.proofs.put_decimal.Given as goal

abbrev pub invariant-loop-p : goal.invariant-loop-p
invariant-loop-p l =
    (length (decimal l.n) ≤ 20)
    × DigitsLeft l.n l.initial.w.out.now l.initial.w.at l.w.out.now l.p l.w.at
    × (l.w.out.ghost_name ≡ l.initial.w.out.ghost_name)

abbrev pub decreases-loop-p : goal.decreases-loop-p
decreases-loop-p l = l.p
