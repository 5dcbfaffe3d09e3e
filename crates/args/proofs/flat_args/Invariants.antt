-- As many as were read stand before i.
use Prim.Native.Nat.{◌-◌}
use Rattle.args.specs.Counts.{FlatLeft}
use Rattle.args.proofs.flat_args.Given as goal

abbrev pub invariant-loop-i : goal.invariant-loop-i
invariant-loop-i l = FlatLeft l.s l.i l.n

abbrev pub decreases-loop-i : goal.decreases-loop-i
decreases-loop-i l = 65535 - l.n
