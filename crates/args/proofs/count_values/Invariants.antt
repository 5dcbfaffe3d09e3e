-- As many as were read stand before i.
use mathlib.Core.Path.{◌≡◌}
use Prim.Native.Nat.{◌-◌}
use lib.ListN.{length}
use Rattle.meaning.specs.Records.{val_bytes}
use Rattle.args.specs.Counts.{Left, ValueArg}
use Rattle.args.proofs.count_values.Given as goal

abbrev pub invariant-loop-i : goal.invariant-loop-i
invariant-loop-i l = (length l.ty ≡ length l.initial.ty) × Left val_bytes (ValueArg l.most.depth l.most.bytes) l.s l.i l.n

abbrev pub decreases-loop-i : goal.decreases-loop-i
decreases-loop-i l = 65535 - l.n
