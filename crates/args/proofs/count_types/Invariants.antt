-- As many as were read stand before i.
use Prim.Native.Nat.{◌-◌}
use Rattle.meaning.specs.Records.{ty_bytes}
use Rattle.args.specs.Counts.{Left, TypeArg}
use Rattle.args.proofs.count_types.Given as goal

abbrev pub invariant-loop-i : goal.invariant-loop-i
invariant-loop-i l = Left ty_bytes (TypeArg l.most.depth l.most.bytes) l.s l.i l.n

abbrev pub decreases-loop-i : goal.decreases-loop-i
decreases-loop-i l = 65535 - l.n
