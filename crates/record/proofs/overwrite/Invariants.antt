-- The part holds the bytes that were gone through.
use Rattle.std.specs.Prelude.{◌≡◌, length, take}
use Rattle.record.proofs.overwrite.Given as goal

abbrev pub invariant-loop-i : goal.invariant-loop-i
invariant-loop-i l = (length l.part ≡ length l.initial.part) × (take l.i l.part ≡ take l.i l.bytes)
