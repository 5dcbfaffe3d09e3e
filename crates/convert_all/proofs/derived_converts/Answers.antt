-- The type is derived, and looked at as a whole.
use Rattle.ty.proofs.FrontOfBuffer.{front_whole}
use Rattle.convert_all.proofs.derived_converts.Goals as goal

pub invariant_of-type_converts : goal.invariant_of-type_converts
invariant_of-type_converts c = record { one = record { type = _; stands = front_whole (c.next_type-step.ensures _ _ c.requires.row).stands } }
