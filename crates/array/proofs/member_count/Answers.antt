-- The two bytes before the members.
use mathlib.Core.Path.{◌∙◌}
use native.Mathlib.Omega.{arith}
use Rattle.array.proofs.Structs.{struct_room, struct_count}
use Rattle.array.proofs.member_count.Goals as goal

pub bounds-target-4 : goal.bounds-target-4
bounds-target-4 c = omega (arith, struct_room c.requires.whole)

pub bounds-target-5 : goal.bounds-target-5
bounds-target-5 c = omega (arith, struct_room c.requires.whole)

pub returns : goal.returns
returns c = λ i m w. c.join.ensures ∙ struct_count w
