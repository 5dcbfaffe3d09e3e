-- A vector brings its scalar, and every other type itself.
use native.Mathlib.Omega.{arith}
use Rattle.ty.proofs.Heads.{any_front}
use Rattle.common_type.proofs.VectorParts.{part_vector, part_other}
use Rattle.common_type.proofs.part_at.Goals as goal

pub bounds-ty-1 : goal.bounds-ty-1
bounds-ty-1 c = omega (arith, any_front c.requires.stands)

pub returns-then-ty-eq118 : goal.returns-then-ty-eq118
returns-then-ty-eq118 c = λ t e w. rw c.if-flat.true (part_vector w c.if-ty-eq118.true)

pub returns-else-ty-eq118 : goal.returns-else-ty-eq118
returns-else-ty-eq118 c = λ t e w. rw c.if-flat.true (part_other w c.if-ty-eq118.false)
