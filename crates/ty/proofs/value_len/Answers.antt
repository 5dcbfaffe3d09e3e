-- The mark of a scalar says that one stands there.
use native.Mathlib.Omega.{arith}
use Rattle.ty.proofs.Heads.{any_front, scalar_by, scalar_head}
use Rattle.ty.proofs.Lens.{scalar_len}
use Rattle.ty.proofs.value_len.Goals as goal

pub bounds-ty-at : goal.bounds-ty-at
bounds-ty-at c = omega (arith, any_front c.requires.stands)

pub bounds-ty-at-then-ty-at-eq115 : goal.bounds-ty-at-then-ty-at-eq115
bounds-ty-at-then-ty-at-eq115 c = omega (arith, any_front c.requires.stands)

pub returns-then-ty-at-eq115 : goal.returns-then-ty-at-eq115
returns-then-ty-at-eq115 c = λ t e w. scalar_len w (scalar_head (scalar_by w c.if-ty-at-eq115.true)) c.literal_len.ensures
