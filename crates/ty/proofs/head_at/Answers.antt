-- The mark picks the front of whichever type stands there.
use native.Mathlib.Omega.{arith}
use Rattle.ty.proofs.Heads.{any_front, vector_room, matrix_room, array_room, struct_room}
use Rattle.ty.proofs.Heads.{scalar_by, vector_by, matrix_by, array_by, struct_by, last_mark, scalar_head, vector_head}
use Rattle.ty.proofs.Heads.{matrix_head, array_head, struct_head}
use Rattle.ty.proofs.head_at.Goals as goal

pub bounds-ty-at : goal.bounds-ty-at
bounds-ty-at c = omega (arith, any_front c.requires.stands)

pub bounds-ty-at-then-mark-eq115 : goal.bounds-ty-at-then-mark-eq115
bounds-ty-at-then-mark-eq115 c = omega (arith, any_front c.requires.stands)

pub returns-then-mark-eq115 : goal.returns-then-mark-eq115
returns-then-mark-eq115 c = λ t e w. scalar_head (scalar_by w c.if-mark-eq115.true)

pub bounds-ty-at-then-mark-eq118 : goal.bounds-ty-at-then-mark-eq118
bounds-ty-at-then-mark-eq118 c = omega (arith, vector_room c.requires.stands c.if-mark-eq118.true)

pub bounds-ty-at-then-mark-eq118-2 : goal.bounds-ty-at-then-mark-eq118-2
bounds-ty-at-then-mark-eq118-2 c = omega (arith, vector_room c.requires.stands c.if-mark-eq118.true)

pub returns-then-mark-eq118 : goal.returns-then-mark-eq118
returns-then-mark-eq118 c = λ t e w. vector_head (vector_by w c.if-mark-eq118.true)

pub bounds-ty-at-then-mark-eq109 : goal.bounds-ty-at-then-mark-eq109
bounds-ty-at-then-mark-eq109 c = omega (arith, matrix_room c.requires.stands c.if-mark-eq109.true)

pub bounds-ty-at-then-mark-eq109-2 : goal.bounds-ty-at-then-mark-eq109-2
bounds-ty-at-then-mark-eq109-2 c = omega (arith, matrix_room c.requires.stands c.if-mark-eq109.true)

pub bounds-ty-at-then-mark-eq109-3 : goal.bounds-ty-at-then-mark-eq109-3
bounds-ty-at-then-mark-eq109-3 c = omega (arith, matrix_room c.requires.stands c.if-mark-eq109.true)

pub returns-then-mark-eq109 : goal.returns-then-mark-eq109
returns-then-mark-eq109 c = λ t e w. matrix_head (matrix_by w c.if-mark-eq109.true)

pub bounds-ty-at-then-mark-eq97 : goal.bounds-ty-at-then-mark-eq97
bounds-ty-at-then-mark-eq97 c = omega (arith, array_room c.requires.stands c.if-mark-eq97.true)

pub bounds-ty-at-then-mark-eq97-2 : goal.bounds-ty-at-then-mark-eq97-2
bounds-ty-at-then-mark-eq97-2 c = omega (arith, array_room c.requires.stands c.if-mark-eq97.true)

pub returns-then-mark-eq97 : goal.returns-then-mark-eq97
returns-then-mark-eq97 c = λ t e w. rw c.join.ensures (array_head (array_by w c.if-mark-eq97.true))

pub bounds-ty-at-2 : goal.bounds-ty-at-2
bounds-ty-at-2 c = omega
    (arith, struct_room c.requires.stands c.if-mark-eq115.false c.if-mark-eq118.false c.if-mark-eq109.false c.if-mark-eq97.false)

pub bounds-ty-at-3 : goal.bounds-ty-at-3
bounds-ty-at-3 c = omega
    (arith, struct_room c.requires.stands c.if-mark-eq115.false c.if-mark-eq118.false c.if-mark-eq109.false c.if-mark-eq97.false)

pub bounds-ty-at-4 : goal.bounds-ty-at-4
bounds-ty-at-4 c = omega
    (arith, struct_room c.requires.stands c.if-mark-eq115.false c.if-mark-eq118.false c.if-mark-eq109.false c.if-mark-eq97.false)

pub bounds-ty-at-5 : goal.bounds-ty-at-5
bounds-ty-at-5 c = omega
    (arith, struct_room c.requires.stands c.if-mark-eq115.false c.if-mark-eq118.false c.if-mark-eq109.false c.if-mark-eq97.false)

pub returns : goal.returns
returns c =
    λ t e w. rw (c.join-2.ensures, c.join-3.ensures) (struct_head (struct_by w
    (last_mark w c.if-mark-eq115.false c.if-mark-eq118.false c.if-mark-eq109.false c.if-mark-eq97.false)))
