-- By the second letter of its mark.
use mathlib.Core.Path.{sym}
use native.Mathlib.Omega.{arith}
use Rattle.vector.proofs.Args.{arg_front, arg_other, literal_flat, vector_flat}
use Rattle.vector.proofs.is_flat.Goals as goal

pub bounds-args-i : goal.bounds-args-i
bounds-args-i c = omega (arith, arg_front c.requires.row)

pub returns-then-mark-eq115 : goal.returns-then-mark-eq115
returns-then-mark-eq115 c = λ v l x. literal_flat x c.if-mark-eq115.true

pub returns-then-mark-eq118 : goal.returns-then-mark-eq118
returns-then-mark-eq118 c = λ v l x. vector_flat x c.if-mark-eq118.true

pub returns : goal.returns
returns c = λ v l x. sym (arg_other x c.if-mark-eq115.false c.if-mark-eq118.false)
