-- By the second letter of its mark.
use native.Mathlib.Omega.{arith}
use Rattle.vector.proofs.Args.{arg_front, arg_one, vector_marked}
use Rattle.vector.proofs.first_literal.Goals as goal

pub bounds-args-i : goal.bounds-args-i
bounds-args-i c = omega (arith, arg_front c.requires.row)

pub overflow_add-result : goal.overflow_add-result
overflow_add-result c = omega (arith, arg_front c.requires.row)

pub returns-then-args-i-eq118 : goal.returns-then-args-i-eq118
returns-then-args-i-eq118 c = λ v l x. omega (arith, vector_marked x c.if-args-i-eq118.true)

pub returns : goal.returns
returns c = λ v l x. omega (arith, (arg_one x c.if-args-i-eq118.false).1)
