-- By the second letter of the mark.
use native.Mathlib.Omega.{arith}
use Rattle.error.proofs.BufferAtExit.{builds_no}
use Rattle.vector.proofs.Args.{arg_front, arg_other}
use Rattle.vector.proofs.OneToVector.{vec_other}
use Rattle.vector.proofs.vec_one.Goals as goal

pub bounds-arg-1 : goal.bounds-arg-1
bounds-arg-1 c = omega (arith, arg_front c.args.arg.one.row)

pub returns-then-mark-eq115 : goal.returns-then-mark-eq115
returns-then-mark-eq115 c = λ s j v a e x. c.splat.ensures s j v e x

pub returns-then-mark-eq118 : goal.returns-then-mark-eq118
returns-then-mark-eq118 c = λ s j v a e x. c.rebuilt.ensures s j v a e x

pub returns : goal.returns
returns c = λ s j v a e x. search (builds_no, vec_other, arg_other)
