-- A vector says how many; anything else is one.
use mathlib.Core.Path.{sym}
use native.Mathlib.Omega.{arith}
use Prim.Native.Nat.{◌+◌}
use Rattle.vector.proofs.Args.{arg_front, arg_one, vector_parts}
use Rattle.vector.proofs.part_count.Goals as goal

pub bounds-args-i : goal.bounds-args-i
bounds-args-i c = omega (arith, arg_front c.requires.row)

pub bounds-args-i-then-args-i-eq118 : goal.bounds-args-i-then-args-i-eq118
bounds-args-i-then-args-i-eq118 c = omega (arith, arg_front c.requires.row)

pub overflow_cast-result : goal.overflow_cast-result
overflow_cast-result c = omega (arith, c.shared_slice_known-then-args-i-eq118-1.given (c.args.i + 2))

pub returns-then-args-i-eq118 : goal.returns-then-args-i-eq118
returns-then-args-i-eq118 c = λ v l x. vector_parts x c.if-args-i-eq118.true

pub returns : goal.returns
returns c = λ v l x. sym (arg_one x c.if-args-i-eq118.false).0
