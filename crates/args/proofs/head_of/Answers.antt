-- Each mark has its own front.
use native.Mathlib.Omega.{arith}
use Rattle.args.proofs.Firsts.{three_bytes, vector_arg, matrix_arg, array_arg, struct_arg, scalar_first, vector_first}
use Rattle.args.proofs.Firsts.{matrix_first, array_first, struct_first}
use Rattle.args.proofs.head_of.Goals as goal

pub bounds-args-i : goal.bounds-args-i
bounds-args-i c = omega (arith, three_bytes c.requires.row)

pub bounds-args-i-then-mark-eq115 : goal.bounds-args-i-then-mark-eq115
bounds-args-i-then-mark-eq115 c = omega (arith, three_bytes c.requires.row)

pub returns-then-mark-eq115 : goal.returns-then-mark-eq115
returns-then-mark-eq115 c = λ v l x. scalar_first x c.if-mark-eq115.true

pub bounds-args-i-then-mark-eq118 : goal.bounds-args-i-then-mark-eq118
bounds-args-i-then-mark-eq118 c = omega (arith, three_bytes c.requires.row)

pub bounds-args-i-then-mark-eq118-2 : goal.bounds-args-i-then-mark-eq118-2
bounds-args-i-then-mark-eq118-2 c = omega (arith, (vector_arg c.requires.row c.if-mark-eq118.true).room)

pub returns-then-mark-eq118 : goal.returns-then-mark-eq118
returns-then-mark-eq118 c = λ v l x. vector_first x c.if-mark-eq118.true

pub bounds-args-i-then-mark-eq109 : goal.bounds-args-i-then-mark-eq109
bounds-args-i-then-mark-eq109 c = omega (arith, three_bytes c.requires.row)

pub bounds-args-i-then-mark-eq109-2 : goal.bounds-args-i-then-mark-eq109-2
bounds-args-i-then-mark-eq109-2 c = omega (arith, (matrix_arg c.requires.row c.if-mark-eq109.true).room)

pub bounds-args-i-then-mark-eq109-3 : goal.bounds-args-i-then-mark-eq109-3
bounds-args-i-then-mark-eq109-3 c = omega (arith, (matrix_arg c.requires.row c.if-mark-eq109.true).room)

pub returns-then-mark-eq109 : goal.returns-then-mark-eq109
returns-then-mark-eq109 c = λ v l x. matrix_first x c.if-mark-eq109.true

pub bounds-args-i-then-mark-eq97 : goal.bounds-args-i-then-mark-eq97
bounds-args-i-then-mark-eq97 c = omega (arith, three_bytes c.requires.row)

pub bounds-args-i-then-mark-eq97-2 : goal.bounds-args-i-then-mark-eq97-2
bounds-args-i-then-mark-eq97-2 c = omega (arith, (array_arg c.requires.row c.if-mark-eq97.true).room)

pub returns-then-mark-eq97 : goal.returns-then-mark-eq97
returns-then-mark-eq97 c = λ v l x. array_first x c.if-mark-eq97.true c.join.ensures

pub bounds-args-i-2 : goal.bounds-args-i-2
bounds-args-i-2 c = omega (arith, three_bytes c.requires.row)

pub bounds-args-i-3 : goal.bounds-args-i-3
bounds-args-i-3 c =
    omega
    (arith, (struct_arg c.requires.row c.if-mark-eq115.false c.if-mark-eq118.false c.if-mark-eq109.false c.if-mark-eq97.false).room)

pub bounds-args-i-4 : goal.bounds-args-i-4
bounds-args-i-4 c =
    omega
    (arith, (struct_arg c.requires.row c.if-mark-eq115.false c.if-mark-eq118.false c.if-mark-eq109.false c.if-mark-eq97.false).room)

pub bounds-args-i-5 : goal.bounds-args-i-5
bounds-args-i-5 c =
    omega
    (arith, (struct_arg c.requires.row c.if-mark-eq115.false c.if-mark-eq118.false c.if-mark-eq109.false c.if-mark-eq97.false).room)

pub returns : goal.returns
returns c =
    λ v l x. struct_first x
    (struct_arg x c.if-mark-eq115.false c.if-mark-eq118.false c.if-mark-eq109.false c.if-mark-eq97.false)
    c.join-2.ensures c.join-3.ensures
