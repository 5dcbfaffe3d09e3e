-- The end of the value that stands there is the one value's end.
use native.Mathlib.Omega.{arith}
use Rattle.args.proofs.ArgumentRows.{row_typed, next_at}
use Rattle.args.proofs.LiteralArgs.{literal_by, literal_end}
use Rattle.args.proofs.Firsts.{three_bytes, vector_arg, vector_next}
use Rattle.args.proofs.next_arg.Goals as goal

pub bounds-args-i : goal.bounds-args-i
bounds-args-i c = omega (arith, three_bytes c.requires.row)

pub bounds-args-i-then-args-i-eq115 : goal.bounds-args-i-then-args-i-eq115
bounds-args-i-then-args-i-eq115 c = omega (arith, three_bytes c.requires.row)

pub returns-then-args-i-eq115 : goal.returns-then-args-i-eq115
returns-then-args-i-eq115 c = λ v l x. (literal_end x (literal_by x c.if-args-i-eq115.true) c.literal_len.ensures).2

pub bounds-args-i-2 : goal.bounds-args-i-2
bounds-args-i-2 c = omega (arith, three_bytes c.requires.row)

pub bounds-args-i-then-args-i-eq118 : goal.bounds-args-i-then-args-i-eq118
bounds-args-i-then-args-i-eq118 c = omega (arith, three_bytes c.requires.row)

pub bounds-args-i-then-args-i-eq118-2 : goal.bounds-args-i-then-args-i-eq118-2
bounds-args-i-then-args-i-eq118-2 c = omega (arith, (vector_arg c.requires.row c.if-args-i-eq118.true).room)

pub returns-then-args-i-eq118 : goal.returns-then-args-i-eq118
returns-then-args-i-eq118 c = λ v l x. vector_next x c.if-args-i-eq118.true c.vector_len.ensures

pub value_end-requires : goal.value_end-requires
value_end-requires c = record { type = _; end = _; typed = row_typed c.requires.row }

pub returns : goal.returns
returns c = λ v l x. next_at x (c.value_end.ensures _ _ (row_typed x))
