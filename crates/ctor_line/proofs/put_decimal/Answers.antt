-- What writes the rest makes the whole.
use native.Mathlib.Omega.{arith}
use Rattle.ctor_line.proofs.Digits.{decimal_short, digits_all, digit_room, digit_on, digits_end}
use Rattle.ctor_line.proofs.put_decimal.Goals as goal

pub loop-p-init : goal.loop-p-init
loop-p-init c = (decimal_short c.top_power-p.ensures (omega arith), digits_all _ _ c.top_power-p.ensures, search)

pub put_byte-requires : goal.put_byte-requires
put_byte-requires c = omega (arith, digit_room c.loop-p.invariant.1 c.loop-p-test.true (omega arith))

pub loop-p-preserved : goal.loop-p-preserved
loop-p-preserved c = (c.loop-p.invariant.0, digit_on c.loop-p.invariant.1 c.loop-p-test.true (rw c.digit.ensures at c.put_byte.ensures.put), search)

pub returns-clause-put : goal.returns-clause-put
returns-clause-put c = digits_end c.loop-p.invariant.1 c.loop-p-test.false
