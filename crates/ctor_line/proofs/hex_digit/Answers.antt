-- The two tests of the definition.
use Rattle.ctor_line.proofs.Hex.{digit_low, digit_high}
use Rattle.ctor_line.proofs.hex_digit.Goals as goal

pub returns-then-n-lt10 : goal.returns-then-n-lt10
returns-then-n-lt10 c = digit_low c.args.n c.if-n-lt10.true

pub returns : goal.returns
returns c = digit_high c.args.n c.if-n-lt10.false
