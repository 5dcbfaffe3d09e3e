-- `literal::abstract_int_number` meets its contract: the upper half of the patterns is negative, and the complement and
-- one is 2 ^ 64 less the pattern.
use Prim.Native.Nat.{◌-◌, ◌+◌}
use mathlib.Core.Path.{◌≡◌}
use native.Mathlib.Omega.{arith}
use borrow.Author.Tests.{lt-ltb, le-ltb}
use Rattle.meaning.specs.Kinds.{payloads}
use Rattle.meaning.specs.Scalars.{number, twos}
use Rattle.literal.proofs.abstract_int_number.Goals as goal

pub returns-then-bits-lt9223372036854775808 : goal.returns-then-bits-lt9223372036854775808
unfolding number twos payloads
returns-then-bits-lt9223372036854775808 c = rw (lt-ltb c.args.bits 9223372036854775808 c.if-bits-lt9223372036854775808.true)

pub returns-else-bits-lt9223372036854775808 : goal.returns-else-bits-lt9223372036854775808
unfolding number twos payloads
returns-else-bits-lt9223372036854775808 c =
    let e : 18446744073709551616 - c.args.bits ≡ 18446744073709551615 - c.args.bits + 1 = omega (arith, c.if-bits-lt9223372036854775808.false, c.ranges) in
    rw (le-ltb c.args.bits 9223372036854775808 c.if-bits-lt9223372036854775808.false, e)
