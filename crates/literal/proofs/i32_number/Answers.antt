-- `literal::i32_number` meets its contract: from 2 ^ 31 on a pattern is negative, and from 2 ^ 32 on nothing is left of 2 ^ 32.
use Prim.Native.Nat.{◌-◌}
use mathlib.Core.Path.{◌≡◌}
use native.Mathlib.Omega.{arith}
use borrow.Author.Tests.{lt-ltb, le-ltb}
use Rattle.meaning.specs.Kinds.{payloads}
use Rattle.meaning.specs.Scalars.{number, twos}
use Rattle.literal.proofs.i32_number.Goals as goal

pub returns-then-bits-lt2147483648 : goal.returns-then-bits-lt2147483648
unfolding number twos payloads
returns-then-bits-lt2147483648 c = rw (lt-ltb c.args.bits 2147483648 c.if-bits-lt2147483648.true)

pub returns-then-bits-lt4294967296 : goal.returns-then-bits-lt4294967296
unfolding number twos payloads
returns-then-bits-lt4294967296 c = rw (le-ltb c.args.bits 2147483648 c.if-bits-lt2147483648.false)

pub returns : goal.returns
unfolding number twos payloads
returns c =
    let e : 4294967296 - c.args.bits ≡ 0 = omega (arith, c.if-bits-lt4294967296.false) in
    rw (le-ltb c.args.bits 2147483648 c.if-bits-lt2147483648.false, e)
