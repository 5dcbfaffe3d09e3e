-- The literal's record, with the payload that the kind says.
use native.Mathlib.Omega.{arith}
use Rattle.record.proofs.Literals.{literal_long}
use Rattle.zero.proofs.put_zero.Goals as goal

pub put_literal-requires : goal.put_literal-requires
put_literal-requires c = omega (arith, c.requires, literal_long c.args.k 0)
