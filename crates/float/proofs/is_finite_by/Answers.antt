-- `float::is_finite_by` meets its contract. The largest value of the exponent's field is that of the infinities and NaNs.
use mathlib.Core.Path.{refl}
use Rattle.float.proofs.Fields.{finite_is}
use Rattle.float.proofs.is_finite_by.Goals as goal

pub returns : goal.returns
returns c = finite_is c.requires c.args.b c.low_bits.ensures refl
