-- A scalar that stands there ends three bytes on.
use Rattle.ty.proofs.TypeFronts.{scalar_ends}
use Rattle.ty.proofs.type_end.Goals as goal

pub returns-then-is_scalar : goal.returns-then-is_scalar
returns-then-is_scalar c = scalar_ends c.if-is_scalar.ensures
