-- By the number of the kind.
use Rattle.shape.proofs.KindsFound.{float_int, float_yes, float_not}
use Rattle.shape.proofs.float_kind.Goals as goal

pub returns-then-k-eq-ABSTRACT_INT : goal.returns-then-k-eq-ABSTRACT_INT
returns-then-k-eq-ABSTRACT_INT c = float_int c.if-k-eq-ABSTRACT_INT.true

pub returns-then-is_float : goal.returns-then-is_float
returns-then-is_float c = float_yes c.if-k-eq-ABSTRACT_INT.false c.is_float.ensures c.if-is_float.true

pub returns : goal.returns
returns c = float_not c.if-k-eq-ABSTRACT_INT.false c.is_float.ensures c.if-is_float.false
