-- A type's record has bytes; what `==` says of the two parts.
use mathlib.Core.Path.{◌∙◌}
use native.Mathlib.Omega.{arith}
use Rattle.record.proofs.Equal.{same_is}
use Rattle.ty.proofs.Heads.{any_front}
use Rattle.rank.proofs.same_shape.Goals as goal

pub overflow_sub-m : goal.overflow_sub-m
overflow_sub-m c = omega (arith, any_front c.args.a.one.stands)

pub overflow_sub-n : goal.overflow_sub-n
overflow_sub-n c = omega (arith, any_front c.args.b.one.stands)

pub returns : goal.returns
returns c = c.eq.ensures ∙ same_is _ _
