-- A scalar converts to a scalar, as the kinds do.
use mathlib.Core.Path.{refl, sym, ◌∙◌}
use Rattle.convert_all.proofs.ByFronts.{scalars, like, unlike}
use Rattle.convert_all.proofs.scalar_converts.Goals as goal

pub returns-in_default : goal.returns-in_default
returns-in_default c = λ t u h l. unlike scalars _ t u h l refl c.in_default.not-Scalar

pub returns : goal.returns
returns c = λ t u h l. like scalars _ t u h _ (sym c.in-Scalar.is ∙ l) c.kind_converts.ensures
