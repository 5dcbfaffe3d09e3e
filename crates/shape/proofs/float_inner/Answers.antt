-- The float kind of the kind one level down.
use mathlib.Core.Path.{sym, ◌∙◌}
use Rattle.shape.proofs.KindsFound.{inner_float, inner_nothing}
use Rattle.shape.proofs.float_inner.Goals as goal

pub returns-in-Some : goal.returns-in-Some
returns-in-Some c =
    λ t e w. inner_float t (sym c.in-Some.is ∙ c.inner_kind.ensures t e w)
    c.float_kind.ensures

pub returns-in-None : goal.returns-in-None
returns-in-None c = λ t e w. inner_nothing t (sym c.in-None.is ∙ c.inner_kind.ensures t e w)
