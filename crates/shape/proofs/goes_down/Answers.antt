-- Whether the kind one level down converts decides.
use mathlib.Core.Path.{sym, ◌∙◌}
use Rattle.shape.proofs.Downs.{by_kind, down_other}
use Rattle.shape.proofs.goes_down.Goals as goal

pub returns-in-Some : goal.returns-in-Some
returns-in-Some c =
    λ j t e n w. by_kind j n t (sym c.in-Some.is ∙ c.inner_kind.ensures t e w)
    c.kind_converts.ensures

pub returns-in-None : goal.returns-in-None
returns-in-None c = λ j t e n w. down_other j n t (sym c.in-None.is ∙ c.inner_kind.ensures t e w)
