-- The target's part, then the arguments'.
use mathlib.Core.Path.{sym, ap, ◌∙◌}
use mathlib.Core.Bool.{Bool, ◌&&◌}
use Rattle.meaning.specs.Batch.{parts_inside}
use Rattle.call_batch.proofs.parts_inside.Goals as goal

pub returns-then-is_inside : goal.returns-then-is_inside
unfolding parts_inside
returns-then-is_inside c = rw (sym c.is_inside.ensures ∙ c.if-is_inside.true) c.is_inside-then-is_inside.ensures

pub returns-else-is_inside : goal.returns-else-is_inside
unfolding parts_inside
returns-else-is_inside c = rw (sym c.is_inside.ensures ∙ c.if-is_inside.false) c.if-is_inside.false
