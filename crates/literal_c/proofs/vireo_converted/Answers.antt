-- 0 where it does not fit.
use mathlib.Core.Path.{◌∙◌}
use Rattle.literal_c.proofs.Shown.{nothing_0}
use Rattle.literal_c.proofs.vireo_converted.Goals as goal

pub returns : goal.returns
returns c = c.unwrap_or.ensures ∙ nothing_0 _ c.convert_to.ensures
