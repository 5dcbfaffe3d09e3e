-- 0 where it refuses.
use mathlib.Core.Path.{ap, ◌∙◌}
use Rattle.literal_c.specs.LiteralNumbers.{payload_of}
use Rattle.literal_c.proofs.Shown.{refused_0}
use Rattle.literal_c.proofs.vireo_made.Goals as goal

pub returns : goal.returns
returns c = c.unwrap_or.ensures ∙ (refused_0 c.made.result ∙ ap payload_of c.made.ensures)
