-- A type converts where there is a rank.
use mathlib.Core.Path.{◌∙◌}
use Rattle.rank.proofs.Ranks.{rank_converts}
use Rattle.rank.proofs.other_converts.Goals as goal

pub returns : goal.returns
returns c = λ t u w v. c.is_some.ensures ∙ rank_converts t u (c.type_rank.ensures t u w v)
