-- The test is that of the definition.
use mathlib.Core.Path.{◌≡◌, refl, ◌∙◌}
use mathlib.Core.Bool.{Bool, true, false, cond}
use mathlib.Core.Option.{none, some}
use Rattle.std.specs.Bool.{then_some}
use Rattle.rank.specs.Ranked.{rank_of}
use Rattle.rank.proofs.rank_of_same.Goals as goal

tested : (b : Bool) → then_some b 0 ≡ rank_of (cond b (some 0) none)
unfolding rank_of
tested true = refl
tested false = refl

pub returns : goal.returns
returns c = c.then_some.ensures ∙ tested _
