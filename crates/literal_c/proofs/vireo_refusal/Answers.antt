-- The number of a refusal, and 0 where there is none.
use mathlib.Core.Path.{sym, ap, ◌∙◌}
use Prim.Native.Nat.{ℕ}
use Rattle.meaning.specs.Answers.{refusal_of}
use Rattle.error.specs.Refusals as refusals
use Rattle.error.proofs.Refusals.{number_of}
use Rattle.literal_c.proofs.vireo_refusal.Goals as goal

pub returns-in-Ok : goal.returns-in-Ok
unfolding refusals.paper refusal_of
returns-in-Ok c = ap refusal_of (ap refusals.paper (sym c.in-Ok.is) ∙ c.made.ensures)

pub returns-in-Err : goal.returns-in-Err
unfolding refusals.paper
returns-in-Err c = c.number.ensures ∙ (number_of ℕ _ ∙ ap refusal_of (ap refusals.paper (sym c.in-Err.is) ∙ c.made.ensures))
