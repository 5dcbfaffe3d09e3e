-- The entry's answer, told in numbers.
use mathlib.Core.Path.{ap, ◌∙◌}
use Prim.Native.Nat.{ℕ}
use Rattle.error.specs.Numbers.{in_numbers}
use Rattle.error.proofs.Numbers.{recorded, refused}
use Rattle.vireodesk.proofs.vireo_conversion_rank.Goals as goal

pub returns-in-Ok : goal.returns-in-Ok
returns-in-Ok c = c.accepted.ensures ∙ (recorded _ _ c.in-Ok.is ∙ ap (in_numbers (λ (n : ℕ). n)) c.conversion_rank.ensures)

pub returns-in-Err : goal.returns-in-Err
returns-in-Err c = c.refused.ensures ∙ (refused _ _ c.in-Err.is ∙ ap (in_numbers (λ (n : ℕ). n)) c.conversion_rank.ensures)
