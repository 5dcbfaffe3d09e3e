-- The entry's answer, told in numbers.
use mathlib.Core.Path.{◌≡◌, refl, sym, ap, ◌∙◌}
use Prim.Native.Nat.{ℕ}
use Rattle.meaning.specs.Answers.{refusal_of}
use Rattle.error.specs.Refusals.{number, refusal}
use Rattle.error.specs.Numbers.{value_of}
use Rattle.error.specs.declared.Refusal.{Refusal}
use Rattle.error.proofs.Refusals.{Told, plain, counted, told}
use Rattle.layout.specs.Laid.{paper}
use Rattle.vireodesk.specs.MemoryLayouts.{layout_numbers}
use Rattle.vireodesk.proofs.vireo_layout_of.Goals as goal

pub returns-in-Ok : goal.returns-in-Ok
unfolding paper refusal_of value_of
returns-in-Ok c = ap layout_numbers (sym (ap paper c.in-Ok.is) ∙ c.layout_of.ensures)

-- a refusal has its number, and neither size nor alignment
refused_numbers : (x : Refusal) → record { refusal = number x; size = 0; align = 0 } ≡ layout_numbers (refusal x)
unfolding refusal_of value_of
refused_numbers x = go x (told x)
  where
    go : (y : Refusal) → Told y → record { refusal = number y; size = 0; align = 0 } ≡ layout_numbers (refusal y)
    go y (plain e) = rw (e (ℕ × ℕ)) refl
    go _ (counted w g) = refl

pub returns-in-Err : goal.returns-in-Err
unfolding paper
returns-in-Err c =
    rw c.number.ensures
    (refused_numbers _ ∙ ap layout_numbers (sym (ap paper c.in-Err.is) ∙ c.layout_of.ensures))
