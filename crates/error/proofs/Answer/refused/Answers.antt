-- With the counts of 8, or without.
use mathlib.Core.Path.{ap, ◌∙◌}
use Prim.Native.Nat.{ℕ}
use Rattle.error.specs.Numbers.{numbers}
use Rattle.error.proofs.Numbers.{plain_numbers, counted_numbers}
use Rattle.error.proofs.Answer.refused.Goals as goal

pub returns-in-Count : goal.returns-in-Count
returns-in-Count c =
    ap (λ (n : ℕ). numbers n 0 c.in-Count.wanted c.in-Count.given) c.number.ensures ∙ counted_numbers _ _ _ c.in-Count.is

pub returns : goal.returns
returns c =
    c.numbered.ensures ∙ ap (λ (n : ℕ). numbers n 0 0 0) c.number-2.ensures ∙ plain_numbers _ c.in_default.not-Count
