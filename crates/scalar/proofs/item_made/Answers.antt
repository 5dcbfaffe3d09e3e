-- A mark stays; a literal is refused as its constructor refuses it.
use mathlib.Core.Path.{sym, ap, ◌∙◌}
use native.Mathlib.Omega.{arith}
use Rattle.conv.proofs.ItemSteps.{item_front, literal_within}
use Rattle.error.proofs.Refusals.{passed_on}
use Rattle.scalar.specs.Made.{number_in}
use Rattle.scalar.proofs.MadeSteps.{mark_made, literal_refusal}
use Rattle.scalar.proofs.item_made.Goals as goal

pub overflow_add-mark : goal.overflow_add-mark
overflow_add-mark c = omega (arith, item_front c.requires.stands)

pub bounds-src-i : goal.bounds-src-i
bounds-src-i c = omega (arith, item_front c.requires.stands)

pub returns-then-mark-ne115 : goal.returns-then-mark-ne115
returns-then-mark-ne115 c = record { made = λ s j a x w. mark_made w c.if-mark-ne115.true s j; ends = c.item_end.ensures }

pub made_at-requires : goal.made_at-requires
made_at-requires c = search literal_within

pub returns-in_err-made_at : goal.returns-in_err-made_at
returns-in_err-made_at c =
    rw (passed_on c.from_residual.result c.from_residual.ensures.1) record {
      made = λ s j a x w. ap number_in (sym c.in_err-made_at.was)
          ∙ literal_refusal w c.if-mark-ne115.false x c.made_at.result c.made_at.ensures;
      ends = tt;
    }

pub returns : goal.returns
returns c =
    record {
      made = λ s j a x w. ap number_in (sym c.in_ok-made_at.was)
          ∙ literal_refusal w c.if-mark-ne115.false x c.made_at.result c.made_at.ensures;
      ends = c.item_end-2.ensures;
    }
