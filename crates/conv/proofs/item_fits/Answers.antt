-- A mark stays; a literal fits where it converts.
use native.Mathlib.Omega.{arith}
use Rattle.conv.proofs.ItemSteps.{item_front, mark_fits, literal_within, literal_fits}
use Rattle.conv.proofs.item_fits.Goals as goal

pub overflow_add-mark : goal.overflow_add-mark
overflow_add-mark c = omega (arith, item_front c.requires.stands)

pub bounds-src-i : goal.bounds-src-i
bounds-src-i c = omega (arith, item_front c.requires.stands)

pub returns-then-mark-ne115 : goal.returns-then-mark-ne115
returns-then-mark-ne115 c = λ j a n w. mark_fits w c.if-mark-ne115.true j

pub fits_at-requires : goal.fits_at-requires
fits_at-requires c = literal_within c.requires.stands c.if-mark-ne115.false

pub returns : goal.returns
returns c = λ j a n w. literal_fits w c.if-mark-ne115.false j n c.fits_at.ensures
