-- What is left to look at decides.
use native.Mathlib.Omega.{arith}
use Rattle.conv.proofs.Walk.{next_item, next_less}
use Rattle.conv.proofs.ItemsLeft.{fit_no, fit_on, fit_end}
use Rattle.conv.proofs.fits.Goals as goal

pub item_fits-requires : goal.item_fits-requires
item_fits-requires c = next_item (c.loop-i.invariant c.requires.items c.requires.stands) c.loop-i-test.true

pub returns-then-not-item_fits : goal.returns-then-not-item_fits
returns-then-not-item_fits c =
    λ j l n w. fit_no l (c.loop-i.invariant l w) c.loop-i-test.true c.item_fits.ensures
    c.if-not-item_fits.true j n

pub item_end-i-requires : goal.item_end-i-requires
item_end-i-requires c =
    next_item
    (c.loop-i.invariant c.requires.items c.requires.stands) c.loop-i-test.true

pub loop-i-smaller : goal.loop-i-smaller
loop-i-smaller c =
    omega (
      arith,
      c.loop-i-test.true,
      next_less
          (c.loop-i.invariant c.requires.items (search)) c.loop-i-test.true
          c.item_end-i.ensures,
    )

pub loop-i-preserved : goal.loop-i-preserved
loop-i-preserved c =
    λ l w. fit_on l (c.loop-i.invariant l w) c.loop-i-test.true
    c.item_fits.ensures c.if-not-item_fits.false
    c.item_end-i.ensures

pub returns : goal.returns
returns c = λ j l n w. fit_end l (c.loop-i.invariant l w) c.loop-i-test.false j n
