-- A scalar's type: the literals decide, then it is written. Another: a literal that does not fit is 10, else it is 12.
use mathlib.Core.Path.{◌∙◌}
use native.Mathlib.Omega.{arith}
use Rattle.meaning.specs.Build.{flattened}
use Rattle.ty.proofs.Heads.{any_front}
use Rattle.laws.proofs.Each.{some_length}
use Rattle.error.proofs.BufferAtExit.{builds_as, builds_no}
use Rattle.vector.specs.VectorParts.{pay_to}
use Rattle.vector.proofs.Decides.{flat_items, fits_none, fits_goes}
use Rattle.vector.proofs.Commons.{common_kind, common_no, common_flat, qv_none, qv_some, asked_fit, qv_unfit, qv_not_scalar}
use Rattle.vector.proofs.to_common.Goals as goal

pub bounds-ty-1 : goal.bounds-ty-1
bounds-ty-1 c = omega (arith, any_front c.requires.common.whole)

pub bounds-ty-2 : goal.bounds-ty-2
bounds-ty-2 c = omega (arith, any_front c.requires.common.whole)

pub fits-requires : goal.fits-requires
fits-requires c = search (flat_items, common_kind, common_flat)

pub returns-then-not-fits : goal.returns-then-not-fits
returns-then-not-fits c =
    λ l t x. builds_no _ _ (qv_none x c.if-ty-eq115.true (fits_none (common_kind x c.if-ty-eq115.true) x.row (common_flat x c.if-ty-eq115.true) (common_no x c.if-ty-eq115.true) c.fits.ensures
    (c.if-not-fits.true)))

pub write_parts-requires : goal.write_parts-requires
write_parts-requires c =
    let g = fits_goes (common_kind c.requires.common c.if-ty-eq115.true) c.requires.common.row (common_flat c.requires.common c.if-ty-eq115.true) (common_no c.requires.common c.if-ty-eq115.true) c.fits.ensures
    (c.if-not-fits.false) in
    record {
      some = record { kind = common_kind c.requires.common c.if-ty-eq115.true; no = common_no c.requires.common c.if-ty-eq115.true; values = _; pays = g.0; goes = g.1 };
      count = some_length (pay_to (common_kind c.requires.common c.if-ty-eq115.true)) _ g.0 g.1.goes ∙ c.requires.common.count;
    }

pub returns-then-ty-eq115 : goal.returns-then-ty-eq115
returns-then-ty-eq115 c =
    λ l t x. let j = common_kind x c.if-ty-eq115.true in
    let g = fits_goes j x.row (common_flat x c.if-ty-eq115.true) (common_no x c.if-ty-eq115.true) c.fits.ensures
    (c.if-not-fits.false) in
    builds_as _ (qv_some x c.if-ty-eq115.true g.0 g.1.goes)
    (c.write_parts.ensures j l g.0 (common_no x c.if-ty-eq115.true) g.1
    (some_length (pay_to j) (flattened l) g.0 g.1.goes ∙ x.count))

pub all_fit-requires : goal.all_fit-requires
all_fit-requires c = search asked_fit

pub returns-then-not-all_fit : goal.returns-then-not-all_fit
returns-then-not-all_fit c =
    λ l t x. builds_no _ _ (qv_unfit x c.if-ty-eq115.false (c.all_fit.ensures l t _ x.row x.whole)
    (c.if-not-all_fit.true))

pub returns : goal.returns
returns c =
    λ l t x. builds_no _ _ (qv_not_scalar x c.if-ty-eq115.false (c.all_fit.ensures l t _ x.row x.whole)
    (c.if-not-all_fit.false))
