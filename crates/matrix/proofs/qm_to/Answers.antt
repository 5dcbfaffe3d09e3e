-- The kind decides, then whether all literals fit it; then the shape.
use mathlib.Core.Path.{sym, ◌∙◌}
use Rattle.error.proofs.BufferAtExit.{builds_as, builds_no}
use Rattle.error.proofs.Refusals.{passed_on, missing, present}
use Rattle.matrix.proofs.MatrixParts.{common_typed, typed_other, typed_items, typed_no, float, typed_becoming, typed_made}
use Rattle.matrix.proofs.qm_to.Goals as goal

pub float_inner-requires : goal.float_inner-requires
float_inner-requires c = record { type = c.args.ty.one.type; end = _; stands = c.args.ty.one.stands }

pub fits-requires : goal.fits-requires
fits-requires c =
    let x = common_typed c.requires c.args.args.given in
    typed_items x (sym (present _ _ c.ok_or.ensures.value c.in_ok-k.was) ∙ c.float_inner.ensures _ _ x.whole)

pub returns-then-not-fits : goal.returns-then-not-fits
returns-then-not-fits c =
    λ t l x. let h = sym (present _ _ c.ok_or.ensures.value c.in_ok-k.was) ∙ c.float_inner.ensures t _
    x.whole in
    builds_no _ _ (typed_no x h c.fits.ensures _ _ (c.if-not-fits.true))

pub of_parts-requires : goal.of_parts-requires
of_parts-requires c =
    let x = common_typed c.requires c.args.args.given in
    let h = sym (present _ _ c.ok_or.ensures.value c.in_ok-k.was) ∙ c.float_inner.ensures _ _ x.whole in
    let y = typed_becoming x h c.fits.ensures (c.if-not-fits.false) in
    record { kind = _; type = _; values = _; intos = y.intos; parts = y.parts }

pub returns : goal.returns
returns c =
    λ t l x. let h = sym (present _ _ c.ok_or.ensures.value c.in_ok-k.was) ∙ c.float_inner.ensures t _
    x.whole in
    let y = typed_becoming x h c.fits.ensures
    (c.if-not-fits.false) in
    builds_as _ (typed_made x h c.fits.ensures _ _ y)
    (c.of_parts.ensures (float x h).kind t l y.intos y.parts)

pub returns-in_err-k : goal.returns-in_err-k
returns-in_err-k c =
    let m = missing _ _ c.ok_or.ensures.value c.in_err-k.was in
    rw (passed_on c.from_residual.result c.from_residual.ensures.1, m.1)
    (λ t l x. builds_no _ _ (typed_other x _ _ (sym m.0 ∙ c.float_inner.ensures t _ x.whole)))
