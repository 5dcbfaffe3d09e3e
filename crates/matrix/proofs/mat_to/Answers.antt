-- Whether all convert decides; then the shape.
use mathlib.Core.Path.{sym, ◌∙◌}
use Rattle.error.proofs.BufferAtExit.{builds_as, builds_no}
use Rattle.matrix.proofs.MatrixParts.{bottom_to, to_asked, to_no, to_becoming, to_made}
use Rattle.matrix.proofs.mat_to.Goals as goal

pub all_convert-requires-clause-asked : goal.all_convert-requires-clause-asked
all_convert-requires-clause-asked c = to_asked (bottom_to c.requires c.args.args.given)

pub returns-then-not-all_convert : goal.returns-then-not-all_convert
returns-then-not-all_convert c =
    λ j u l x. builds_no c.args.out.now _
    (to_no x _ _ (sym c.if-not-all_convert.true ∙ c.all_convert.ensures l u _ x.given.row x.whole))

pub of_parts-requires : goal.of_parts-requires
of_parts-requires c =
    let x = bottom_to c.requires c.args.args.given in
    let y = to_becoming x (sym c.if-not-all_convert.false ∙ c.all_convert.ensures _ _ _ x.given.row x.whole) in
    record { kind = _; type = _; values = _; intos = y.intos; parts = y.parts }

pub returns : goal.returns
returns c =
    λ j u l x. let y = to_becoming x (sym c.if-not-all_convert.false ∙ c.all_convert.ensures l u _ x.given.row x.whole) in
    builds_as _ (to_made x _ _ y) (c.of_parts.ensures j u l y.intos y.parts)
