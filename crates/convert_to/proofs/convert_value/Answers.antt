-- The type decides, then the literals; then it is written if there is room.
use mathlib.Core.Path.{sym, ◌∙◌, subst}
use lib.Dec.{T}
use Rattle.meaning.specs.Trees.{Ty, Val, type_of}
use Rattle.meaning.specs.Convert.{converts}
use Rattle.error.proofs.BufferAtExit.{refused}
use Rattle.error.proofs.Told.{told_as}
use Rattle.convert_to.specs.Conversions.{Asked}
use Rattle.convert_to.proofs.ToType.{found_asked, asked_to, type_no, value_no, value_goes, value_yes}
use Rattle.convert_to.proofs.convert_value.Goals as goal
use Rattle.convert_to.proofs.convert_value.Goals.{Else-not-type_converts}

type_yes : (c : Else-not-type_converts) {t : Ty} {v : Val}
    → Asked c.args.target.bytes.now c.args.args.now c.args.ty.bytes.now t v
    → T (converts (type_of v) t)
type_yes c x = subst T (sym c.if-not-type_converts.false ∙ c.type_converts.ensures _ _ x.type x.whole) tt

pub returns-then-not-type_converts : goal.returns-then-not-type_converts
returns-then-not-type_converts c =
    λ t v x. refused _ _ (type_no x _ (sym (c.type_converts.ensures _ t x.type x.whole) ∙ c.if-not-type_converts.true))

pub value_fits-requires : goal.value_fits-requires
value_fits-requires c =
    let x = found_asked c.args.target.one c.requires in
    record { type = _; value = _; to = asked_to x (type_yes (goal.at.value_fits-requires c).Else-not-type_converts x) }

pub returns-then-not-value_fits : goal.returns-then-not-value_fits
returns-then-not-value_fits c =
    λ t v x. let h = type_yes (goal.at.returns-then-not-value_fits c).Else-not-type_converts x in
    refused _ _ (value_no x _ (sym c.if-not-value_fits.true ∙ c.value_fits.ensures t v (asked_to x h)))

pub write_value-requires : goal.write_value-requires
write_value-requires c =
    let x = found_asked c.args.target.one c.requires in
    let h = type_yes (goal.at.write_value-requires c).Else-not-type_converts x in
    let g = value_goes x h (sym c.if-not-value_fits.false ∙ c.value_fits.ensures _ _ (asked_to x h)) in
    record { to = _; from = _; into = g.into; becomes = g.becomes }

pub returns : goal.returns
returns c =
    λ t v x. let h = type_yes (goal.at.returns c).Else-not-type_converts x in
    let g = value_goes x h (sym c.if-not-value_fits.false ∙ c.value_fits.ensures t v (asked_to x h)) in
    told_as (value_yes x g _) (c.write_value.ensures t v g.into g.becomes)
