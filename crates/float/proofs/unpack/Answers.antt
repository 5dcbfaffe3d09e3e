-- `float::unpack` meets its contract. Each return is one of the cases that `of_fields` has, by the exponent's field and the fraction.
use Rattle.float.proofs.Fields.{at_inf, at_nan, at_low, at_fin}
use Rattle.float.proofs.unpack.Goals as goal

pub returns-then-t-eq0 : goal.returns-then-t-eq0
returns-then-t-eq0 g c =
    at_inf g.met.F.Pattern.laws c.args.x c.field-f.ensures c.largest_field.ensures c.fraction-t.ensures c.sign_bit.ensures c.if-f-largest_field.true
    c.if-t-eq0.true

pub returns-then-f-largest_field : goal.returns-then-f-largest_field
returns-then-f-largest_field g c =
    at_nan g.met.F.Pattern.laws c.args.x c.field-f.ensures c.largest_field.ensures c.fraction-t.ensures c.sign_bit.ensures c.if-f-largest_field.true
    c.if-t-eq0.false

pub returns-then-f-eq0 : goal.returns-then-f-eq0
returns-then-f-eq0 g c =
    at_low g.met.F.Pattern.laws c.args.x c.field-f.ensures c.largest_field.ensures c.fraction-t.ensures c.sign_bit.ensures c.unit-u.ensures
    c.if-f-eq0.true

pub returns : goal.returns
returns g c =
    at_fin g.met.F.Pattern.laws c.args.x c.field-f.ensures c.largest_field.ensures c.fraction-t.ensures c.sign_bit.ensures c.unit-u.ensures
    c.placed.ensures c.if-f-largest_field.false c.if-f-eq0.false
