-- One value stands there, up to the end of the bytes; or it ends before, or there is none.
use Rattle.args.proofs.OneValue.{derived_one, derived_more, derived_none}
use Rattle.args.proofs.one_value.Goals as goal

pub returns-in_err-e : goal.returns-in_err-e
returns-in_err-e c = rw c.from_residual.ensures (derived_none c.args.ty.now c.requires c.in_err-e.ensures)

pub returns-then-e-args : goal.returns-then-e-args
returns-then-e-args c = derived_more c.args.ty.now c.requires c.in_ok-e.ensures c.if-e-args.true

pub returns : goal.returns
returns c = derived_one c.args.ty.now c.requires c.in_ok-e.ensures c.if-e-args.false
