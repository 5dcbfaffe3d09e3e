-- The value that stands there is derived, since its type's record is at most 4,096 bytes long.
use Rattle.args.proofs.ArgumentRows.{derived_arg, derived_none}
use Rattle.args.proofs.next_type.Goals as goal

pub returns-in-Some : goal.returns-in-Some
returns-in-Some c = λ v l x. derived_arg c.args.ty.now c.requires.ty_len x c.in-Some.ensures

pub returns-in-None : goal.returns-in-None
returns-in-None c = λ v l x. absurd (derived_none c.args.ty.now c.requires.ty_len x c.in-None.ensures)
