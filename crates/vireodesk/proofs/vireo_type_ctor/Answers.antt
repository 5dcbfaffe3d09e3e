-- The entry's answer, told in numbers.
use Rattle.error.proofs.Numbers.{told}
use Rattle.vireodesk.proofs.vireo_type_ctor.Goals as goal

pub returns : goal.returns
returns c = told c.type_ctor.ensures c.from.ensures
