-- The entry's answer, told in numbers.
use Rattle.error.proofs.Numbers.{told}
use Rattle.vireodesk.proofs.vireo_call_ctor.Goals as goal

pub returns : goal.returns
returns c = told c.call_ctor.ensures c.from.ensures
