-- The entry's answer, told in numbers.
use Rattle.error.proofs.Numbers.{told}
use Rattle.vireodesk.proofs.vireo_convert_to.Goals as goal

pub returns : goal.returns
returns c = told c.convert_to.ensures c.from.ensures
