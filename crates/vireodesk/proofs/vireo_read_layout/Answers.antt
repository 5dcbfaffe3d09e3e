-- The entry's answer, told in numbers.
use Rattle.error.proofs.Numbers.{told}
use Rattle.vireodesk.proofs.vireo_read_layout.Goals as goal

pub returns : goal.returns
returns c = told c.read_layout.ensures c.from.ensures
