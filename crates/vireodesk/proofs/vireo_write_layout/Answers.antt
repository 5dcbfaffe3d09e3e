-- The entry's answer, told in numbers.
use Rattle.error.proofs.Numbers.{told}
use Rattle.vireodesk.proofs.vireo_write_layout.Goals as goal

pub returns : goal.returns
returns c = told c.write_layout.ensures c.from.ensures
