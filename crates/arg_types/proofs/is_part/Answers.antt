-- A kind was found, or there is none.
use Rattle.arg_types.proofs.Components.{passes_part}
use Rattle.arg_types.proofs.is_part.Goals as goal

pub returns : goal.returns
returns c = λ t e w. rw c.is_some.ensures (passes_part w c.component_kind.ensures)
