-- The kind that was found converts, or there is none.
use Rattle.arg_types.proofs.Components.{part_some, part_none, to_kind, to_none}
use Rattle.arg_types.proofs.part_converts.Goals as goal

pub returns-in-Some : goal.returns-in-Some
returns-in-Some c =
    λ j t e n w. let x = part_some w c.component_kind.ensures c.in-Some.is in
    to_kind t j x _ (c.kind_converts.ensures x.kind j x.no n)

pub returns-in-None : goal.returns-in-None
returns-in-None c = λ j t e n w. to_none t j (part_none w c.component_kind.ensures c.in-None.is)
