-- The kind that was found is the one that the type brings.
use Rattle.arg_types.proofs.Components.{part_some, part_none, same_kind_lem, no_kind}
use Rattle.arg_types.proofs.meet_part.Goals as goal

pub returns-in_err-component_kind : goal.returns-in_err-component_kind
returns-in_err-component_kind c =
    λ a b t e n w h. absurd (no_kind (part_none w c.component_kind.ensures c.in_err-component_kind.was) h)

pub returns : goal.returns
returns c =
    λ a b t e n w h. c.meet_kinds.ensures a b n
    (same_kind_lem (part_some w c.component_kind.ensures c.in_ok-component_kind.was) h)
