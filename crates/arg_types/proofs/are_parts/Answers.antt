-- Each passes the rule that it is a part.
use Rattle.std.proofs.Common.{rules}
use Rattle.meaning.specs.Typing.{part_of}
use Rattle.arg_types.specs.Components.{PartOf}
use Rattle.arg_types.proofs.are_parts.Goals as goal

pub returns : goal.returns
returns c =
    λ l x. c.each_passes.ensures part_of l
    (λ i t e b w p. let h : PartOf c.args.args.now i b = search rules in h t e w) x
