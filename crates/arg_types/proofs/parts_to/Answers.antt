-- Each passes the rule that its part converts.
use Rattle.std.proofs.Common.{rules}
use Rattle.meaning.specs.Typing.{part_to}
use Rattle.arg_types.specs.Components.{PartTo}
use Rattle.arg_types.proofs.parts_to.Goals as goal

pub returns : goal.returns
returns c =
    λ j l n x. c.each_passes.ensures (part_to j) l
    (λ i t e b w p. let h : PartTo c.args.k c.args.args.now i b = search rules in h j t e n w) x
