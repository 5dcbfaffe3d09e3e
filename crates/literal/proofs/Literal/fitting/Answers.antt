-- `literal::Literal::fitting` meets its contract, by what the conversion answers.
use mathlib.Core.Path.{sym, ◌∙◌}
use Rattle.float.specs.Taken.{meaning}
use Rattle.literal.specs.LiteralAnswers.{in_range, held_in, paper}
use Rattle.literal.proofs.Tests.{fits, unfit}
use Rattle.literal.proofs.Literal.fitting.Goals as goal

pub returns-in-Some : goal.returns-in-Some
unfolding paper
returns-in-Some c =
    let x = meaning c.parts.result in
    rw c.parts.ensures.means (fits (in_range c.args.to x) (held_in c.args.to x) c.in-Some.q
    (sym (rw c.range_of.ensures at c.integer.ensures) ∙ c.in-Some.is))

pub returns-in-None : goal.returns-in-None
unfolding paper
returns-in-None c =
    let x = meaning c.parts.result in
    rw c.parts.ensures.means (unfit (in_range c.args.to x) (held_in c.args.to x)
    (sym (rw c.range_of.ensures at c.integer.ensures) ∙ c.in-None.is))
