-- The tests of the definition.
use mathlib.Core.Path.{ap, ◌∙◌}
use native.Mathlib.Omega.{arith}
use Rattle.ctor_line.proofs.Splits.{split_short, split_long, split_call}
use Rattle.ctor_line.proofs.split.Goals as goal
use Rattle.std.specs.declared.option.Option.TheVariants.{Some}

pub returns-then-input-lt3 : goal.returns-then-input-lt3
returns-then-input-lt3 c = split_short c.args.input.now (omega (arith, c.if-input-lt3.true))

pub returns-then-input-n : goal.returns-then-input-n
returns-then-input-n c = split_short _ (omega arith)

pub returns-then-input-gt65536 : goal.returns-then-input-gt65536
returns-then-input-gt65536 c = split_long _ c.if-input-gt65536.true

pub returns : goal.returns
returns c = ap Some (omega arith) ∙ split_call _ (omega arith) c.if-input-gt65536.false
