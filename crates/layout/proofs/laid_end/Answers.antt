-- The test is the kind's by its number.
use mathlib.Core.Bool.{true, false}
use Rattle.layout.proofs.LaidTypes.{kind_laid}
use Rattle.layout.proofs.laid_end.Goals as goal

pub returns-then-has_layout : goal.returns-then-has_layout
returns-then-has_layout c = kind_laid _ true c.has_layout.ensures c.if-has_layout.true

pub returns : goal.returns
returns c = kind_laid _ false c.has_layout.ensures c.if-has_layout.false
