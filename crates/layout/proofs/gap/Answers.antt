-- What is over the last multiple is nothing, or what is missing to the next one is the rest of the alignment.
use Rattle.layout.proofs.Extents.{gap_none, gap_left}
use Rattle.layout.proofs.gap.Goals as goal

pub returns-then-over-eq0 : goal.returns-then-over-eq0
returns-then-over-eq0 c = gap_none c.requires c.from-a.ensures _ c.if-over-eq0.true

pub returns : goal.returns
returns c = gap_left c.requires c.from-a.ensures _ c.if-over-eq0.false
