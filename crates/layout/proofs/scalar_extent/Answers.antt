-- The size is the kind's by its number.
use Rattle.layout.proofs.Extents.{scalar_extent}
use Rattle.layout.proofs.scalar_extent.Goals as goal

pub returns : goal.returns
returns c = search scalar_extent
