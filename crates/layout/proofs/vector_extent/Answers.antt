-- The size is n times the scalar's.
use Rattle.layout.proofs.Extents.{vector_extent}
use Rattle.layout.proofs.vector_extent.Goals as goal

pub returns : goal.returns
returns c = search vector_extent
