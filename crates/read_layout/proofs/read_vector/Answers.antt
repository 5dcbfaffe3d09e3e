-- The mark and n, and then the scalars.
use Rattle.read_layout.proofs.Vectors.{vector_front, vector_scalars, vector_done}
use Rattle.read_layout.proofs.read_vector.Goals as goal

pub put_three-requires : goal.put_three-requires
put_three-requires c = search vector_front

pub read_scalars-requires : goal.read_scalars-requires
read_scalars-requires c = vector_scalars c.requires c.from.ensures c.put_three.ensures.put

pub returns-clause-moved : goal.returns-clause-moved
returns-clause-moved c = vector_done c.requires c.from.ensures c.put_three.ensures.put c.read_scalars.ensures.moved
