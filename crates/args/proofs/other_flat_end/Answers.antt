-- The front says the only type that a value there can have.
use native.Mathlib.Omega.{arith}
use Rattle.meaning.specs.Records.{ty_bytes}
use Rattle.args.proofs.Rest.{flat_of, flat_kind}
use Rattle.args.proofs.other_flat_end.Goals as goal

pub vector_as-requires : goal.vector_as-requires
vector_as-requires c = flat_kind (rw c.in-Vector.is at c.in_ok-n.ensures)

pub matrix_as-requires : goal.matrix_as-requires
matrix_as-requires c = flat_kind (rw c.in-Matrix.is at c.in_ok-n.ensures)

pub returns-in-Vector : goal.returns-in-Vector
unfolding ty_bytes
returns-in-Vector c =
    let f = rw c.in-Vector.is at c.in_ok-n.ensures in
    flat_of f c.vector_as.result (λ j. omega arith) (c.vector_as.ensures f.kind f.no)

pub returns-in-Matrix : goal.returns-in-Matrix
unfolding ty_bytes
returns-in-Matrix c =
    let f = rw c.in-Matrix.is at c.in_ok-n.ensures in
    flat_of f c.matrix_as.result (λ j. omega arith) (c.matrix_as.ensures f.kind f.no)
