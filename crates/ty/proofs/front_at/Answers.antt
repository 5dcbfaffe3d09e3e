-- Each test that holds gives the front that it asks for; where none does, no type stands there.
use Rattle.ty.proofs.TypeFronts.{scalar_ends, vector_ends, matrix_ends, array_parted, struct_parted, none_ends}
use Rattle.ty.proofs.front_at.Goals as goal

pub returns-then-is_scalar : goal.returns-then-is_scalar
returns-then-is_scalar c = scalar_ends c.if-is_scalar.ensures

pub returns-then-is_vector : goal.returns-then-is_vector
returns-then-is_vector c = vector_ends c.if-is_vector.ensures

pub returns-then-is_matrix : goal.returns-then-is_matrix
returns-then-is_matrix c = matrix_ends c.if-is_matrix.ensures

pub returns-then-is_array : goal.returns-then-is_array
returns-then-is_array c = array_parted (λ i. (c.type_inv.s i).fits) c.if-is_array.ensures

pub returns-then-is_struct : goal.returns-then-is_struct
returns-then-is_struct c = rw c.join.ensures (struct_parted (λ i. (c.type_inv.s i).fits) c.if-is_struct.ensures)

pub returns : goal.returns
returns c =
    none_ends c.if-is_scalar.ensures c.if-is_vector.ensures c.if-is_matrix.ensures c.if-is_array.ensures c.if-is_struct.ensures
