-- Each test that holds gives the target that it asks for; where none does, `read_target` gives none.
use Rattle.record.proofs.Starts.{decided, refuted}
use Rattle.ty.proofs.Targets.{array_answer, vector_answer, matrix_answer, runtime_answer, type_answer_lem, bad_answer}
use Rattle.ty.proofs.read_target.Goals as goal

pub returns-then-is_array_shape : goal.returns-then-is_array_shape
returns-then-is_array_shape c = array_answer (decided c.is_array_shape.ensures c.if-is_array_shape.true)

pub returns-then-is_vector_shape : goal.returns-then-is_vector_shape
returns-then-is_vector_shape c = vector_answer (decided c.is_vector_shape.ensures c.if-is_vector_shape.true)

pub returns-then-is_matrix_shape : goal.returns-then-is_matrix_shape
returns-then-is_matrix_shape c = matrix_answer (decided c.is_matrix_shape.ensures c.if-is_matrix_shape.true)

pub returns-then-is_runtime : goal.returns-then-is_runtime
returns-then-is_runtime c = runtime_answer (decided c.is_runtime.ensures c.if-is_runtime.true)

pub returns-then-is_type : goal.returns-then-is_type
returns-then-is_type c = type_answer_lem (decided c.is_type.ensures c.if-is_type.true)

pub returns : goal.returns
returns c =
    bad_answer (λ i. (c.type_inv.s i).fits)
    (refuted c.is_array_shape.ensures
    c.if-is_array_shape.false)
    (refuted c.is_vector_shape.ensures
    c.if-is_vector_shape.false)
    (refuted c.is_matrix_shape.ensures c.if-is_matrix_shape.false)
    (refuted c.is_runtime.ensures c.if-is_runtime.false)
    (refuted c.is_type.ensures c.if-is_type.false)
