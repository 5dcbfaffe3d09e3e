-- By the front of the target.
use mathlib.Core.Path.{sym, ◌∙◌}
use Rattle.check_type.proofs.Whole.{elem_ends, some_struct, whole_scalar, whole_vector, whole_matrix, whole_array, whole_struct}
use Rattle.check_type.proofs.check.Goals as goal

pub check_array-requires-clause-ends : goal.check_array-requires-clause-ends
check_array-requires-clause-ends c =
    elem_ends c.requires.is
    (sym c.in-Array.is ∙ c.head_at.ensures _ _ c.requires.is.whole)

pub check_struct-requires : goal.check_struct-requires
check_struct-requires c = some_struct c.requires.is (sym c.in-Struct.is ∙ c.head_at.ensures _ _ c.requires.is.whole)

pub returns-in-Scalar : goal.returns-in-Scalar
returns-in-Scalar c =
    λ t l x g. whole_scalar x g c.check_scalar.result
    (sym c.in-Scalar.is ∙ c.head_at.ensures t _ x.whole) c.check_scalar.ensures

pub returns-in-Vector : goal.returns-in-Vector
returns-in-Vector c =
    λ t l x g. whole_vector x g c.check_vector.result
    (sym c.in-Vector.is ∙ c.head_at.ensures t _ x.whole) c.check_vector.ensures

pub returns-in-Matrix : goal.returns-in-Matrix
returns-in-Matrix c =
    λ t l x g. whole_matrix x g c.check_matrix.result
    (sym c.in-Matrix.is ∙ c.head_at.ensures t _ x.whole) c.check_matrix.ensures

pub returns-in-Array : goal.returns-in-Array
returns-in-Array c =
    λ t l x g. whole_array x g c.check_array.result (sym c.in-Array.is
    ∙ c.head_at.ensures t _ x.whole) c.check_array.ensures

pub returns-in-Struct : goal.returns-in-Struct
returns-in-Struct c =
    λ t l x g. whole_struct x g c.check_struct.result
    (sym c.in-Struct.is ∙ c.head_at.ensures t _ x.whole)
    c.check_struct.ensures
