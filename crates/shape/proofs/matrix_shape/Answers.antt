-- The shape by the front of the type, rows before columns.
use mathlib.Core.Path.{sym, ◌∙◌}
use Rattle.shape.proofs.Matrices.{scalars_few, scalars_right, column_short, columns_few, columns_right, matrix_no, array_no}
use Rattle.shape.proofs.Matrices.{struct_no}
use Rattle.shape.proofs.matrix_shape.Goals as goal

pub returns-then-count-n : goal.returns-then-count-n
returns-then-count-n c =
    λ t e w. scalars_few w _ _ _ (sym c.in-Scalar.is
    ∙ c.head_at.ensures t e w) c.scalars-n.ensures c.if-count-n.true

pub returns-then-n-size : goal.returns-then-n-size
returns-then-n-size c =
    λ t e w. column_short w _ _ _ (sym c.in-Vector.is ∙ c.head_at.ensures t e w)
    c.if-n-size.true

pub returns-then-count-w : goal.returns-then-count-w
returns-then-count-w c =
    λ t e w. columns_few w _ _ _ (sym c.in-Vector.is
    ∙ c.head_at.ensures t e w) c.if-n-size.false
    c.from-w.ensures c.if-count-w.true

pub returns-else-count-n : goal.returns-else-count-n
returns-else-count-n c =
    λ t e w. scalars_right w _ _ _ (sym c.in-Scalar.is
    ∙ c.head_at.ensures t e w) c.scalars-n.ensures c.if-count-n.false

pub returns-else-count-w : goal.returns-else-count-w
returns-else-count-w c =
    λ t e w. columns_right w _ _ _ (sym c.in-Vector.is
    ∙ c.head_at.ensures t e w) c.if-n-size.false
    c.from-w.ensures c.if-count-w.false

pub returns-in-Matrix : goal.returns-in-Matrix
returns-in-Matrix c = λ t e w. matrix_no w _ _ _ (sym c.in-Matrix.is ∙ c.head_at.ensures t e w)

pub returns-in-Array : goal.returns-in-Array
returns-in-Array c = λ t e w. array_no w _ _ _ (sym c.in-Array.is ∙ c.head_at.ensures t e w)

pub returns-in-Struct : goal.returns-in-Struct
returns-in-Struct c = λ t e w. struct_no w _ _ _ (sym c.in-Struct.is ∙ c.head_at.ensures t e w)
