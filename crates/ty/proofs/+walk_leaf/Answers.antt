-- The kind at the bottom of an array's type is that of its elements' type, one level shallower.
use mathlib.Core.Path.{refl}
use native.Mathlib.Omega.{arith}
use Rattle.ty.proofs.Heads.{array_here}
use Rattle.ty.proofs.Leaves.{scalar_leaf, vector_leaf, matrix_leaf, array_leaf, struct_leaf}
use Rattle.ty.proofs.+walk_leaf.Goals as goal

pub overflow_sub-depth : goal.overflow_sub-depth
overflow_sub-depth t c = (array_here c.requires c.in-Array.ensures refl).deep

pub walk_leaf-requires : goal.walk_leaf-requires
walk_leaf-requires t c =
    let x = array_here c.requires c.in-Array.ensures refl in
    (omega (arith, c.decreases, x.deep), record { type = x.elem; end = c.requires.end; stands = x.part })

pub returns-in-Scalar : goal.returns-in-Scalar
returns-in-Scalar t c = λ t' e w. scalar_leaf w (c.in-Scalar.ensures t' e w)

pub returns-in-Vector : goal.returns-in-Vector
returns-in-Vector t c = λ t' e w. vector_leaf w (c.in-Vector.ensures t' e w)

pub returns-in-Matrix : goal.returns-in-Matrix
returns-in-Matrix t c = λ t' e w. matrix_leaf w (c.in-Matrix.ensures t' e w)

pub returns-in-Array : goal.returns-in-Array
returns-in-Array t c = λ t' e w. array_leaf w (c.in-Array.ensures t' e w) c.walk_leaf.ensures

pub returns-in-Struct : goal.returns-in-Struct
returns-in-Struct t c = λ t' e w. struct_leaf w (c.in-Struct.ensures t' e w)
