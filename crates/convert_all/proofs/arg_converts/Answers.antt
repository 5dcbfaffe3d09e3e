-- The fronts say it, but for arrays and structs.
use mathlib.Core.Path.{sym, ◌∙◌}
use Rattle.meaning.specs.Trees.{type_of}
use Rattle.convert_all.proofs.arg_converts.Goals as goal

pub head_at-requires : goal.head_at-requires
head_at-requires c = record { type = _; end = _; stands = c.args.ty.one.stands }

pub head_at-requires-in-Vector : goal.head_at-requires-in-Vector
head_at-requires-in-Vector c = record { type = _; end = _; stands = c.args.ty.one.stands }

pub head_at-requires-in-Matrix : goal.head_at-requires-in-Matrix
head_at-requires-in-Matrix c = record { type = _; end = _; stands = c.args.ty.one.stands }

pub returns-in-Scalar : goal.returns-in-Scalar
returns-in-Scalar c =
    λ v l t w x. c.scalar_converts.ensures (type_of v) t
    (sym c.in-Scalar.is ∙ c.head_of.ensures v l w)
    (c.head_at.ensures t _ x)

pub returns-in-Vector : goal.returns-in-Vector
returns-in-Vector c =
    λ v l t w x. c.vector_converts.ensures (type_of v) t
    (sym c.in-Vector.is ∙ c.head_of.ensures v l w)
    (c.head_at-in-Vector.ensures t _ x)

pub returns-in-Matrix : goal.returns-in-Matrix
returns-in-Matrix c =
    λ v l t w x. c.matrix_converts.ensures (type_of v) t
    (sym c.in-Matrix.is ∙ c.head_of.ensures v l w)
    (c.head_at-in-Matrix.ensures t _ x)

pub returns-in-Array : goal.returns-in-Array
returns-in-Array c = c.derived_converts.ensures

pub returns-in-Struct : goal.returns-in-Struct
returns-in-Struct c = c.derived_converts-in-Struct.ensures
