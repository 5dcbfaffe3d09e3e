-- What was read of the target says which constructor it is.
use mathlib.Core.Path.{subst}
use Rattle.ty.specs.Targets.{Meant}
use Rattle.error.proofs.BufferAtExit.{builds_as}
use Rattle.builtin.proofs.CallAnswers.{target_builds}
use Rattle.builtin.proofs.target_given.Goals as goal

pub invariant_of-type_given : goal.invariant_of-type_given
invariant_of-type_given c =
    let m = subst (Meant _) c.in-Type.is c.requires in record { one = record { type = m.type; stands = m.stands } }

pub runtime_given-requires : goal.runtime_given-requires
runtime_given-requires c = subst (Meant _) c.in-Runtime.is c.requires

pub vector_given-requires : goal.vector_given-requires
vector_given-requires c = (subst (Meant _) c.in-Vector.is c.requires).1

pub returns-in-Type : goal.returns-in-Type
returns-in-Type c =
    λ s l e g. let m = subst (Meant _) c.in-Type.is c.requires in
    builds_as _ (target_builds s _ l m.reads) (c.type_given.ensures s m.type e m.stands l g)

pub returns-in-Runtime : goal.returns-in-Runtime
returns-in-Runtime c =
    λ s l e g. let m = subst (Meant _) c.in-Runtime.is c.requires in
    builds_as _ (target_builds s _ l m.reads) (c.runtime_given.ensures s m.type m.stands l g)

pub returns-in-Array : goal.returns-in-Array
returns-in-Array c =
    λ s l e g. let m = subst (Meant _) c.in-Array.is c.requires in
    builds_as _ (target_builds s _ l m) (c.array_given.ensures s l g)

pub returns-in-Vector : goal.returns-in-Vector
returns-in-Vector c =
    λ s l e g. let m = subst (Meant _) c.in-Vector.is c.requires in
    builds_as _ (target_builds s _ l m.0) (c.vector_given.ensures s l g)

pub returns-in-Matrix : goal.returns-in-Matrix
returns-in-Matrix c =
    λ s l e g. let m = subst (Meant _) c.in-Matrix.is c.requires in
    builds_as _ (target_builds s _ l m.0) (c.matrix_given.ensures s l g)
