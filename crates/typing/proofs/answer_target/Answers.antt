-- What was read of the target says which rules there are.
use mathlib.Core.Path.{subst}
use Rattle.ty.specs.Targets.{Meant}
use Rattle.typing.proofs.TypingAnswers.{types_as, answer_no, type_whole, target_runtime, target_types}
use Rattle.typing.proofs.answer_target.Goals as goal

pub returns-in-Type : goal.returns-in-Type
returns-in-Type c =
    λ l g. let m = subst (Meant _) c.in-Type.is c.requires in
    types_as _ _ (target_types _ l m.reads) (c.answer.ensures m.type l (type_whole m) g)

pub returns-in-Runtime : goal.returns-in-Runtime
returns-in-Runtime c =
    λ l g. answer_no _ _ (target_runtime _ l (subst (Meant _) c.in-Runtime.is
    c.requires).reads)

pub returns-in-Array : goal.returns-in-Array
returns-in-Array c =
    λ l g. types_as _ _ (target_types _ l (subst (Meant _) c.in-Array.is c.requires)) (c.answer_array.ensures l g)

pub returns-in-Vector : goal.returns-in-Vector
returns-in-Vector c =
    λ l g. types_as _ _ (target_types _ l (subst (Meant _) c.in-Vector.is c.requires).0) (c.answer_vector.ensures l g)

pub returns-in-Matrix : goal.returns-in-Matrix
returns-in-Matrix c =
    λ l g. types_as _ _ (target_types _ l (subst (Meant _) c.in-Matrix.is c.requires).0) (c.answer_matrix.ensures l g)
