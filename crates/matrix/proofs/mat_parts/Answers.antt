-- By the front of the first argument's type.
use mathlib.Core.Path.{subst}
use Rattle.ty.specs.declared.Head.{Head}
use Rattle.args.specs.Row.{HeadOf}
use Rattle.matrix.proofs.MatrixParts.{first_arg, first_one, scalar_first, vector_first}
use Rattle.matrix.proofs.mat_parts.Goals as goal

pub head_of-requires : goal.head_of-requires
head_of-requires c = first_arg c.args.args.given c.requires

pub invariant_of-ty : goal.invariant_of-ty
invariant_of-ty c =
    let h = subst (λ (r : Head). HeadOf c.args.args.bytes.now 0 r) c.in-Scalar.is c.head_of.ensures in
    record { one = first_one c.args.args.given c.requires (scalar_first h) c.args.kind.float }

pub mat_by-requires-clause-first_as : goal.mat_by-requires-clause-first_as
mat_by-requires-clause-first_as c =
    scalar_first (subst (λ (r : Head). HeadOf c.args.args.bytes.now 0 r) c.in-Scalar.is c.head_of.ensures)

pub invariant_of-ty-in-Vector : goal.invariant_of-ty-in-Vector
invariant_of-ty-in-Vector c =
    let h = subst (λ (r : Head). HeadOf c.args.args.bytes.now 0 r) c.in-Vector.is c.head_of.ensures in
    record { one = first_one c.args.args.given c.requires (vector_first h) c.args.kind.float }

pub mat_by-requires-in-Vector-clause-first_as : goal.mat_by-requires-in-Vector-clause-first_as
mat_by-requires-in-Vector-clause-first_as c =
    vector_first (subst (λ (r : Head). HeadOf c.args.args.bytes.now 0 r) c.in-Vector.is c.head_of.ensures)
