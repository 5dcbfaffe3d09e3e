-- What `read_target` says is what `read_target` gives, and the answer follows from it.
use mathlib.Core.Path.{◌≡◌, refl, subst}
use Rattle.meaning.specs.Trees as trees
use Rattle.meaning.specs.Answers.{no}
use Rattle.meaning.specs.Layout.{laid_type}
use Rattle.ty.specs.Targets.{Meant}
use Rattle.ty.proofs.Targets.{meant, shape_only, bad_target}
use Rattle.error.proofs.Refusals.{passed_on, missing, present}
use Rattle.error.proofs.BufferAtExit.{refused}
use Rattle.error.proofs.Told.{told_as}
use Rattle.layout.proofs.Answers.{type_short}
use Rattle.read_layout.proofs.Answers.{of_answer, no_answer}
use Rattle.read_layout.proofs.read_layout.Goals as goal
use Rattle.read_layout.proofs.read_layout.Goals.{In_ok-found}

found : (c : In_ok-found) → Meant c.args.target.now c.in_ok-found.found
found c =
    meant _ (λ i. (c.type_inv.target i).fits) c.read_target.ensures (present _ _ c.ok_or.ensures.value c.in_ok-found.was)

pub returns-in_err-found : goal.returns-in_err-found
returns-in_err-found c =
    let m = missing _ _ c.ok_or.ensures.value c.in_err-found.was in
    rw (passed_on c.from_residual.result c.from_residual.ensures.1, m.1)
    (refused _ _ (no_answer _ _ _ 1 (bad_target _ c.read_target.ensures m.0) refl))

pub invariant_of-read_type : goal.invariant_of-read_type
invariant_of-read_type c =
    let m = subst (Meant _) c.in-Type.is (found (goal.at.invariant_of-read_type c).In_ok-found) in
    record { one = record { type = m.type; stands = m.stands } }

pub read_type-requires : goal.read_type-requires
read_type-requires c =
    type_short _ (subst (Meant _) c.in-Type.is (found (goal.at.read_type-requires c).In_ok-found))

pub returns-in-Type : goal.returns-in-Type
returns-in-Type c =
    let m = subst (Meant _) c.in-Type.is (found (goal.at.returns-in-Type c).In_ok-found) in
    told_as (of_answer _ _ _ m.reads) (c.read_type.ensures m.type m.stands)

pub returns-in-Runtime : goal.returns-in-Runtime
unfolding laid_type
returns-in-Runtime c =
    let m = subst (Meant _) c.in-Runtime.is (found (goal.at.returns-in-Runtime c).In_ok-found) in
    refused _ _ (no_answer _ _ _ 25 m.reads refl)

pub returns-in_default : goal.returns-in_default
unfolding laid_type
returns-in_default c =
    let x = shape_only _ c.in_default.not-Type c.in_default.not-Runtime
    (found (goal.at.returns-in_default c).In_ok-found)
    (λ (g : trees.Target). laid_type g ≡ no 1) refl (λ n. refl) (λ a b. refl) in
    refused _ _ (no_answer _ _ _ 1 x.1 x.2)
