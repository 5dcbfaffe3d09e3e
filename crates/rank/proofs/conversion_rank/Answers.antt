-- What `read_target` says is what `read_target` gives, and the answer follows from it.
use mathlib.Core.Path.{◌≡◌, refl, sym, subst, ◌∙◌}
use Rattle.meaning.specs.Trees as trees
use Rattle.meaning.specs.Answers.{no}
use Rattle.meaning.specs.Entries.{type_target}
use Rattle.ty.specs.Targets.{Meant}
use Rattle.ty.proofs.Targets.{meant, shape_only, bad_target}
use Rattle.error.specs.Refusals.{paper}
use Rattle.error.proofs.Refusals.{passed_on, missing, present}
use Rattle.rank.proofs.Ranks.{of_answer, tr_answer, no_answer}
use Rattle.rank.proofs.conversion_rank.Goals as goal
use Rattle.rank.proofs.conversion_rank.Goals.{In_ok-found}

found : (c : In_ok-found) → Meant c.args.target.now c.in_ok-found.found
found c = meant _ (λ i. (c.type_inv.target i).fits) c.read_target.ensures (present _ _ c.ok_or.ensures.value c.in_ok-found.was)

pub returns-in_err-found : goal.returns-in_err-found
unfolding paper
returns-in_err-found c =
    let m = missing _ _ c.ok_or.ensures.value c.in_err-found.was in
    rw (passed_on c.from_residual.result c.from_residual.ensures.1, m.1)
    (sym (no_answer _ _ (bad_target _ c.read_target.ensures m.0) refl))

pub invariant_of-to : goal.invariant_of-to
invariant_of-to c =
    let m = subst (Meant _) c.in-Type.is (found (goal.at.invariant_of-to c).In_ok-found) in
    record { one = record { type = m.type; stands = m.stands } }

pub returns-in-Type : goal.returns-in-Type
returns-in-Type c =
    let m = subst (Meant _) c.in-Type.is (found (goal.at.returns-in-Type c).In_ok-found) in
    c.rank_to.ensures m.type m.stands ∙ sym (of_answer _ _ m.reads)

pub returns-in-Runtime : goal.returns-in-Runtime
returns-in-Runtime c =
    let m = subst (Meant _) c.in-Runtime.is (found (goal.at.returns-in-Runtime c).In_ok-found) in
    c.rank_to_runtime.ensures m.type ∙ sym (tr_answer _ _ m.reads)

pub returns-in_default : goal.returns-in_default
unfolding paper type_target
returns-in_default c =
    let x = shape_only _ c.in_default.not-Type c.in_default.not-Runtime (found (goal.at.returns-in_default c).In_ok-found)
    (λ (g : trees.Target). type_target g ≡ no 1) refl (λ n. refl) (λ a b. refl) in
    sym (no_answer _ _ x.1 x.2)
