-- The target is read, then the arguments, and the constructor's answer follows.
use Rattle.meaning.specs.Read.{read_vals}
use Rattle.ty.proofs.Targets.{meant, bad_target}
use Rattle.args.proofs.Rest.{both_read, none_read}
use Rattle.error.proofs.BufferAtExit.{refused}
use Rattle.builtin.proofs.CallAnswers.{no_target, no_args, read_given, read_builds}
use Rattle.builtin.proofs.target_call.Goals as goal

pub returns-in_default : goal.returns-in_default
returns-in_default c = λ s e. refused _ _ (no_target s _ _ _ (bad_target _ c.read_target.ensures c.in_default.is))

pub returns-in_default-value_args : goal.returns-in_default-value_args
returns-in_default-value_args c =
    λ s e. refused _ _ (no_args s _ _ _ (none_read read_vals c.args.target.now c.args.args.now c.read_target.ensures
    c.in-Some.is c.value_args.ensures c.in_default-value_args.is))

pub invariant_of-target_given : goal.invariant_of-target_given
invariant_of-target_given c =
    let x = both_read read_vals c.args.target.now c.args.args.now c.read_target.ensures c.in-Some.is c.value_args.ensures c.in-Some-value_args.is in
    record { given = record { values = x.items; given = read_given _ (λ i. (c.type_inv.args i).fits) x } }

pub target_given-requires : goal.target_given-requires
target_given-requires c = meant _ (λ i. (c.type_inv.target i).fits) c.read_target.ensures c.in-Some.is

pub returns : goal.returns
returns c =
    λ s e. let x = both_read read_vals c.args.target.now c.args.args.now c.read_target.ensures c.in-Some.is c.value_args.ensures
    c.in-Some-value_args.is in
    read_builds s _ _ x (c.target_given.ensures s x.items e (read_given _ (λ i. (c.type_inv.args i).fits) x))
