-- The target is read, then the arguments, and the type that is made of them follows.
use Rattle.meaning.specs.Read.{read_tys}
use Rattle.ty.proofs.Targets.{meant, bad_target}
use Rattle.args.proofs.Rest.{both_read, none_read}
use Rattle.error.proofs.BufferAtExit.{refused}
use Rattle.error.proofs.Refusals.{passed_on, missing, present}
use Rattle.typing.proofs.TypingAnswers.{no_target, no_args, read_given, read_types}
use Rattle.typing.proofs.type_ctor.Goals as goal

pub returns-in_err-found : goal.returns-in_err-found
returns-in_err-found c =
    let m = missing _ _ c.ok_or.ensures.value c.in_err-found.was in
    rw (passed_on c.from_residual.result c.from_residual.ensures.1, m.1)
    (refused _ _ (no_target _ _ _ (bad_target _ c.read_target.ensures m.0)))

pub returns-in_err-count : goal.returns-in_err-count
returns-in_err-count c =
    let m = missing _ _ c.ok_or-2.ensures.value c.in_err-count.was in
    rw (passed_on c.from_residual-in_err-count.result c.from_residual-in_err-count.ensures.1, m.1)
    (refused _ _ (no_args _ _ _ (none_read read_tys c.args.target.now c.args.args.now c.read_target.ensures
    (present _ _ c.ok_or.ensures.value c.in_ok-found.was) c.type_args.ensures m.0)))

pub invariant_of-given : goal.invariant_of-given
invariant_of-given c =
    let x = both_read read_tys c.args.target.now c.args.args.now c.read_target.ensures
    (present _ _ c.ok_or.ensures.value c.in_ok-found.was) c.type_args.ensures
    (present _ _ c.ok_or-2.ensures.value c.in_ok-count.was) in
    record { given = record { types = x.items; given = read_given _ (λ i. (c.type_inv.args i).fits) x } }

pub answer_target-requires : goal.answer_target-requires
answer_target-requires c =
    meant _ (λ i. (c.type_inv.target i).fits) c.read_target.ensures (present _ _ c.ok_or.ensures.value c.in_ok-found.was)

pub returns : goal.returns
returns c =
    let x = both_read read_tys c.args.target.now c.args.args.now c.read_target.ensures
    (present _ _ c.ok_or.ensures.value c.in_ok-found.was) c.type_args.ensures
    (present _ _ c.ok_or-2.ensures.value c.in_ok-count.was) in
    read_types _ _ x (c.answer_target.ensures x.items (read_given _ (λ i. (c.type_inv.args i).fits) x))
