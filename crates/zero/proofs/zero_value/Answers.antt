-- The length that the type says decides; the zero value has that type.
use mathlib.Core.Path.{sym, ◌∙◌}
use Rattle.std.proofs.Common.{rules}
use native.Mathlib.Omega.{arith}
use Rattle.error.proofs.Refusals.{passed_on, missing, present}
use Rattle.record.proofs.Puts.{put_left}
use Rattle.ty.proofs.Lens.{is_len, long_len}
use Rattle.zero.proofs.ZeroAnswers.{zero_refused, zero_record}
use Rattle.zero.proofs.zero_value.Goals as goal

pub returns-in_err-n : goal.returns-in_err-n
returns-in_err-n c =
    let m = missing _ _ c.ok_or.ensures.value c.in_err-n.was in
    rw (passed_on c.from_residual.result c.from_residual.ensures.1, m.1)
    (λ t w. let n = long_len _ _ (sym m.0 ∙ c.value_len.ensures t _ w) in zero_refused t w.shaped _ (omega (arith, n)))

pub returns-then-n-out : goal.returns-then-n-out
returns-then-n-out c =
    λ t w. let n = is_len _ _ _ _ (sym (present _ _ c.ok_or.ensures.value c.in_ok-n.was) ∙ c.value_len.ensures t _ w) in
    zero_refused t w.shaped _ (omega (arith, n.1, c.if-n-out.true))

pub write_zero-requires : goal.write_zero-requires
write_zero-requires c =
    let n = is_len _ _ _ _ (sym (present _ _ c.ok_or.ensures.value c.in_ok-n.was)
    ∙ c.value_len.ensures c.args.target.one.type _ c.args.target.one.stands) in
    record { type = c.args.target.one.type; end = _; stands = c.args.target.one.stands; room = omega (arith, n.1, c.if-n-out.false) }

pub returns : goal.returns
returns c =
    λ t w. let n = is_len _ _ _ _ (sym (present _ _ c.ok_or.ensures.value c.in_ok-n.was) ∙ c.value_len.ensures t _ w) in
    zero_record t w.shaped _ (omega (arith, n.1, c.if-n-out.false)) (put_left (c.write_zero.ensures.zeroes t _ w).1 (search rules))
