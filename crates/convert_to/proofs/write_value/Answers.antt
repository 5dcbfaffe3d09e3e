-- The length that the type says decides.
use mathlib.Core.Path.{◌≡◌, sym, ◌∙◌}
use Rattle.std.proofs.Common.{rules}
use native.Mathlib.Omega.{arith}
use lib.ListN.{length}
use Rattle.meaning.specs.Trees.{Ty, Val, val_len}
use Rattle.meaning.specs.Records.{val_bytes}
use Rattle.record.proofs.Puts.{put_left}
use Rattle.ty.proofs.Lens.{is_len, long_len}
use Rattle.error.proofs.Refusals.{passed_on, missing, present}
use Rattle.error.proofs.BufferAtExit.{refused, written}
use Rattle.convert_to.specs.Conversions.{Becomes}
use Rattle.convert_to.proofs.ToType.{room_to, room_for, made_long, hand_yes, hand_no}
use Rattle.convert_to.proofs.write_value.Goals as goal
use Rattle.convert_to.proofs.write_value.Goals.{In_ok-n}

length_is : (c : In_ok-n) {t : Ty} {v w : Val} → Becomes c.args.target.bytes.now c.args.args.now t v w
    → c.in_ok-n.n ≡ val_len t
length_is c x =
    (is_len _ _ _ _ (sym (present _ _ c.ok_or.ensures.value c.in_ok-n.was) ∙ c.value_len.ensures _ _ x.whole)).1

pub returns-in_err-n : goal.returns-in_err-n
returns-in_err-n c =
    λ t v w x. let m = missing _ _ c.ok_or.ensures.value c.in_err-n.was in
    let n = long_len _ _ (sym m.0 ∙ c.value_len.ensures t _ x.whole) in
    rw (passed_on c.from_residual.result c.from_residual.ensures.1, m.1)
    (refused _ c.args.out.now (hand_no x (length c.args.out.now) (omega (arith, n))))

pub returns-then-n-out : goal.returns-then-n-out
returns-then-n-out c =
    λ t v w x. let n = length_is (goal.at.returns-then-n-out c).In_ok-n x in
    refused _ c.args.out.now (hand_no x (length c.args.out.now) (omega (arith, n, c.if-n-out.true)))

pub write_converted-requires : goal.write_converted-requires
write_converted-requires c =
    let n = length_is (goal.at.write_converted-requires c).In_ok-n c.requires.becomes in
    room_for c.requires.becomes (omega (arith, n, c.if-n-out.false))

pub returns : goal.returns
returns c =
    λ t v w x. let n = length_is (goal.at.returns c).In_ok-n x in
    written (val_bytes w) (hand_yes x (length c.args.out.now) (omega (arith, n, c.if-n-out.false)))
    (omega (arith, made_long x, n, c.if-n-out.false)) (put_left (c.write_converted.ensures.put t v w (room_to x) x.goes) (search rules))
