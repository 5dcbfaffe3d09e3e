-- The length that the type says decides.
use mathlib.Core.Path.{◌≡◌, sym, ◌∙◌}
use native.Mathlib.Omega.{arith}
use Rattle.meaning.specs.Trees.{Ty, val_len}
use Rattle.std.proofs.Common.{rules}
use Rattle.record.proofs.Puts.{put_left}
use Rattle.ty.proofs.Lens.{is_len, long_len}
use Rattle.error.proofs.Refusals.{passed_on, missing, present}
use Rattle.read_layout.specs.Memory.{Sized}
use Rattle.read_layout.proofs.Answers.{sized_typed, sized_room, read_refused, read_record}
use Rattle.read_layout.proofs.read_sized.Goals as goal
use Rattle.read_layout.proofs.read_sized.Goals.{In_ok-n}

length_is : (c : In_ok-n) {t : Ty} → Sized c.args.target.bytes.now c.args.pads.now c.args.mem.now t → c.in_ok-n.n ≡ val_len t
length_is c x =
    (is_len _ _ _ _ (sym (present _ _ c.ok_or.ensures.value c.in_ok-n.was) ∙ c.value_len.ensures _ _ x.whole)).1

pub returns-in_err-n : goal.returns-in_err-n
returns-in_err-n c =
    λ t x. let m = missing _ _ c.ok_or.ensures.value c.in_err-n.was in
    let n = long_len _ _ (sym m.0 ∙ c.value_len.ensures t _ x.whole) in
    rw (passed_on c.from_residual.result c.from_residual.ensures.1, m.1)
    (read_refused x c.args.out.now (omega (arith, n)))

pub returns-then-n-out : goal.returns-then-n-out
returns-then-n-out c =
    λ t x. read_refused x _ (omega (arith, length_is (goal.at.returns-then-n-out c).In_ok-n x, c.if-n-out.true))

pub read_value-requires : goal.read_value-requires
read_value-requires c =
    let n = length_is (goal.at.read_value-requires c).In_ok-n c.requires.sized in
    sized_room c.requires.sized (λ i. (c.type_inv.mem i).fits) _ (omega (arith, n, c.if-n-out.false))

pub returns : goal.returns
returns c =
    λ t x. read_record x (λ i. (c.type_inv.mem i).fits)
    (omega (arith, length_is (goal.at.returns c).In_ok-n x, c.if-n-out.false))
    (put_left (c.read_value.ensures.moved t _ (sized_typed x)).2 (search rules))
