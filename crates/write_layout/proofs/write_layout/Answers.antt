-- The one value, or 2.
use mathlib.Core.Path.{sym}
use lib.Seq.{length-take-le}
use Rattle.ty.proofs.FrontOfBuffer.{front_whole}
use Rattle.args.specs.OneValue.{FoundAt}
use Rattle.args.proofs.OneValue.{found_front}
use Rattle.error.proofs.Refusals.{passed_on, missing, present}
use Rattle.error.proofs.BufferAtExit.{refused}
use Rattle.error.proofs.Told.{told_as}
use Rattle.write_layout.proofs.Answers.{one_answer, none_answer, found_asked}
use Rattle.write_layout.proofs.write_layout.Goals as goal
use Rattle.write_layout.proofs.write_layout.Goals.{In_ok-q}

one : (c : In_ok-q) → FoundAt c.args.args.now c.in_ok-q.q c.one_value.new.ty
one c = rw (present _ _ c.ok_or.ensures.value c.in_ok-q.was) at c.one_value.ensures

pub returns-in_err-q : goal.returns-in_err-q
returns-in_err-q c =
    let m = missing _ _ c.ok_or.ensures.value c.in_err-q.was in
    rw (passed_on c.from_residual.result c.from_residual.ensures.1, m.1)
    (refused _ _ (none_answer _ (λ i. (c.type_inv.args i).fits) (rw m.0 at c.one_value.ensures)))

pub slice_bounds-buf-end : goal.slice_bounds-buf-end
slice_bounds-buf-end c = (one (goal.at.slice_bounds-buf-end c).In_ok-q).stands.within

pub slice_bounds-ty-end : goal.slice_bounds-ty-end
slice_bounds-ty-end c = sym (length-take-le _ _ (one (goal.at.slice_bounds-ty-end c).In_ok-q).stands.within)

pub invariant_of-ty : goal.invariant_of-ty
invariant_of-ty c =
    record { one = record { type = _; stands = front_whole (one (goal.at.invariant_of-ty c).In_ok-q).stands } }

pub write_one-requires : goal.write_one-requires
write_one-requires c = found_front (one (goal.at.write_one-requires c).In_ok-q)

pub returns : goal.returns
returns c =
    let f = found_front (one (goal.at.returns c).In_ok-q) in
    told_as (one_answer _ f.one) (c.write_one.ensures f.value (found_asked f))
