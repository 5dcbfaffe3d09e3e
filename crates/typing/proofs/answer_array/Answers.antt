-- The common type, or none.
use Rattle.meaning.specs.Trees.{Qa}
use Rattle.meaning.specs.Convert.{common}
use Rattle.meaning.specs.Typing.{typed}
use Rattle.error.proofs.Refusals.{passed_on, missing, present}
use Rattle.common_type.specs.CommonTypes.{CommonAt}
use Rattle.common_type.proofs.CommonAnswer.{common_of, common_none, front_is, front_ends}
use Rattle.typing.proofs.TypingAnswers.{answer_no, answer_type, qa_never, qa_some}
use Rattle.typing.proofs.answer_array.Goals as goal
use Rattle.typing.proofs.answer_array.Goals.{In_ok-q}

-- the common type of the types that are given
met : (c : In_ok-q) → CommonAt (common c.args.args.given.types) c.in_ok-q.q c.common_type.new.ty
met c =
    common_of _ _ _ (c.common_type.ensures c.args.args.given.types c.args.args.given.given.row)
    (present _ _ c.ok_or.ensures.value c.in_ok-q.was)

pub slice_bounds-room-end : goal.slice_bounds-room-end
slice_bounds-room-end c = (met (goal.at.slice_bounds-room-end c).In_ok-q).stands.within

pub slice_bounds-ty-end : goal.slice_bounds-ty-end
slice_bounds-ty-end c = front_ends (met (goal.at.slice_bounds-ty-end c).In_ok-q)

pub invariant_of-ty : goal.invariant_of-ty
invariant_of-ty c =
    record { one = record { type = _; stands = (front_is (met (goal.at.invariant_of-ty c).In_ok-q)).whole } }

pub returns-in_err-q : goal.returns-in_err-q
returns-in_err-q c =
    λ l g. let m = missing _ _ c.ok_or.ensures.value c.in_err-q.was in
    rw (passed_on c.from_residual.result c.from_residual.ensures.1, m.1)
    (answer_no (typed Qa l) _ (qa_never l
    (common_none _ _ _ (c.common_type.ensures l g.row) m.0)))

pub returns : goal.returns
returns c =
    λ l g. let x = front_is (common_of _ _ _ (c.common_type.ensures l g.row)
    (present _ _ c.ok_or.ensures.value c.in_ok-q.was)) in
    answer_type (typed Qa l) _ (qa_some l g.count x.is) (c.hand_array.ensures x.type x.whole)
