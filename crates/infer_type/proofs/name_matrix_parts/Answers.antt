-- The common type decides, or there is none.
use Rattle.meaning.specs.Trees.{Tm}
use Rattle.meaning.specs.Convert.{common}
use Rattle.error.proofs.Refusals.{passed_on, missing, present}
use Rattle.common_type.specs.CommonTypes.{CommonAt}
use Rattle.common_type.proofs.CommonAnswer.{common_of, common_none, front_is, front_ends}
use Rattle.infer_type.proofs.Shapes.{names_as, qm_never, qm_some}
use Rattle.infer_type.proofs.name_matrix_parts.Goals as goal
use Rattle.infer_type.proofs.name_matrix_parts.Goals.{In_ok-q}

-- the common type of the types that are given
met : (c : In_ok-q) → CommonAt (common c.args.args.given.types) c.in_ok-q.q c.common_type.new.ty
met c =
    common_of _ _ _ (c.common_type.ensures c.args.args.given.types c.args.args.given.given.row)
    (present _ _ c.ok_or.ensures.value c.in_ok-q.was)

pub slice_bounds-room-end : goal.slice_bounds-room-end
slice_bounds-room-end c = (met (goal.at.slice_bounds-room-end c).In_ok-q).stands.within

pub slice_bounds-ty-end : goal.slice_bounds-ty-end
slice_bounds-ty-end c = front_ends (met (goal.at.slice_bounds-ty-end c).In_ok-q)

pub invariant_of-ty : goal.invariant_of-ty
invariant_of-ty c =
    record { one = record { type = _; stands = (front_is (met (goal.at.invariant_of-ty c).In_ok-q)).whole } }

pub returns-in_err-q : goal.returns-in_err-q
returns-in_err-q c =
    λ l g. let m = missing _ _ c.ok_or.ensures.value c.in_err-q.was in
    rw (passed_on c.from_residual.result c.from_residual.ensures.1, m.1)
    (qm_never _ _ l (common_none _ _ _ (c.common_type.ensures l g.row) m.0))

pub returns : goal.returns
returns c =
    λ l g. let x = front_is (common_of _ _ _ (c.common_type.ensures l g.row)
    (present _ _ c.ok_or.ensures.value c.in_ok-q.was)) in
    names_as (Tm _ _) c.name_matrix_from.result (qm_some _ _ l g.count x.is)
    (c.name_matrix_from.ensures x.type _ x.whole)
