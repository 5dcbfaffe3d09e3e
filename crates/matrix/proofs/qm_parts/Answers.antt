-- The common type, or none.
use mathlib.Core.List.{map}
use Rattle.meaning.specs.Trees.{type_of}
use Rattle.meaning.specs.Convert.{common}
use Rattle.error.proofs.BufferAtExit.{builds_as, builds_no}
use Rattle.error.proofs.Refusals.{passed_on, missing, present}
use Rattle.common_type.specs.CommonTypes.{CommonAt}
use Rattle.common_type.proofs.CommonAnswer.{common_of, common_none, front_is, front_ends}
use Rattle.matrix.proofs.MatrixParts.{qm_none, qm_typed}
use Rattle.matrix.proofs.qm_parts.Goals as goal
use Rattle.matrix.proofs.qm_parts.Goals.{In_ok-q}

-- the common type of the values that are given
met : (c : In_ok-q) → CommonAt (common (map type_of c.args.args.given.values)) c.in_ok-q.q c.common_type_of.new.ty
met c =
    common_of _ _ _ (c.common_type_of.ensures c.args.args.given.values c.args.args.given.given.row)
    (present _ _ c.ok_or.ensures.value c.in_ok-q.was)

pub slice_bounds-buf-end : goal.slice_bounds-buf-end
slice_bounds-buf-end c = (met (goal.at.slice_bounds-buf-end c).In_ok-q).stands.within

pub slice_bounds-ty-end : goal.slice_bounds-ty-end
slice_bounds-ty-end c = front_ends (met (goal.at.slice_bounds-ty-end c).In_ok-q)

pub invariant_of-ty : goal.invariant_of-ty
invariant_of-ty c =
    record { one = record { type = _; stands = (front_is (met (goal.at.invariant_of-ty c).In_ok-q)).whole } }

pub common_type_of-requires-clause-some_row : goal.common_type_of-requires-clause-some_row
common_type_of-requires-clause-some_row c =
    record { values = c.args.args.given.values; row = c.args.args.given.given.row }

pub qm_to-requires : goal.qm_to-requires
qm_to-requires c =
    λ l w. front_is (common_of _ _ _ (c.common_type_of.ensures l w) (present _ _ c.ok_or.ensures.value c.in_ok-q.was))

pub returns : goal.returns
returns c =
    λ l w h n. let f = front_is (common_of _ _ _ (c.common_type_of.ensures l w) (present _ _ c.ok_or.ensures.value c.in_ok-q.was)) in
    builds_as _ (qm_typed _ _ l f.is) (c.qm_to.ensures f.type l
    record { whole = f.whole; is = f.is; given = record { row = w; count = n } })

pub returns-in_err-q : goal.returns-in_err-q
returns-in_err-q c =
    let m = missing _ _ c.ok_or.ensures.value c.in_err-q.was in
    rw (passed_on c.from_residual.result c.from_residual.ensures.1, m.1)
    (λ l w h n. builds_no _ _ (qm_none _ _ l (common_none _ _ _ (c.common_type_of.ensures l w) m.0)))
