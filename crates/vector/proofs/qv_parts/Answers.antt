-- The count, the common type, then all to it.
use mathlib.Core.List.{map}
use Rattle.meaning.specs.Trees.{type_of}
use Rattle.meaning.specs.Convert.{common}
use Rattle.meaning.specs.Build.{flattened}
use Rattle.error.proofs.BufferAtExit.{builds_no}
use Rattle.error.proofs.Refusals.{passed_on, missing, present}
use Rattle.common_type.specs.CommonTypes.{CommonAt}
use Rattle.common_type.proofs.CommonAnswer.{common_of, common_none, front_is, front_ends}
use Rattle.vector.proofs.Commons.{qv_miscount, qv_never, in_common}
use Rattle.vector.proofs.qv_parts.Goals as goal
use Rattle.vector.proofs.qv_parts.Goals.{In_ok-q}

-- the common type of the parts that are given
met : (c : In_ok-q) → CommonAt (common (map type_of (flattened c.requires.some_row.values))) c.in_ok-q.q c.common_type_of.new.ty
met c =
    common_of _ _ _ (c.common_type_of.ensures c.requires.some_row.values c.requires.some_row.row)
    (present _ _ c.ok_or.ensures.value c.in_ok-q.was)

pub slice_bounds-buf-end : goal.slice_bounds-buf-end
slice_bounds-buf-end c = (met (goal.at.slice_bounds-buf-end c).In_ok-q).stands.within

pub slice_bounds-ty-end : goal.slice_bounds-ty-end
slice_bounds-ty-end c = front_ends (met (goal.at.slice_bounds-ty-end c).In_ok-q)

pub invariant_of-ty : goal.invariant_of-ty
invariant_of-ty c =
    record { one = record { type = _; stands = (front_is (met (goal.at.invariant_of-ty c).In_ok-q)).whole } }

pub returns-then-given-wanted : goal.returns-then-given-wanted
returns-then-given-wanted c = λ l x. builds_no c.args.out.now _ (qv_miscount c.args.n c.flat_count-given.result (flattened l) c.if-given-wanted.true (c.flat_count-given.ensures l x))

pub returns-in_err-q : goal.returns-in_err-q
returns-in_err-q c =
    let m = missing _ _ c.ok_or.ensures.value c.in_err-q.was in
    rw (passed_on c.from_residual.result c.from_residual.ensures.1, m.1)
    (λ l x. builds_no _ _ (qv_never _ c.flat_count-given.result (flattened l) c.if-given-wanted.false (c.flat_count-given.ensures l x)
    (common_none _ _ _ (c.common_type_of.ensures l x) m.0)))

pub to_common-requires : goal.to_common-requires
to_common-requires c =
    let f = front_is (met (goal.at.to_common-requires c).In_ok-q) in
    record {
      values = c.requires.some_row.values;
      type = f.type;
      common = in_common (search) f
          (c.flat_count-given.ensures _ (search)) (search);
    }

pub returns : goal.returns
returns c =
    λ l x. let f = front_is (common_of _ _ _ (c.common_type_of.ensures l x) (present _ _ c.ok_or.ensures.value c.in_ok-q.was)) in
    c.to_common.ensures l f.type (in_common x f
    (c.flat_count-given.ensures l x) (search))
