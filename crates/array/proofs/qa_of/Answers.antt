-- The common type, then the literals, then the writing.
use mathlib.Core.Path.{sym, ◌∙◌}
use mathlib.Core.List.{map}
use Rattle.meaning.specs.Trees.{type_of}
use Rattle.meaning.specs.Convert.{common}
use Rattle.error.proofs.BufferAtExit.{builds_as, builds_no}
use Rattle.error.proofs.Refusals.{passed_on, missing, present}
use Rattle.common_type.specs.CommonTypes.{CommonAt}
use Rattle.common_type.proofs.CommonAnswer.{common_of, common_none, front_is, front_ends}
use Rattle.convert_all.proofs.ConvertedLists.{common_to}
use Rattle.array.proofs.Arrays.{become, qa_none, qa_ten, qa_ok}
use Rattle.array.proofs.qa_of.Goals as goal
use Rattle.array.proofs.qa_of.Goals.{In_ok-q}

-- the common type of the values that are given
met : (c : In_ok-q) → CommonAt (common (map type_of c.args.args.given.values)) c.in_ok-q.q c.common_type_of.new.ty
met c =
    common_of _ _ _ (c.common_type_of.ensures c.args.args.given.values c.args.args.given.given.row)
    (present _ _ c.ok_or.ensures.value c.in_ok-q.was)

pub slice_bounds-buf-end : goal.slice_bounds-buf-end
slice_bounds-buf-end c = (met (goal.at.slice_bounds-buf-end c).In_ok-q).stands.within

pub slice_bounds-ty-end : goal.slice_bounds-ty-end
slice_bounds-ty-end c = front_ends (met (goal.at.slice_bounds-ty-end c).In_ok-q)

pub invariant_of-ty : goal.invariant_of-ty
invariant_of-ty c =
    record { one = record { type = _; stands = (front_is (met (goal.at.invariant_of-ty c).In_ok-q)).whole } }

pub all_fit-requires : goal.all_fit-requires
all_fit-requires c =
    let f = front_is (met (goal.at.all_fit-requires c).In_ok-q) in
    record {
      values = _;
      row = search;
      type = f.type;
      end = _;
      stands = f.whole;
      converts = common_to c.args.args.given.values f.type f.is;
    }

pub returns-then-not-all_fit : goal.returns-then-not-all_fit
returns-then-not-all_fit c =
    λ l g. let f = front_is (common_of _ _ _ (c.common_type_of.ensures l g.row) (present _ _ c.ok_or.ensures.value c.in_ok-q.was)) in
    builds_no _ _ (qa_ten l f.is (sym (c.all_fit.ensures l f.type _ g.row f.whole)
    ∙ c.if-not-all_fit.true))

pub write_array-requires : goal.write_array-requires
write_array-requires c =
    let f = front_is (met (goal.at.write_array-requires c).In_ok-q) in
    let b = become f.type c.args.args.given.values (sym (c.all_fit.ensures _ f.type _ c.args.args.given.given.row f.whole)
    ∙ c.if-not-all_fit.false) in
    record {
      type = _;
      end = _;
      values = _;
      intos = b.intos;
      elements = record { given = c.args.args.given.given; least = c.requires; stands = f.whole; goes = b.goes };
    }

pub returns : goal.returns
returns c =
    λ l g. let f = front_is (common_of _ _ _ (c.common_type_of.ensures l g.row)
    (present _ _ c.ok_or.ensures.value c.in_ok-q.was)) in
    let b = become f.type l (sym (c.all_fit.ensures l f.type _ g.row
    f.whole) ∙ c.if-not-all_fit.false) in
    builds_as _ (qa_ok l f.is b) (c.write_array.ensures f.type _ l b.intos
    record {
      given = g;
      least =
          c.requires;
      stands = f.whole;
      goes = b.goes;
    })

pub returns-in_err-q : goal.returns-in_err-q
returns-in_err-q c =
    let m = missing _ _ c.ok_or.ensures.value c.in_err-q.was in
    rw (passed_on c.from_residual.result c.from_residual.ensures.1, m.1)
    (λ l g. builds_no _ _ (qa_none l (common_none _ _ _ (c.common_type_of.ensures l g.row) m.0)))
