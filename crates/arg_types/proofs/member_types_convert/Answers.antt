-- What is left to look at decides.
use native.Mathlib.Omega.{arith}
use Rattle.shape.proofs.TypeRows.{types_first, types_standing, types_ends, types_next, types_less, types_on, types_end}
use Rattle.arg_types.proofs.Members.{member_standing, member_ends, members_no, members_on, members_end}
use Rattle.arg_types.proofs.member_types_convert.Goals as goal

pub end_of_type-e-requires : goal.end_of_type-e-requires
end_of_type-e-requires c =
    types_standing (c.loop-i.invariant c.requires.types c.requires.wanted c.requires.members)
    c.loop-i-test.true

pub end_of_type-f-requires : goal.end_of_type-f-requires
end_of_type-f-requires c =
    types_first
    (c.loop-i.invariant c.requires.types c.requires.wanted c.requires.members) c.loop-i-test.true λ t l x q. member_standing q

pub converts_at-requires-clause-ends : goal.converts_at-requires-clause-ends
converts_at-requires-clause-ends c =
    let g = c.loop-i.invariant c.requires.types c.requires.wanted c.requires.members in
    types_ends g c.loop-i-test.true c.end_of_type-e.ensures

pub converts_at-requires-clause-ends_2 : goal.converts_at-requires-clause-ends_2
converts_at-requires-clause-ends_2 c =
    let g = c.loop-i.invariant c.requires.types c.requires.wanted c.requires.members in
    types_first g c.loop-i-test.true λ t l x q. member_ends q c.end_of_type-f.ensures

pub returns-then-not-converts_at : goal.returns-then-not-converts_at
returns-then-not-converts_at c =
    λ l m x. types_next (c.loop-i.invariant l m x) c.loop-i-test.true
    c.end_of_type-e.ensures λ t k w q.
    members_no q c.end_of_type-f.ensures (λ u v. c.converts_at.ensures t u w v)
    (c.if-not-converts_at.true)

pub loop-i-smaller : goal.loop-i-smaller
loop-i-smaller c =
    omega (
      arith,
      c.loop-i-test.true,
      types_less (c.loop-i.invariant c.requires.types c.requires.wanted c.requires.members) c.loop-i-test.true
          c.end_of_type-e.ensures,
    )

pub loop-i-preserved : goal.loop-i-preserved
loop-i-preserved c =
    λ l m x. types_on (c.loop-i.invariant l m x) c.loop-i-test.true
    c.end_of_type-e.ensures λ t k w q.
    members_on q c.end_of_type-f.ensures (λ u v. c.converts_at.ensures t u w v)
    (c.if-not-converts_at.false)

pub returns : goal.returns
returns c = λ l m x. members_end (types_end (c.loop-i.invariant l m x) c.loop-i-test.false)
