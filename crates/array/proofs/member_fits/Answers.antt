-- The type decides, then the literals.
use native.Mathlib.Omega.{arith}
use Rattle.array.proofs.Pairs.{pair_arg, pair_type, pair_stands, pair_part, type_no, fits_asked, fits_no, fits_yes}
use Rattle.array.proofs.member_fits.Goals as goal

pub end_of_type-q-requires : goal.end_of_type-q-requires
end_of_type-q-requires c = search pair_type

pub slice_bounds-member-count : goal.slice_bounds-member-count
slice_bounds-member-count c = omega (arith, (pair_stands c.requires.pairs c.end_of_type-q.ensures).size)

pub slice_bounds-member-start : goal.slice_bounds-member-start
slice_bounds-member-start c = omega (arith, (pair_stands c.requires.pairs c.end_of_type-q.ensures).size)

pub slice_bounds-member-end : goal.slice_bounds-member-end
slice_bounds-member-end c = (pair_stands c.requires.pairs c.end_of_type-q.ensures).within

pub arg_converts-requires : goal.arg_converts-requires
arg_converts-requires c = pair_arg c.requires.pairs

pub invariant_of-member : goal.invariant_of-member
invariant_of-member c = record { one = record { type = _; stands = pair_part c.requires.pairs c.end_of_type-q.ensures } }

pub returns-then-not-arg_converts : goal.returns-then-not-arg_converts
returns-then-not-arg_converts c =
    λ t m v l x. type_no x c.end_of_type-q.ensures c.arg_converts.ensures
    (c.if-not-arg_converts.true)

pub value_fits-requires : goal.value_fits-requires
value_fits-requires c =
    record {
      type = _;
      value = _;
      to = fits_asked c.requires.pairs c.end_of_type-q.ensures c.arg_converts.ensures
          (c.if-not-arg_converts.false) (c.next_arg-e.ensures _ _ c.requires.pairs.row);
    }

pub returns-then-not-value_fits : goal.returns-then-not-value_fits
returns-then-not-value_fits c =
    λ t m v l x. fits_no x c.end_of_type-q.ensures c.arg_converts.ensures
    (c.if-not-arg_converts.false)
    (c.next_arg-e.ensures v l x.row)
    c.value_fits.ensures (c.if-not-value_fits.true)

pub returns : goal.returns
returns c =
    λ t m v l x. fits_yes x c.end_of_type-q.ensures c.arg_converts.ensures
    (c.if-not-arg_converts.false)
    (c.next_arg-e.ensures v l x.row)
    c.value_fits.ensures (c.if-not-value_fits.false)
