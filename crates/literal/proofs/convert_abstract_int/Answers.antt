-- `literal::convert_abstract_int` meets its contract: each kind's rule computes, and a number over 6 is none's.
use mathlib.Core.Path.{ap}
use native.Mathlib.Omega.{arith}
use Rattle.meaning.specs.Kinds.{kind_no, kind_of, same_kind, kind_rank, from_aint}
use Rattle.meaning.specs.Scalars.{conv, conv_fits, conv_bits, some?}
use Rattle.kind.specs.Ends.{of_kind, low, high}
use Rattle.kind.proofs.Numbers.{over}
use Rattle.literal.specs.LiteralAnswers.{converted_of, conv_from}
use borrow.Author.Rules.{rules}
use Rattle.literal.proofs.convert_abstract_int.Goals as goal

pub integer-requires : goal.integer-requires
unfolding of_kind kind_no kind_of same_kind kind_rank from_aint some? low high conv conv_fits conv_bits converted_of conv_from
integer-requires c = rw c.range_of.ensures (omega arith, omega arith)

pub integer-requires-in-4 : goal.integer-requires-in-4
unfolding of_kind kind_no kind_of same_kind kind_rank from_aint some? low high conv conv_fits conv_bits converted_of conv_from
integer-requires-in-4 c = rw c.range_of-in-4.ensures (omega arith, omega arith)

pub returns-in-0 : goal.returns-in-0
unfolding of_kind kind_no kind_of same_kind kind_rank from_aint some? low high conv conv_fits conv_bits converted_of conv_from
returns-in-0 c = rw c.in-0.is

pub returns-in-1 : goal.returns-in-1
unfolding of_kind kind_no kind_of same_kind kind_rank from_aint some? low high conv conv_fits conv_bits converted_of conv_from
returns-in-1 c = rw c.in-1.is

pub returns-in-2 : goal.returns-in-2
unfolding of_kind kind_no kind_of same_kind kind_rank from_aint some? low high conv conv_fits conv_bits converted_of conv_from
returns-in-2 c =
    rw (c.in-2.is, c.abstract_int_number-n.ensures, ← c.of_int.ensures.value)
    c.finite.ensures

pub returns-in-3 : goal.returns-in-3
unfolding of_kind kind_no kind_of same_kind kind_rank from_aint some? low high conv conv_fits conv_bits converted_of conv_from
returns-in-3 c =
    rw (
      c.in-3.is,
      c.abstract_int_number-n.ensures,
      c.from.ensures.means,
    ) (rw c.range_of.ensures at c.integer.ensures)

pub returns-in-4 : goal.returns-in-4
unfolding of_kind kind_no kind_of same_kind kind_rank from_aint some? low high conv conv_fits conv_bits converted_of conv_from
returns-in-4 c =
    rw (
      c.in-4.is,
      c.abstract_int_number-n.ensures,
      c.from-in-4.ensures.means,
    ) (rw c.range_of-in-4.ensures at c.integer-in-4.ensures)

pub returns-in-5 : goal.returns-in-5
unfolding of_kind kind_no kind_of same_kind kind_rank from_aint some? low high conv conv_fits conv_bits converted_of conv_from
returns-in-5 c =
    rw (
      c.in-5.is,
      c.abstract_int_number-n.ensures,
      ← c.of_int-in-5.ensures.value,
    ) c.finite-in-5.ensures

pub returns-in-6 : goal.returns-in-6
unfolding of_kind kind_no kind_of same_kind kind_rank from_aint some? low high conv conv_fits conv_bits converted_of conv_from
returns-in-6 c =
    rw (
      c.in-6.is,
      c.abstract_int_number-n.ensures,
      ← c.of_int-in-6.ensures.value,
    ) c.finite-in-6.ensures

pub returns-in_default : goal.returns-in_default
unfolding of_kind kind_no kind_of same_kind kind_rank from_aint some? low high conv conv_fits conv_bits converted_of conv_from
returns-in_default c = ap converted_of (over _ _ c.args.to (search rules))
