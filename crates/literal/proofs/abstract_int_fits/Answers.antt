-- `literal::abstract_int_fits` meets its contract: each kind's test computes, and a number over 6 is none's. Where none
-- is made, every number of 64 bits passes it.
use mathlib.Core.Path.{ap}
use native.Mathlib.Omega.{arith}
use Rattle.meaning.specs.Kinds.{kind_no, kind_of, same_kind, kind_rank, from_aint}
use Rattle.meaning.specs.Scalars.{conv, conv_fits, some?}
use Rattle.kind.specs.Ends.{of_kind, low, high}
use Rattle.kind.proofs.Numbers.{over}
use Rattle.literal.specs.LiteralAnswers.{conv_from}
use Rattle.literal.proofs.Tests.{fits_where, aint_finite}
use borrow.Author.Rules.{rules}
use Rattle.literal.proofs.abstract_int_fits.Goals as goal

pub returns-in-0 : goal.returns-in-0
unfolding of_kind kind_no kind_of same_kind kind_rank from_aint some? low high conv conv_fits conv_from
returns-in-0 c = rw c.in-0.is

pub returns-in-1 : goal.returns-in-1
unfolding of_kind kind_no kind_of same_kind kind_rank from_aint some? low high conv conv_fits conv_from
returns-in-1 c = rw c.in-1.is

pub returns-in-2 : goal.returns-in-2
unfolding of_kind kind_no kind_of same_kind kind_rank from_aint some? low high conv conv_fits conv_from
returns-in-2 c =
    rw c.in-2.is (fits_where _ _ (aint_finite 53 1023 (omega arith) (omega arith, omega arith)
    c.args.bits))

pub returns-in-3 : goal.returns-in-3
unfolding of_kind kind_no kind_of same_kind kind_rank from_aint some? low high conv conv_fits conv_from
returns-in-3 c =
    rw (
      c.in-3.is,
      c.abstract_int_number.ensures,
      c.from-v.ensures.means,
    ) (fits_where _ _ (rw c.range_of.ensures at c.within.ensures))

pub returns-in-4 : goal.returns-in-4
unfolding of_kind kind_no kind_of same_kind kind_rank from_aint some? low high conv conv_fits conv_from
returns-in-4 c =
    rw (
      c.in-4.is,
      c.abstract_int_number.ensures,
      c.from-v.ensures.means,
    ) (fits_where _ _ (rw c.range_of-in-4.ensures at c.within-in-4.ensures))

pub returns-in-5 : goal.returns-in-5
unfolding of_kind kind_no kind_of same_kind kind_rank from_aint some? low high conv conv_fits conv_from
returns-in-5 c =
    rw c.in-5.is (fits_where _ _ (aint_finite 24 127 (omega arith) (omega arith, omega arith)
    c.args.bits))

pub returns-in-6 : goal.returns-in-6
unfolding of_kind kind_no kind_of same_kind kind_rank from_aint some? low high conv conv_fits conv_from
returns-in-6 c =
    rw (
      c.in-6.is,
      c.abstract_int_number.ensures,
      c.from-v.ensures.means,
    ) (fits_where _ _ c.rounds_finite.ensures)

pub returns-in_default : goal.returns-in_default
unfolding of_kind kind_no kind_of same_kind kind_rank from_aint some? low high conv conv_fits conv_from
returns-in_default c = ap some? (over _ _ c.args.to (search rules))
