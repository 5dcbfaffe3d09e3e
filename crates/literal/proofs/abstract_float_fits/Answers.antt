-- `literal::abstract_float_fits` meets its contract: each kind's test computes, and a number over 6 is none's.
use mathlib.Core.Path.{ap}
use Rattle.meaning.specs.Kinds.{kind_no, kind_of, same_kind, kind_rank, from_afloat}
use Rattle.meaning.specs.Scalars.{number, conv, conv_fits, some?}
use Rattle.kind.specs.Ends.{of_kind}
use Rattle.kind.proofs.Numbers.{over}
use Rattle.literal.specs.LiteralAnswers.{conv_from}
use Rattle.literal.proofs.Tests.{fits_where}
use borrow.Author.Rules.{rules}
use Rattle.literal.proofs.abstract_float_fits.Goals as goal

pub returns-in-0 : goal.returns-in-0
unfolding of_kind kind_no kind_of same_kind kind_rank from_afloat some? number conv conv_fits conv_from
returns-in-0 c = rw c.in-0.is

pub returns-in-1 : goal.returns-in-1
unfolding of_kind kind_no kind_of same_kind kind_rank from_afloat some? number conv conv_fits conv_from
returns-in-1 c = rw c.in-1.is

pub returns-in-2 : goal.returns-in-2
unfolding of_kind kind_no kind_of same_kind kind_rank from_afloat some? number conv conv_fits conv_from
returns-in-2 c = rw c.in-2.is

pub returns-in-3 : goal.returns-in-3
unfolding of_kind kind_no kind_of same_kind kind_rank from_afloat some? number conv conv_fits conv_from
returns-in-3 c = rw c.in-3.is

pub returns-in-4 : goal.returns-in-4
unfolding of_kind kind_no kind_of same_kind kind_rank from_afloat some? number conv conv_fits conv_from
returns-in-4 c = rw c.in-4.is

pub returns-in-5 : goal.returns-in-5
unfolding of_kind kind_no kind_of same_kind kind_rank from_afloat some? number conv conv_fits conv_from
returns-in-5 c = rw (c.in-5.is, c.unpack.ensures.means) (fits_where _ _ c.rounds_finite.ensures)

pub returns-in-6 : goal.returns-in-6
unfolding of_kind kind_no kind_of same_kind kind_rank from_afloat some? number conv conv_fits conv_from
returns-in-6 c = rw (c.in-6.is, c.unpack-in-6.ensures.means) (fits_where _ _ c.rounds_finite-in-6.ensures)

pub returns-in_default : goal.returns-in_default
unfolding of_kind kind_no kind_of same_kind kind_rank from_afloat some? number conv conv_fits conv_from
returns-in_default c = ap some? (over _ _ c.args.to (search rules))
