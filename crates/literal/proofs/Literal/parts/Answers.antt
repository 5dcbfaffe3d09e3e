-- `literal::Literal::parts` meets its contract: the kind's number picks the reading, and a number over 6 has a NaN.
use mathlib.Core.Path.{sym}
use Rattle.meaning.specs.Kinds.{kind_of}
use Rattle.meaning.specs.Scalars.{number}
use Rattle.kind.specs.Ends.{of_kind}
use Rattle.kind.proofs.Numbers.{over}
use Rattle.literal.specs.LiteralAnswers.{number_of}
use borrow.Author.Rules.{rules}
use Rattle.literal.proofs.Literal.parts.Goals as goal

pub returns-in-0 : goal.returns-in-0
unfolding number_of of_kind kind_of number
returns-in-0 c = rw c.in-0.is (rw c.from.ensures at c.from-in-0.ensures)

pub returns-in-1 : goal.returns-in-1
unfolding number_of of_kind kind_of number
returns-in-1 c = rw (c.in-1.is, c.abstract_int_number.ensures) c.from-in-1.ensures

pub returns-in-2 : goal.returns-in-2
unfolding number_of of_kind kind_of number
returns-in-2 c = rw c.in-2.is c.unpack.ensures

pub returns-in-3 : goal.returns-in-3
unfolding number_of of_kind kind_of number
returns-in-3 c = rw (c.in-3.is, c.i32_number.ensures) c.from-in-3.ensures

pub returns-in-4 : goal.returns-in-4
unfolding number_of of_kind kind_of number
returns-in-4 c = rw c.in-4.is (rw c.from-in-4.ensures at c.from-in-4-2.ensures)

pub returns-in-5 : goal.returns-in-5
unfolding number_of of_kind kind_of number
returns-in-5 c = rw c.in-5.is c.unpack-in-5.ensures

pub returns-in-6 : goal.returns-in-6
unfolding number_of of_kind kind_of number
returns-in-6 c = rw c.in-6.is c.unpack-in-6.ensures

pub returns-in_default : goal.returns-in_default
unfolding number_of of_kind kind_of number
returns-in_default c =
    record {
      means = sym (over _ _ c.args.self.kind (search rules));
      small = search
          rules;
    }
