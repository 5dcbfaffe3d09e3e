-- `literal::Literal::f32_ctor` meets its contract: each kind's rule computes, and a number over 6 is none's.
use mathlib.Core.Bool.{and-true, and-false}
use Rattle.meaning.specs.Kinds.{f32, kind_no, kind_of, same_kind, is_abstract}
use Rattle.meaning.specs.Scalars.{number, checked, ctor_test, ctor_bits}
use Rattle.meaning.specs.Build.{ctor_lit}
use Rattle.kind.specs.Ends.{of_kind}
use Rattle.literal.specs.LiteralAnswers.{paper, ctor_from}
use Rattle.literal.proofs.Tests.{no_argument, ruled}
use borrow.Author.Rules.{rules}
use Rattle.literal.proofs.Literal.f32_ctor.Goals as goal

pub returns-in-0 : goal.returns-in-0
unfolding paper ctor_from of_kind kind_of is_abstract same_kind kind_no ctor_lit ctor_test ctor_bits number
returns-in-0 c = λ s e. rw (c.of_int.ensures.value, c.from.ensures, c.in-0.is, and-false (checked s))

pub returns-in-1 : goal.returns-in-1
unfolding paper ctor_from of_kind kind_of is_abstract same_kind kind_no ctor_lit ctor_test ctor_bits number
returns-in-1 c =
    λ s e. rw (
      c.of_int-in-1.ensures.value,
      c.in-1.is,
      c.abstract_int_number.ensures,
      and-false
          (checked s),
    )

pub returns-in-2 : goal.returns-in-2
unfolding paper ctor_from of_kind kind_of is_abstract same_kind kind_no ctor_lit ctor_test ctor_bits number
returns-in-2 c =
    λ s e. rw (
      c.ranged.ensures,
      c.in-2.is,
      ruled s e,
      and-true (checked s),
      c.convert.ensures.value,
      c.unpack-v.ensures.means,
    )

pub returns-in-3 : goal.returns-in-3
unfolding paper ctor_from of_kind kind_of is_abstract same_kind kind_no ctor_lit ctor_test ctor_bits number
returns-in-3 c = λ s e. rw (c.of_int-in-3.ensures.value, c.in-3.is, c.i32_number.ensures, and-false (checked s))

pub returns-in-4 : goal.returns-in-4
unfolding paper ctor_from of_kind kind_of is_abstract same_kind kind_no ctor_lit ctor_test ctor_bits number
returns-in-4 c = λ s e. rw (c.of_int-in-4.ensures.value, c.from-in-4.ensures, c.in-4.is, and-false (checked s))

pub returns-in-5 : goal.returns-in-5
unfolding paper ctor_from of_kind kind_of is_abstract same_kind kind_no ctor_lit ctor_test ctor_bits number
returns-in-5 c = λ s e. rw c.in-5.is

pub returns-in-6 : goal.returns-in-6
unfolding paper ctor_from of_kind kind_of is_abstract same_kind kind_no ctor_lit ctor_test ctor_bits number
returns-in-6 c = λ s e. rw (c.convert-in-6.ensures.value, c.in-6.is, and-false (checked s))

pub returns-in_default : goal.returns-in_default
unfolding paper ctor_from of_kind kind_of is_abstract same_kind kind_no ctor_lit ctor_test ctor_bits number
returns-in_default c = λ s e. no_argument s f32 c.args.self.bits c.args.self.kind (search rules)
