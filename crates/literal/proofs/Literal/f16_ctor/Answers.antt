-- `literal::Literal::f16_ctor` meets its contract: each kind's rule computes, and a number over 6 is none's.
use mathlib.Core.Bool.{and-true, and-false}
use Rattle.meaning.specs.Kinds.{f16, kind_no, kind_of, same_kind, is_abstract}
use Rattle.meaning.specs.Scalars.{number, checked, ctor_test, ctor_bits, before_f16}
use Rattle.meaning.specs.Build.{ctor_lit}
use Rattle.kind.specs.Ends.{of_kind}
use Rattle.literal.specs.LiteralAnswers.{paper, number_of, ctor_from}
use Rattle.literal.proofs.Tests.{no_argument, ruled}
use borrow.Author.Rules.{rules}
use Rattle.literal.proofs.Literal.f16_ctor.Goals as goal

pub returns-in-0 : goal.returns-in-0
unfolding paper ctor_from of_kind kind_of is_abstract same_kind kind_no ctor_lit ctor_test ctor_bits number number_of before_f16
returns-in-0 c = λ s e. rw (c.f16_bits.ensures, c.in-0.is, and-false (checked s))

pub returns-in-1 : goal.returns-in-1
unfolding paper ctor_from of_kind kind_of is_abstract same_kind kind_no ctor_lit ctor_test ctor_bits number number_of before_f16
returns-in-1 c = λ s e. rw (c.f16_ranged.ensures, c.in-1.is, ruled s e, and-true (checked s))

pub returns-in-2 : goal.returns-in-2
unfolding paper ctor_from of_kind kind_of is_abstract same_kind kind_no ctor_lit ctor_test ctor_bits number number_of before_f16
returns-in-2 c = λ s e. rw (c.f16_ranged-in-2.ensures, c.in-2.is, ruled s e, and-true (checked s))

pub returns-in-3 : goal.returns-in-3
unfolding paper ctor_from of_kind kind_of is_abstract same_kind kind_no ctor_lit ctor_test ctor_bits number number_of before_f16
returns-in-3 c = λ s e. rw (c.f16_ranged-in-3.ensures, c.in-3.is, ruled s e, and-true (checked s))

pub returns-in-4 : goal.returns-in-4
unfolding paper ctor_from of_kind kind_of is_abstract same_kind kind_no ctor_lit ctor_test ctor_bits number number_of before_f16
returns-in-4 c = λ s e. rw (c.f16_ranged-in-4.ensures, c.in-4.is, ruled s e, and-true (checked s))

pub returns-in-5 : goal.returns-in-5
unfolding paper ctor_from of_kind kind_of is_abstract same_kind kind_no ctor_lit ctor_test ctor_bits number number_of before_f16
returns-in-5 c = λ s e. rw (c.f16_ranged-in-5.ensures, c.in-5.is, ruled s e, and-true (checked s))

pub returns-in-6 : goal.returns-in-6
unfolding paper ctor_from of_kind kind_of is_abstract same_kind kind_no ctor_lit ctor_test ctor_bits number number_of before_f16
returns-in-6 c = λ s e. rw c.in-6.is

pub returns-in_default : goal.returns-in_default
unfolding paper ctor_from of_kind kind_of is_abstract same_kind kind_no ctor_lit ctor_test ctor_bits number number_of before_f16
returns-in_default c = λ s e. no_argument s f16 c.args.self.bits c.args.self.kind (search rules)
