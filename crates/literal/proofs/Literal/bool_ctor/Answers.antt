-- `literal::Literal::bool_ctor` meets its contract: each kind's rule computes, and a number over 6 is none's.
use Rattle.meaning.specs.Kinds.{bool, kind_no, kind_of, same_kind, is_abstract}
use Rattle.meaning.specs.Scalars.{ctor_test, ctor_bits}
use Rattle.meaning.specs.Build.{ctor_lit}
use Rattle.kind.specs.Ends.{of_kind}
use Rattle.literal.specs.LiteralAnswers.{paper, ctor_from, number_of}
use Rattle.literal.proofs.Tests.{no_argument}
use borrow.Author.Rules.{rules}
use Rattle.literal.proofs.Literal.bool_ctor.Goals as goal

pub returns-in-0 : goal.returns-in-0
unfolding paper ctor_from of_kind kind_of is_abstract same_kind kind_no ctor_lit ctor_test ctor_bits number_of
returns-in-0 c = λ s. rw c.in-0.is

pub returns-in-1 : goal.returns-in-1
unfolding paper ctor_from of_kind kind_of is_abstract same_kind kind_no ctor_lit ctor_test ctor_bits number_of
returns-in-1 c = λ s. rw (c.truth.ensures, c.in-1.is)

pub returns-in-2 : goal.returns-in-2
unfolding paper ctor_from of_kind kind_of is_abstract same_kind kind_no ctor_lit ctor_test ctor_bits number_of
returns-in-2 c = λ s. rw (c.truth-in-2.ensures, c.in-2.is)

pub returns-in-3 : goal.returns-in-3
unfolding paper ctor_from of_kind kind_of is_abstract same_kind kind_no ctor_lit ctor_test ctor_bits number_of
returns-in-3 c = λ s. rw (c.truth-in-3.ensures, c.in-3.is)

pub returns-in-4 : goal.returns-in-4
unfolding paper ctor_from of_kind kind_of is_abstract same_kind kind_no ctor_lit ctor_test ctor_bits number_of
returns-in-4 c = λ s. rw (c.truth-in-4.ensures, c.in-4.is)

pub returns-in-5 : goal.returns-in-5
unfolding paper ctor_from of_kind kind_of is_abstract same_kind kind_no ctor_lit ctor_test ctor_bits number_of
returns-in-5 c = λ s. rw (c.truth-in-5.ensures, c.in-5.is)

pub returns-in-6 : goal.returns-in-6
unfolding paper ctor_from of_kind kind_of is_abstract same_kind kind_no ctor_lit ctor_test ctor_bits number_of
returns-in-6 c = λ s. rw (c.truth-in-6.ensures, c.in-6.is)

pub returns-in_default : goal.returns-in_default
unfolding paper ctor_from of_kind kind_of is_abstract same_kind kind_no ctor_lit ctor_test ctor_bits number_of
returns-in_default c = λ s. no_argument s bool c.args.self.bits c.args.self.kind (search rules)
