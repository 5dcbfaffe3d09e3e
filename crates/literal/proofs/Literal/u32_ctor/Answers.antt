-- `literal::Literal::u32_ctor` meets its contract: each kind's rule computes, and a number over 6 is none's.
use native.Mathlib.Omega.{arith}
use Rattle.meaning.specs.Kinds.{u32, kind_no, kind_of, same_kind, is_abstract}
use Rattle.meaning.specs.Scalars.{ctor_test, ctor_bits, keeps_bits, hi_of}
use Rattle.meaning.specs.Build.{ctor_lit}
use Rattle.kind.specs.Ends.{of_kind, low, high}
use Rattle.literal.specs.LiteralAnswers.{paper, ctor_from, number_of}
use Rattle.literal.proofs.Tests.{no_argument}
use borrow.Author.Rules.{rules}
use Rattle.literal.proofs.Literal.u32_ctor.Goals as goal

pub held_in-requires : goal.held_in-requires
unfolding of_kind kind_of low high paper ctor_from is_abstract same_kind kind_no ctor_lit ctor_test ctor_bits number_of keeps_bits hi_of
held_in-requires c = (omega arith, omega arith)

pub fitting-requires : goal.fitting-requires
unfolding of_kind kind_of low high paper ctor_from is_abstract same_kind kind_no ctor_lit ctor_test ctor_bits number_of keeps_bits hi_of
fitting-requires c = (omega arith, omega arith)

pub held_in-requires-in-2 : goal.held_in-requires-in-2
unfolding of_kind kind_of low high paper ctor_from is_abstract same_kind kind_no ctor_lit ctor_test ctor_bits number_of keeps_bits hi_of
held_in-requires-in-2 c = (omega arith, omega arith)

pub returns-in-0 : goal.returns-in-0
unfolding of_kind kind_of low high paper ctor_from is_abstract same_kind kind_no ctor_lit ctor_test ctor_bits number_of keeps_bits hi_of
returns-in-0 c = λ s. rw (c.held_in.ensures, c.in-0.is)

pub returns-in-1 : goal.returns-in-1
unfolding of_kind kind_of low high paper ctor_from is_abstract same_kind kind_no ctor_lit ctor_test ctor_bits number_of keeps_bits hi_of
returns-in-1 c = λ s. rw (c.fitting.ensures, c.in-1.is)

pub returns-in-2 : goal.returns-in-2
unfolding of_kind kind_of low high paper ctor_from is_abstract same_kind kind_no ctor_lit ctor_test ctor_bits number_of keeps_bits hi_of
returns-in-2 c = λ s. rw (c.held_in-in-2.ensures, c.in-2.is)

pub returns-in-3 : goal.returns-in-3
unfolding of_kind kind_of low high paper ctor_from is_abstract same_kind kind_no ctor_lit ctor_test ctor_bits number_of keeps_bits hi_of
returns-in-3 c = λ s. rw c.in-3.is

pub returns-in-4 : goal.returns-in-4
unfolding of_kind kind_of low high paper ctor_from is_abstract same_kind kind_no ctor_lit ctor_test ctor_bits number_of keeps_bits hi_of
returns-in-4 c = λ s. rw c.in-4.is

pub returns-in-5 : goal.returns-in-5
unfolding of_kind kind_of low high paper ctor_from is_abstract same_kind kind_no ctor_lit ctor_test ctor_bits number_of keeps_bits hi_of
returns-in-5 c = λ s. rw (c.held.ensures, c.in-5.is)

pub returns-in-6 : goal.returns-in-6
unfolding of_kind kind_of low high paper ctor_from is_abstract same_kind kind_no ctor_lit ctor_test ctor_bits number_of keeps_bits hi_of
returns-in-6 c = λ s. rw (c.held-in-6.ensures, c.in-6.is)

pub returns-in_default : goal.returns-in_default
unfolding of_kind kind_of low high paper ctor_from is_abstract same_kind kind_no ctor_lit ctor_test ctor_bits number_of keeps_bits hi_of
returns-in_default c = λ s. no_argument s u32 c.args.self.bits c.args.self.kind (search rules)
