-- `literal::Literal::construct` meets its contract: the target's kind picks the constructor, and a number over 6 has none.
use Rattle.meaning.specs.Kinds.{kind_of, kind_no, same_kind, is_abstract}
use Rattle.meaning.specs.Answers.{no}
use Rattle.kind.specs.Ends.{of_kind}
use Rattle.kind.proofs.Numbers.{over}
use Rattle.literal.specs.LiteralAnswers.{paper, ctor_from, ctor_to, no_ctor}
use borrow.Author.Rules.{rules}
use Rattle.literal.proofs.Literal.construct.Goals as goal

pub returns-in-0 : goal.returns-in-0
unfolding ctor_to of_kind kind_of ctor_from no_ctor is_abstract same_kind kind_no paper
returns-in-0 c = λ s e. rw c.in-0.is (c.bool_ctor.ensures s)

pub returns-in-1 : goal.returns-in-1
unfolding ctor_to of_kind kind_of ctor_from no_ctor is_abstract same_kind kind_no paper
returns-in-1 c = λ s e. rw c.in-1.is c.abstract_ctor.ensures

pub returns-in-2 : goal.returns-in-2
unfolding ctor_to of_kind kind_of ctor_from no_ctor is_abstract same_kind kind_no paper
returns-in-2 c = λ s e. rw c.in-2.is c.abstract_ctor-in-2.ensures

pub returns-in-3 : goal.returns-in-3
unfolding ctor_to of_kind kind_of ctor_from no_ctor is_abstract same_kind kind_no paper
returns-in-3 c = λ s e. rw c.in-3.is (c.i32_ctor.ensures s)

pub returns-in-4 : goal.returns-in-4
unfolding ctor_to of_kind kind_of ctor_from no_ctor is_abstract same_kind kind_no paper
returns-in-4 c = λ s e. rw c.in-4.is (c.u32_ctor.ensures s)

pub returns-in-5 : goal.returns-in-5
unfolding ctor_to of_kind kind_of ctor_from no_ctor is_abstract same_kind kind_no paper
returns-in-5 c = λ s e. rw c.in-5.is (c.f32_ctor.ensures s e)

pub returns-in-6 : goal.returns-in-6
unfolding ctor_to of_kind kind_of ctor_from no_ctor is_abstract same_kind kind_no paper
returns-in-6 c = λ s e. rw c.in-6.is (c.f16_ctor.ensures s e)

pub returns-in_default : goal.returns-in_default
unfolding ctor_to of_kind kind_of ctor_from no_ctor is_abstract same_kind kind_no paper
returns-in_default c = λ s e. over (no 1) (λ k. ctor_from s k c.args.self.kind c.args.self.bits) c.args.to (search rules)
