-- `literal::Literal::convert_to` meets its contract: the literal's kind picks the rule, and a number over 6 has none.
use mathlib.Core.Path.{refl, ap, ◌∙◌}
use Rattle.meaning.specs.Kinds.{bool, i32, u32, f32, f16, kind_no, kind_of, kind_rank}
use Rattle.kind.specs.Ends.{of_kind}
use Rattle.kind.proofs.Numbers.{over}
use Rattle.literal.specs.LiteralAnswers.{converted_of, conv_from, conv_between}
use Rattle.literal.proofs.Tests.{kept}
use borrow.Author.Rules.{rules}
use Rattle.literal.proofs.Literal.convert_to.Goals as goal

pub returns-in-0 : goal.returns-in-0
unfolding conv_between conv_from of_kind kind_of kind_rank kind_no converted_of
returns-in-0 c =
    c.convert_same.ensures ∙ ap converted_of
    (kept bool (λ k. refl) c.args.to c.args.self.kind c.args.self.bits c.in-0.is)

pub returns-in-1 : goal.returns-in-1
unfolding conv_between conv_from of_kind kind_of kind_rank kind_no converted_of
returns-in-1 c = rw c.in-1.is c.convert_abstract_int.ensures

pub returns-in-2 : goal.returns-in-2
unfolding conv_between conv_from of_kind kind_of kind_rank kind_no converted_of
returns-in-2 c = rw c.in-2.is c.convert_abstract_float.ensures

pub returns-in-3 : goal.returns-in-3
unfolding conv_between conv_from of_kind kind_of kind_rank kind_no converted_of
returns-in-3 c =
    c.convert_same-in-3.ensures
    ∙ ap converted_of (kept i32 (λ k. refl) c.args.to c.args.self.kind c.args.self.bits c.in-3.is)

pub returns-in-4 : goal.returns-in-4
unfolding conv_between conv_from of_kind kind_of kind_rank kind_no converted_of
returns-in-4 c =
    c.convert_same-in-4.ensures
    ∙ ap converted_of (kept u32 (λ k. refl) c.args.to c.args.self.kind c.args.self.bits c.in-4.is)

pub returns-in-5 : goal.returns-in-5
unfolding conv_between conv_from of_kind kind_of kind_rank kind_no converted_of
returns-in-5 c =
    c.convert_same-in-5.ensures
    ∙ ap converted_of (kept f32 (λ k. refl) c.args.to c.args.self.kind c.args.self.bits c.in-5.is)

pub returns-in-6 : goal.returns-in-6
unfolding conv_between conv_from of_kind kind_of kind_rank kind_no converted_of
returns-in-6 c =
    c.convert_same-in-6.ensures
    ∙ ap converted_of (kept f16 (λ k. refl) c.args.to c.args.self.kind c.args.self.bits c.in-6.is)

pub returns-in_default : goal.returns-in_default
unfolding conv_between conv_from of_kind kind_of kind_rank kind_no converted_of
returns-in_default c = ap converted_of (over _ _ c.args.self.kind (search rules))
