-- The counts, then the members.
use mathlib.Core.Path.{sym, ap₂, ◌∙◌}
use Rattle.meaning.specs.Answers.{miscount}
use Rattle.meaning.specs.Trees.{Tu, tys_list}
use Rattle.arg_types.proofs.Given.{given_none, given_some}
use Rattle.check_type.proofs.Checks.{of_none, struct_typeable, struct_miscount, struct_no, struct_pass, members_of}
use Rattle.check_type.proofs.check_struct.Goals as goal

pub returns-then-args-eq0 : goal.returns-then-args-eq0
returns-then-args-eq0 c = λ i ms l x g. of_none (Tu i ms) (struct_typeable i ms) (given_none g c.if-args-eq0.true)

pub returns-then-args-m : goal.returns-then-args-m
returns-then-args-m c =
    λ i ms l x g. struct_miscount i ms l (given_some g c.if-args-eq0.false) (λ z. c.if-args-m.true (g.count ∙ (z ∙ sym x.count)))
    ∙ ap₂ miscount (sym x.count) (sym g.count)

pub returns-then-not-member_types_convert : goal.returns-then-not-member_types_convert
returns-then-not-member_types_convert c =
    λ i ms l x g. struct_no i ms l (given_some g c.if-args-eq0.false) (sym g.count ∙ (c.if-args-m.false ∙ x.count))
    (c.member_types_convert.ensures l (tys_list ms) (members_of x g c.if-args-m.false))
    (c.if-not-member_types_convert.true)

pub returns : goal.returns
returns c =
    λ i ms l x g. struct_pass i ms l (given_some g c.if-args-eq0.false) (sym g.count ∙ (c.if-args-m.false ∙ x.count))
    (c.member_types_convert.ensures l (tys_list ms) (members_of x g c.if-args-m.false))
    (c.if-not-member_types_convert.false)
