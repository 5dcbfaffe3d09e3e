-- `literal::Literal::fits` meets its contract: the literal's kind picks the rule, and a number over 6 has none.
use mathlib.Core.Path.{refl, ap}
use mathlib.Core.Option.{none}
use Rattle.meaning.specs.Kinds.{bool, i32, u32, f32, f16, kind_no, kind_of, kind_rank}
use Rattle.meaning.specs.Scalars.{some?}
use Rattle.kind.specs.Ends.{of_kind}
use Rattle.kind.proofs.Numbers.{over}
use Rattle.literal.specs.LiteralAnswers.{conv_from, conv_between}
use Rattle.literal.proofs.Tests.{kept_fits}
use borrow.Author.Rules.{rules}
use Rattle.literal.proofs.Literal.fits.Goals as goal

pub returns-in-0 : goal.returns-in-0
unfolding conv_between conv_from of_kind kind_of kind_rank kind_no some?
returns-in-0 c = kept_fits bool (λ k. refl) c.args.to c.args.self.kind c.args.self.bits c.in-0.is

pub returns-in-1 : goal.returns-in-1
unfolding conv_between conv_from of_kind kind_of kind_rank kind_no some?
returns-in-1 c = rw c.in-1.is c.abstract_int_fits.ensures

pub returns-in-2 : goal.returns-in-2
unfolding conv_between conv_from of_kind kind_of kind_rank kind_no some?
returns-in-2 c = rw c.in-2.is c.abstract_float_fits.ensures

pub returns-in-3 : goal.returns-in-3
unfolding conv_between conv_from of_kind kind_of kind_rank kind_no some?
returns-in-3 c = kept_fits i32 (λ k. refl) c.args.to c.args.self.kind c.args.self.bits c.in-3.is

pub returns-in-4 : goal.returns-in-4
unfolding conv_between conv_from of_kind kind_of kind_rank kind_no some?
returns-in-4 c = kept_fits u32 (λ k. refl) c.args.to c.args.self.kind c.args.self.bits c.in-4.is

pub returns-in-5 : goal.returns-in-5
unfolding conv_between conv_from of_kind kind_of kind_rank kind_no some?
returns-in-5 c = kept_fits f32 (λ k. refl) c.args.to c.args.self.kind c.args.self.bits c.in-5.is

pub returns-in-6 : goal.returns-in-6
unfolding conv_between conv_from of_kind kind_of kind_rank kind_no some?
returns-in-6 c = kept_fits f16 (λ k. refl) c.args.to c.args.self.kind c.args.self.bits c.in-6.is

pub returns-in_default : goal.returns-in_default
unfolding conv_between conv_from of_kind kind_of kind_rank kind_no some?
returns-in_default c = ap some? (over none (λ j. conv_from j c.args.to c.args.self.bits) c.args.self.kind (search rules))
