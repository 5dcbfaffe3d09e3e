-- The kind decides first, then how many arguments there are.
use mathlib.Core.Path.{sym, ◌∙◌}
use Rattle.meaning.specs.Build.{lit_kind}
use Rattle.meaning.specs.Trees.{Ts}
use Rattle.arg_types.proofs.Given.{given_none, given_one, given_more}
use Rattle.check_type.proofs.Checks.{of_refused, of_none, of_one, of_more, scalar_abstract, scalar_typeable, scalar_more}
use Rattle.check_type.proofs.Checks.{scalar_one, scalar_not}
use Rattle.shape.proofs.KindsFound.{found_kind, found_none}
use Rattle.check_type.proofs.check_scalar.Goals as goal

pub returns-then-is_abstract : goal.returns-then-is_abstract
returns-then-is_abstract c = λ j l e g. of_refused (Ts j) l (scalar_abstract j e c.is_abstract.ensures c.if-is_abstract.true)

pub returns-then-args-eq0 : goal.returns-then-args-eq0
returns-then-args-eq0 c = λ j l e g. search (of_none, scalar_typeable, given_none)

pub returns-then-args-ne1 : goal.returns-then-args-ne1
returns-then-args-ne1 c = λ j l e g. search (of_more, scalar_typeable, given_more, scalar_more)

pub scalar_kind-requires : goal.scalar_kind-requires
scalar_kind-requires c =
    let x = given_one c.args.args.given.given c.if-args-ne1.false in
    record { type = _; end = _; stands = x.whole }

pub returns-in-Some : goal.returns-in-Some
returns-in-Some c =
    λ j l e g. let x = given_one g c.if-args-ne1.false in
    of_one (Ts j) (scalar_typeable j e (search) c.if-is_abstract.false) x.is
    ∙ scalar_one j x.type (found_kind (lit_kind x.type)
    (sym c.in-Some.is ∙ c.scalar_kind.ensures x.type _ x.whole))

pub returns-in-None : goal.returns-in-None
returns-in-None c =
    λ j l e g. let x = given_one g c.if-args-ne1.false in
    of_one (Ts j) (scalar_typeable j e (search) c.if-is_abstract.false) x.is
    ∙ scalar_not j x.type (found_none (lit_kind x.type)
    (sym c.in-None.is ∙ c.scalar_kind.ensures x.type _ x.whole))
