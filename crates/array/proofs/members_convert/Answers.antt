-- What is left to look at decides.
use Prim.Native.Nat.{ℕ}
use mathlib.Core.Path.{refl, subst}
use native.Mathlib.Omega.{arith}
use Rattle.array.specs.Members.{MemberIs}
use Rattle.array.proofs.MembersLeft.{fit_pair, fit_no, fit_less, fit_on, fit_end}
use Rattle.array.proofs.members_convert.Goals as goal
use Rattle.std.specs.declared.option.Option.{Option}

pub loop-i-init : goal.loop-i-init
loop-i-init c = λ m l x. record { types = m; values = l; pairs = x; so = refl }

pub member_fits-requires : goal.member_fits-requires
member_fits-requires c = fit_pair (c.loop-i.invariant _ _ c.requires.pairs) c.loop-i-test.true

pub loop-i-smaller : goal.loop-i-smaller
loop-i-smaller c =
    let f = subst (λ (r : Option (ℕ × ℕ)). MemberIs c.args.target.now c.loop-i.at c.args.args.now
    c.loop-i.i r) c.in-Some.is c.member_fits.ensures in
    omega (
      arith,
      c.loop-i-test.true,
      fit_less
          (c.loop-i.invariant _ _
          c.requires.pairs)
          c.loop-i-test.true f,
    )

pub loop-i-preserved : goal.loop-i-preserved
loop-i-preserved c =
    λ m l x. let f = subst (λ (r : Option (ℕ × ℕ)). MemberIs c.args.target.now c.loop-i.at c.args.args.now
    c.loop-i.i r) c.in-Some.is c.member_fits.ensures in
    fit_on (c.loop-i.invariant m l x) c.loop-i-test.true f

pub returns-in_default : goal.returns-in_default
returns-in_default c =
    λ m l x. let f = subst (λ (r : Option (ℕ × ℕ)). MemberIs c.args.target.now c.loop-i.at c.args.args.now
    c.loop-i.i r) c.in_default.is c.member_fits.ensures in
    fit_no (c.loop-i.invariant m l x) c.loop-i-test.true f

pub returns : goal.returns
returns c = λ m l x. fit_end (c.loop-i.invariant m l x) c.loop-i-test.false
