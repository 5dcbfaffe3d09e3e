-- What is left to look at decides.
use mathlib.Core.Path.{refl}
use native.Mathlib.Omega.{arith}
use Rattle.args.proofs.ArgumentRows.{args_some, args_less}
use Rattle.vector.proofs.PartsLeft.{flat_no, flat_on, flat_end}
use Rattle.vector.proofs.all_flat.Goals as goal

pub loop-i-init : goal.loop-i-init
loop-i-init c = λ l x. record { items = l; row = x; so = refl }

pub is_flat-requires : goal.is_flat-requires
is_flat-requires c = args_some (c.loop-i.invariant c.requires.values c.requires.row) c.loop-i-test.true

pub returns-then-not-is_flat : goal.returns-then-not-is_flat
returns-then-not-is_flat c =
    λ l x. flat_no (c.loop-i.invariant l x) c.loop-i-test.true c.is_flat.ensures
    (c.if-not-is_flat.true)

pub next_arg-i-requires : goal.next_arg-i-requires
next_arg-i-requires c =
    args_some
    (c.loop-i.invariant c.requires.values c.requires.row) c.loop-i-test.true

pub loop-i-smaller : goal.loop-i-smaller
loop-i-smaller c =
    omega (
      arith,
      c.loop-i-test.true,
      args_less
          (c.loop-i.invariant c.requires.values (search)) c.loop-i-test.true
          c.next_arg-i.ensures,
    )

pub loop-i-preserved : goal.loop-i-preserved
loop-i-preserved c =
    λ l x. flat_on (c.loop-i.invariant l x) c.loop-i-test.true
    c.is_flat.ensures (c.if-not-is_flat.false) c.next_arg-i.ensures

pub returns : goal.returns
returns c = λ l x. flat_end (c.loop-i.invariant l x) c.loop-i-test.false
