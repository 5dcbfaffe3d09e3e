-- What is left to look at decides.
use mathlib.Core.Path.{refl}
use native.Mathlib.Omega.{arith}
use Rattle.args.proofs.ArgumentRows.{args_some, args_first, args_less, args_on, args_end}
use Rattle.convert_all.proofs.Converts.{each_to, test_no, test_on, test_end}
use Rattle.convert_all.proofs.others_convert.Goals as goal

pub loop-i-init : goal.loop-i-init
loop-i-init c = λ l w. record { items = l; row = w; so = λ t p. refl }

pub arg_converts-requires : goal.arg_converts-requires
arg_converts-requires c = args_some (c.loop-i.invariant _ c.requires.row) c.loop-i-test.true

pub returns-then-not-arg_converts : goal.returns-then-not-arg_converts
returns-then-not-arg_converts c =
    λ l t w v. args_first (c.loop-i.invariant l w) c.loop-i-test.true λ a m x q.
    test_no each_to q t v (c.arg_converts.ensures a m t x v) (c.if-not-arg_converts.true)

pub next_arg-i-requires : goal.next_arg-i-requires
next_arg-i-requires c =
    args_some (c.loop-i.invariant _ c.requires.row)
    c.loop-i-test.true

pub loop-i-smaller : goal.loop-i-smaller
loop-i-smaller c =
    omega (
      arith,
      c.loop-i-test.true,
      args_less
          (c.loop-i.invariant _ c.requires.row)
          c.loop-i-test.true c.next_arg-i.ensures,
    )

pub loop-i-preserved : goal.loop-i-preserved
loop-i-preserved c =
    λ l w. args_on (c.loop-i.invariant l w) c.loop-i-test.true c.next_arg-i.ensures
    λ a m x q.
    test_on each_to q (λ t v. c.arg_converts.ensures a m t x v)
    (c.if-not-arg_converts.false)

pub returns : goal.returns
returns c = λ l t w v. test_end each_to (args_end (c.loop-i.invariant l w) c.loop-i-test.false) t v
