-- The columns from i on end where all of them do.
use Prim.Native.Nat.{◌-◌, ◌+◌}
use native.Mathlib.Omega.{arith}
use Rattle.meaning.specs.Trees.{Tv}
use Rattle.ty.proofs.Numbers.{kind_of_lem}
use Rattle.ty.proofs.Walks.{same_trans}
use Rattle.inst.proofs.ValueRows.{each_on, each_none, each_end}
use Rattle.inst.proofs.columns.Goals as goal

pub returns-in_err-i : goal.returns-in_err-i
returns-in_err-i c =
    rw c.from_residual.ensures
    (λ j p e x. each_none (omega arith) (c.in_err-i.ensures j p) e ((c.loop.invariant.1 j p e).1 x))

pub loop-preserved : goal.loop-preserved
loop-preserved c =
    let k = kind_of_lem c.args.k c.requires.0 in (
      (c.in_ok-i.ensures k.kind k.no).within,
      λ j p. same_trans (each_on (c.args.n - (c.loop.counter + 1)) (omega arith) (c.in_ok-i.ensures j p)) (c.loop.invariant.1 j p),
    )

pub returns : goal.returns
returns c =
    λ j p. (c.loop.invariant.1 j p c.loop.i).0
    (each_end c.args.s.now c.loop.i (c.args.n - c.loop.counter) (Tv c.args.r j) (omega arith) c.loop.invariant.0)
