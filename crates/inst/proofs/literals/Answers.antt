-- The literals from i on end where all of them do.
use mathlib.Core.Path.{◌≡◌}
use Prim.Native.Nat.{◌-◌, ◌+◌}
use native.Mathlib.Omega.{arith}
use Rattle.meaning.specs.Kinds.{Kind, kind_no}
use Rattle.meaning.specs.Trees.{Ts}
use Rattle.inst.specs.Values.{Fits}
use Rattle.ty.proofs.Numbers.{kind_of_lem}
use Rattle.ty.proofs.Walks.{same_trans}
use Rattle.inst.proofs.ValueRows.{each_on, each_none, each_end}
use Rattle.inst.proofs.Lits.{kind_is, literal_none}
use Rattle.inst.proofs.literals.Goals as goal

pub returns-then-not-is_literal : goal.returns-then-not-is_literal
returns-then-not-is_literal c =
    λ j p e x. let i = kind_is p c.width-w.ensures.0 c.top-limit.ensures in
    each_none (omega arith) (literal_none i (c.if-not-is_literal.ensures j i)) e ((c.loop.invariant.1 j p e).1 x)

pub loop-preserved : goal.loop-preserved
loop-preserved c =
    let k = kind_of_lem c.args.k c.requires.0 in
    let f : (j : Kind) → c.args.k ≡ kind_no j → Fits c.args.s.now c.loop.i (Ts j) (c.loop.i + (3 + c.width-w.result)) =
    λ j p. c.if-not-is_literal.ensures j (kind_is p c.width-w.ensures.0 c.top-limit.ensures) in (
      (f k.kind k.no).within,
      λ j p. same_trans (each_on (c.args.n - (c.loop.counter + 1)) (omega arith) (f j p)) (c.loop.invariant.1 j p),
    )

pub returns : goal.returns
returns c =
    λ j p. (c.loop.invariant.1 j p c.loop.i).0
    (each_end c.args.s.now c.loop.i (c.args.n - c.loop.counter) (Ts j) (omega arith) c.loop.invariant.0)
