-- The steps of the walk over types in a row, and the ends of a type with parts.
use mathlib.Core.Path.{◌≡◌}
use Prim.Native.Nat.{◌-◌}
use native.Mathlib.Omega.{arith}
use Rattle.meaning.specs.Trees.{[·]}
use Rattle.ty.proofs.Walks.{told_as, same_trans, nil_stands, one_on, none_on}
use Rattle.ty.proofs.+members_end_walk_end.Goals as goal

pub members_end-returns-in_err-i : goal.members_end-returns-in_err-i
members_end-returns-in_err-i t c =
    rw c.from_residual.ensures (λ e w. none_on (omega arith) c.in_err-i.ensures e ((c.loop.invariant.1 e).1 w))

pub members_end-loop-preserved : goal.members_end-loop-preserved
members_end-loop-preserved t c =
    (c.in_ok-i.ensures.stands.within, same_trans (one_on (omega arith) c.in_ok-i.ensures) c.loop.invariant.1)

pub members_end-returns : goal.members_end-returns
members_end-returns t c =
    let z : c.args.n - c.loop.counter ≡ 0 = omega arith in
    (c.loop.invariant.1 c.loop.i).0 record { types = [·]; stands = rw z (nil_stands c.loop.i c.loop.invariant.0) }

pub walk_end-returns-in-Array : goal.walk_end-returns-in-Array
walk_end-returns-in-Array t c =
    let p = rw c.in-Array.is at c.in_ok-e.ensures in told_as p.same c.walk_end.result c.walk_end.ensures

pub walk_end-returns-in-Struct : goal.walk_end-returns-in-Struct
walk_end-returns-in-Struct t c =
    let p = rw c.in-Struct.is at c.in_ok-e.ensures in told_as p.same c.members_end.result c.members_end.ensures
