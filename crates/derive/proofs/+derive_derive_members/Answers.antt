-- What the front says and what was written of it; the parts' types stand behind it.
use mathlib.Core.Path.{◌∙◌}
use Prim.Native.Nat.{◌+◌, ◌-◌}
use native.Mathlib.Omega.{arith}
use Rattle.derive.proofs.Typings.{front_leaf, front_full, leaf_stands, leaf_derives, array_found, array_stop, array_unlike}
use Rattle.derive.proofs.Typings.{found_stands, struct_derives, members_end, members_stop, members_on}
use Rattle.derive.proofs.+derive_derive_members.Goals as goal
use Rattle.std.specs.declared.option.Option.TheVariants.{None, Some}

pub derive-returns-in_err-front : goal.derive-returns-in_err-front
derive-returns-in_err-front t c = rw c.from_residual.ensures (λ u e v. absurd (c.in_err-front.ensures u e v))

pub derive-returns-in_err-p : goal.derive-returns-in_err-p
derive-returns-in_err-p t c =
    rw c.from_residual-in_err-p.ensures
    (front_full c.args.depth c.args.s.now c.args.at c.in_ok-front.front c.in_ok-front.ensures c.args.ty.now c.args.o
    c.in_err-p.ensures)

pub derive-value_as-requires : goal.derive-value_as-requires
derive-value_as-requires t c =
    leaf_stands (front_leaf c.in_ok-front.front c.in_default.not-Array c.in_default.not-Struct c.in_ok-front.ensures c.in_ok-p.ensures)

pub derive-returns-in_default : goal.derive-returns-in_default
derive-returns-in_default t c =
    leaf_derives
    (front_leaf c.in_ok-front.front c.in_default.not-Array c.in_default.not-Struct c.in_ok-front.ensures c.in_ok-p.ensures)
    c.value_as.result c.value_as.ensures

pub derive-returns-in_err-e-in-Array : goal.derive-returns-in_err-e-in-Array
derive-returns-in_err-e-in-Array t c =
    rw c.from_residual-in_err-e-in-Array.ensures
    (array_stop (rw c.in-Array.is at c.in_ok-front.ensures) (rw c.in-Array.is at c.in_ok-p.ensures)
    c.in_err-e-in-Array.ensures)

pub derive-elements_as-requires : goal.derive-elements_as-requires
derive-elements_as-requires t c =
    let x = c.in_ok-e-in-Array.ensures in
    (record { type = x.type; end = c.in_ok-e-in-Array.q; stands = found_stands x }, x.typed.fits.within)

pub derive-returns-in_err-z-in-Array : goal.derive-returns-in_err-z-in-Array
derive-returns-in_err-z-in-Array t c =
    let x = c.in_ok-e-in-Array.ensures in
    rw c.from_residual-in_err-z-in-Array.ensures
    (array_unlike (rw c.in-Array.is at c.in_ok-front.ensures) (rw c.in-Array.is at c.in_ok-p.ensures) x
    (c.in_err-z-in-Array.ensures x.type _ (found_stands x)))

pub derive-returns-in_ok-z-in-Array : goal.derive-returns-in_ok-z-in-Array
derive-returns-in_ok-z-in-Array t c =
    let x = c.in_ok-e-in-Array.ensures in
    array_found (rw c.in-Array.is at c.in_ok-front.ensures) (rw c.in-Array.is at c.in_ok-p.ensures) x
    (c.in_ok-z-in-Array.ensures x.type _ (found_stands x)).0

pub derive-returns-in-Struct : goal.derive-returns-in-Struct
derive-returns-in-Struct t c =
    struct_derives (rw c.in-Struct.is at c.in_ok-front.ensures) c.derive_members.new.ty
    (rw c.in-Struct.is at c.in_ok-p.ensures) c.derive_members.result c.derive_members.ensures

pub derive_members-returns-in_err-i : goal.derive_members-returns-in_err-i
derive_members-returns-in_err-i t c =
    rw c.from_residual.ensures
    (c.loop.invariant.3 None c.derive.new.ty
    (members_stop c.args.depth c.args.s.now c.loop.i c.loop.ty c.loop.p (c.args.n - c.loop.counter) (omega arith)
    c.derive.new.ty c.in_err-i.ensures))

pub derive_members-loop-preserved : goal.derive_members-loop-preserved
derive_members-loop-preserved t c =
    let f = c.in_ok-i.ensures in (
      f.typed.fits.within,
      omega (arith, f.wrote.room, c.derive.auto.ty),
      c.derive.auto.ty ∙ c.loop.invariant.2,
      λ r x y. c.loop.invariant.3 r x
          (members_on c.args.depth c.args.s.now c.loop.i c.loop.ty c.loop.p (c.args.n - c.loop.counter) (omega arith) _
          (c.args.n - (c.loop.counter + 1)) (omega arith) f r x y),
    )

pub derive_members-returns : goal.derive_members-returns
derive_members-returns t c =
    c.loop.invariant.3 (Some (c.loop.i, c.loop.p)) c.loop.ty
    (members_end c.args.depth c.args.s.now c.loop.i c.loop.ty c.loop.p (c.args.n - c.loop.counter) (omega arith)
    c.loop.invariant.0 c.loop.invariant.1)
