-- The first argument's type, and its kind one level down; then the type with the target's kind.
use mathlib.Core.Path.{sym, ◌∙◌}
use native.Mathlib.Omega.{arith}
use Prim.Native.Nat.{◌-◌}
use lib.ListN.{length-set}
use lib.Seq.{length-take-le}
use Rattle.ty.proofs.FrontOfBuffer.{front_whole}
use Rattle.error.proofs.BufferAtExit.{builds_no}
use Rattle.shape.proofs.Downs.{goes_no, goes_to}
use Rattle.matrix.proofs.Downs.{float_no, type_some}
use Rattle.matrix.proofs.MatrixParts.{first_of, first_arg, first_stands, mat_no, type_set, mat_asked, mat_made}
use Rattle.matrix.proofs.mat_others.Goals as goal

pub next_type-step-requires-clause-some_arg : goal.next_type-step-requires-clause-some_arg
next_type-step-requires-clause-some_arg c = first_arg c.args.args.given c.requires

pub goes_down-requires : goal.goes_down-requires
goes_down-requires c =
    record { type = _; end = _; stands = first_stands c.args.args.given c.requires c.next_type-step.ensures }

pub returns-then-not-goes_down : goal.returns-then-not-goes_down
returns-then-not-goes_down c =
    λ j v l n w h. builds_no _ _ (mat_no _ _ j v l (goes_no j _
    (sym (c.if-not-goes_down.true) ∙ c.goes_down.ensures j _ _ n
    (c.next_type-step.ensures v l w).stands)))

pub overflow_sub-last : goal.overflow_sub-last
overflow_sub-last c = omega (arith, type_some (first_stands c.args.args.given c.requires c.next_type-step.ensures))

pub bounds-buf-last : goal.bounds-buf-last
bounds-buf-last c =
    let t = first_stands c.args.args.given c.requires c.next_type-step.ensures in omega (arith, type_some t, t.within)

pub slice_bounds-buf-end : goal.slice_bounds-buf-end
slice_bounds-buf-end c =
    let t = first_stands c.args.args.given c.requires c.next_type-step.ensures in
    omega (arith, t.within, length-set c.next_type-step.new.ty (c.next_type-step.result.ty - 1) c.args.kind.number)

pub slice_bounds-ty-end : goal.slice_bounds-ty-end
slice_bounds-ty-end c =
    let t = first_stands c.args.args.given c.requires c.next_type-step.ensures in
    sym (length-take-le _ _ (omega
    (arith, t.within, length-set c.next_type-step.new.ty (c.next_type-step.result.ty - 1) c.args.kind.number)))

pub invariant_of-ty : goal.invariant_of-ty
invariant_of-ty c =
    let k = float_no _ c.args.kind.float in
    let t = first_stands c.args.args.given c.requires c.next_type-step.ensures in
    let d = goes_to k.0 _ (sym (c.if-not-goes_down.false) ∙ c.goes_down.ensures k.0 _ _ k.1 t) in
    record { one = record { type = _; stands = front_whole (type_set k.0 k.1 c.args.kind.float d t) } }

pub mat_to-requires : goal.mat_to-requires
mat_to-requires c =
    let k = float_no _ c.args.kind.float in
    let f = first_of c.args.args.given c.requires in
    let t = (c.next_type-step.ensures f.value f.others f.row).stands in
    let d = goes_to k.0 _ (sym (c.if-not-goes_down.false) ∙ c.goes_down.ensures k.0 _ _ k.1 t) in
    mat_asked f.row k.0 k.1 f.size d (front_whole (type_set k.0 k.1 c.args.kind.float d t))

pub returns : goal.returns
returns c =
    λ j v l n w h. let t = (c.next_type-step.ensures v l w).stands in
    let d = goes_to j _ (sym c.if-not-goes_down.false ∙ c.goes_down.ensures j _ _ n t) in
    mat_made w j n h d (front_whole (type_set j n c.args.kind.float d t)) _ _ _ c.mat_to.ensures
