-- As many as were read stand before i.
use mathlib.Core.Path.{◌≡◌, ap, ◌∙◌}
use native.Mathlib.Omega.{arith}
use lib.ListN.{length}
use Rattle.meaning.specs.Trees.{Ty}
use Rattle.meaning.specs.Records.{val_bytes, ty_bytes}
use Rattle.args.specs.Counts.{ValueArg}
use Rattle.derive.proofs.Typings.{same_typed}
use Rattle.args.proofs.Rest.{left_none, left_full, left_bad, value_head, value_left}
use Rattle.args.proofs.count_values.Goals as goal

pub returns-then-n-eq-ARGUMENTS : goal.returns-then-n-eq-ARGUMENTS
returns-then-n-eq-ARGUMENTS c = left_full c.loop-i.invariant.1 c.loop-i-test.true (omega arith)

pub returns-in_err-e : goal.returns-in_err-e
returns-in_err-e c =
    rw c.from_residual.ensures
    (left_bad c.loop-i.invariant.1 c.loop-i-test.true
    (λ h. let v = value_head c.args.most.depth c.args.most.bytes h in omega (
      arith,
      c.in_err-e.ensures v.type v.end v.typed,
      v.short,
      c.requires.0,
      c.loop-i.invariant.0,
    )))

pub returns-then-q-most : goal.returns-then-q-most
returns-then-q-most c =
    let f = c.in_ok-e.ensures in
    left_bad c.loop-i.invariant.1 c.loop-i-test.true
    (λ h.
    let v = value_head c.args.most.depth c.args.most.bytes h in
    let q : length (ty_bytes v.type) ≡ length (ty_bytes f.type) = ap (λ (t : Ty). length (ty_bytes t))
    (same_typed c.args.most.depth c.args.most.depth c.args.s.now c.loop-i.i v.type f.type v.end _ v.typed f.typed) in
    omega (arith, f.wrote.put.end, v.short, c.if-q-most.true))

pub loop-i-preserved : goal.loop-i-preserved
loop-i-preserved c =
    let f = c.in_ok-e.ensures in (
      c.derive.auto.ty ∙ c.loop-i.invariant.0,
      value_left c.args.most.depth c.args.most.bytes c.loop-i.invariant.1 c.loop-i-test.true
          (omega (arith, c.loop-i.invariant.1.few)) f.typed (omega (arith, f.wrote.put.end, c.if-q-most.false)),
    )

pub returns : goal.returns
returns c =
    left_none val_bytes (ValueArg c.args.most.depth c.args.most.bytes) c.args.s.now c.loop-i.i c.loop-i.n c.loop-i.invariant.1
    c.loop-i-test.false
