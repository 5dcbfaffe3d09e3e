-- As many as were read stand before i.
use mathlib.Core.Path.{◌≡◌, ap}
use native.Mathlib.Omega.{arith}
use lib.ListN.{length}
use Rattle.meaning.specs.Trees.{Ty}
use Rattle.meaning.specs.Records.{ty_bytes}
use Rattle.ty.proofs.Places.{same_type}
use Rattle.args.specs.Counts.{TypeArg}
use Rattle.args.proofs.Rest.{left_none, left_full, left_bad, type_head, type_left}
use Rattle.args.proofs.count_types.Goals as goal

pub returns-then-n-ge-ARGUMENTS : goal.returns-then-n-ge-ARGUMENTS
returns-then-n-ge-ARGUMENTS c = left_full c.loop-i.invariant c.loop-i-test.true c.if-n-ge-ARGUMENTS.true

pub returns-in_default : goal.returns-in_default
returns-in_default c =
    left_bad c.loop-i.invariant c.loop-i-test.true
    (λ h. let v = type_head c.args.most.depth c.args.most.bytes h in c.in_default.ensures _ record { type = v.type; stands = v.stands })

pub returns-then-e-i : goal.returns-then-e-i
returns-then-e-i c =
    let f = c.in-Some.ensures in
    left_bad c.loop-i.invariant c.loop-i-test.true
    (λ h.
    let v = type_head c.args.most.depth c.args.most.bytes h in
    let q : length (ty_bytes v.type) ≡ length (ty_bytes f.type) = ap (λ (t : Ty). length (ty_bytes t))
    (same_type v.stands f.stands) in
    omega (arith, f.stands.size, v.short, c.if-e-i.true))

pub loop-i-preserved : goal.loop-i-preserved
loop-i-preserved c =
    let f = c.in-Some.ensures in
    type_left c.args.most.depth c.args.most.bytes c.loop-i.invariant c.loop-i-test.true (omega (arith, c.loop-i.invariant.few)) f.stands
    (omega (arith, f.stands.size, c.if-e-i.false))

pub returns : goal.returns
returns c =
    left_none ty_bytes (TypeArg c.args.most.depth c.args.most.bytes) c.args.s.now c.loop-i.i c.loop-i.n c.loop-i.invariant
    c.loop-i-test.false
