-- The answer follows from `has_layout` and `measure`, each of which speaks of the value's type.
use mathlib.Core.Path.{sym, ◌∙◌}
use native.Mathlib.Omega.{arith}
use lib.ListN.{length}
use Rattle.meaning.specs.Trees.{Val, type_of}
use Rattle.meaning.specs.Layout.{mem_bytes, size_of, align_of}
use Rattle.error.proofs.Refusals.{passed_on, missing, present}
use Rattle.error.proofs.BufferAtExit.{refused, written}
use Rattle.std.proofs.Common.{rules}
use Rattle.record.proofs.Puts.{put_left}
use Rattle.layout.proofs.Extents.{SizeIs, is_extent, long_extent}
use Rattle.write_layout.specs.Memory.{Asked}
use Rattle.write_layout.proofs.Answers.{no_layout, too_long, has_room, asked_short, asked_long, asked_value}
use Rattle.write_layout.proofs.Answers.{asked_room, found_asked}
use Rattle.write_layout.proofs.write_one.Goals as goal
use Rattle.write_layout.proofs.write_one.Goals.{In_ok-extent}

size_is : (c : In_ok-extent) {v : Val} → Asked c.args.ty.bytes.now c.args.args.now v
    → SizeIs c.in_ok-extent.extent (length c.args.ty.bytes.now) (size_of (type_of v)) (align_of (type_of v))
size_is c x =
    is_extent _ _ _ (sym (present _ _ c.ok_or.ensures.value c.in_ok-extent.was) ∙ (c.measure.ensures _ _ x.type).is)

pub returns-then-not-has_layout : goal.returns-then-not-has_layout
returns-then-not-has_layout c = λ v x. refused _ _ (no_layout v _ (c.has_layout.ensures _ x.type) c.if-not-has_layout.true)

pub measure-requires : goal.measure-requires
measure-requires c = omega (arith, asked_short (found_asked c.requires))

pub returns-in_err-extent : goal.returns-in_err-extent
returns-in_err-extent c =
    λ v x. let m = missing _ _ c.ok_or.ensures.value c.in_err-extent.was in
    let n = long_extent _ _ _ (sym m.0 ∙ (c.measure.ensures _ _ x.type).is) in
    rw (passed_on c.from_residual.result c.from_residual.ensures.1, m.1)
    (refused _ c.args.out.now
    (too_long v _ (c.has_layout.ensures _ x.type) c.if-not-has_layout.false (omega (arith, n))))

pub returns-then-extent-out : goal.returns-then-extent-out
returns-then-extent-out c =
    λ v x. let n = size_is (goal.at.returns-then-extent-out c).In_ok-extent x in
    refused _ _
    (too_long v _ (c.has_layout.ensures _ x.type) c.if-not-has_layout.false (omega (arith, n.size, c.if-extent-out.true)))

pub write_value-requires : goal.write_value-requires
write_value-requires c =
    let x = found_asked c.requires in
    let n = size_is (goal.at.write_value-requires c).In_ok-extent x in
    asked_room x ((c.measure.ensures _ _ x.type).table n.fits) (omega (arith, asked_short x, c.measure.auto.pads)) _
    (omega (arith, n.size, c.if-extent-out.false))

pub returns : goal.returns
returns c =
    λ v x. let n = size_is (goal.at.returns c).In_ok-extent x in
    written (mem_bytes v)
    (has_room v _ (c.has_layout.ensures _ x.type) c.if-not-has_layout.false
    (omega (arith, n.size, c.if-extent-out.false)))
    (omega (arith, asked_long x, n.size, c.if-extent-out.false))
    (put_left (c.write_value.ensures.moved _ _ v
    (asked_value x ((c.measure.ensures _ _ x.type).table n.fits) (omega (arith, asked_short x, c.measure.auto.pads)))).2 (search rules))
