-- The answer follows from `has_layout` and `measure`, each of which speaks of whichever type the target is.
use mathlib.Core.Path.{◌≡◌, sym, ◌∙◌}
use native.Mathlib.Omega.{arith}
use lib.ListN.{length}
use Rattle.meaning.specs.Trees.{Ty}
use Rattle.meaning.specs.Layout.{size_of, align_of}
use Rattle.ty.specs.Stands.{Whole}
use Rattle.error.proofs.Refusals.{passed_on, missing, present}
use Rattle.error.proofs.BufferAtExit.{refused}
use Rattle.error.proofs.Told.{told_as}
use Rattle.layout.proofs.Extents.{SizeIs, is_extent, long_extent}
use Rattle.read_layout.specs.Memory.{Sized}
use Rattle.read_layout.proofs.Answers.{no_layout, other_size, its_size, sized}
use Rattle.read_layout.proofs.read_type.Goals as goal
use Rattle.read_layout.proofs.read_type.Goals.{In_ok-extent}

size_is : (c : In_ok-extent) {t : Ty} → Whole c.args.target.bytes.now t
    → SizeIs c.in_ok-extent.extent (length c.args.target.bytes.now) (size_of t) (align_of t)
size_is c w =
    is_extent _ _ _ (sym (present _ _ c.ok_or.ensures.value c.in_ok-extent.was) ∙ (c.measure.ensures _ _ w).is)

its_sized : (c : In_ok-extent) {t : Ty} → c.in_ok-extent.extent.size ≡ length c.args.mem.now → Whole c.args.target.bytes.now t
    → Sized c.args.target.bytes.now c.measure.new.pads c.args.mem.now t
its_sized c {t} e w =
    let n = size_is c w in
    sized t c.args.mem.now 0 (c.has_layout.ensures t w) c.if-not-has_layout.false w
    ((c.measure.ensures t _ w).table n.fits)
    (omega (arith, c.requires, c.measure.auto.pads)) (sym e ∙ n.size)

pub returns-then-not-has_layout : goal.returns-then-not-has_layout
returns-then-not-has_layout c = λ t w. refused _ _ (no_layout t _ _ (c.has_layout.ensures t w) c.if-not-has_layout.true)

pub returns-in_err-extent : goal.returns-in_err-extent
returns-in_err-extent c =
    λ t w. let m = missing _ _ c.ok_or.ensures.value c.in_err-extent.was in
    let n = long_extent _ _ _ (sym m.0 ∙ (c.measure.ensures t _ w).is) in
    rw (passed_on c.from_residual.result c.from_residual.ensures.1, m.1)
    (refused _ _ (other_size t _ _ (c.has_layout.ensures t w) c.if-not-has_layout.false (λ e. omega (arith, n))))

pub returns-then-extent-mem : goal.returns-then-extent-mem
returns-then-extent-mem c =
    λ t w. let n = size_is (goal.at.returns-then-extent-mem c).In_ok-extent w in
    refused _ _
    (other_size t _ _ (c.has_layout.ensures t w) c.if-not-has_layout.false (λ e. c.if-extent-mem.true (n.size ∙ sym e)))

pub read_sized-requires : goal.read_sized-requires
read_sized-requires c =
    record {
      type = c.args.target.one.type;
      sized = its_sized (goal.at.read_sized-requires c).In_ok-extent c.if-extent-mem.false c.args.target.one.stands;
    }

pub returns : goal.returns
returns c =
    λ t w. let x = its_sized (goal.at.returns c).In_ok-extent c.if-extent-mem.false w in
    told_as (its_size t _ _ (c.has_layout.ensures t w) c.if-not-has_layout.false x.size) (c.read_sized.ensures t x)
