-- The shape decides, then the length; then the front, and the columns.
use mathlib.Core.Path.{refl, sym, ◌∙◌}
use native.Mathlib.Omega.{arith}
use Rattle.std.proofs.Common.{rules}
use Rattle.record.proofs.Puts.{put_length, put_left}
use Rattle.error.proofs.BufferAtExit.{builds_as, builds_no}
use Rattle.error.proofs.Refusals.{passed_on}
use Rattle.shape.proofs.Matrices.{shape_right, shape_refused, refused_then}
use Rattle.columns.proofs.Hands.{hands_long, hands_room, hands_record}
use Rattle.columns.proofs.Shapes.{parts_are, parts_full, parts_ok}
use Rattle.columns.proofs.of_parts.Goals as goal

pub matrix_shape-requires : goal.matrix_shape-requires
matrix_shape-requires c = record { type = _; end = c.requires.parts.end; stands = c.requires.parts.stands }

pub returns-then-not-room_for : goal.returns-then-not-room_for
returns-then-not-room_for c =
    λ j t l ws x. let h = shape_right _ _ c.in_ok-shape.was refl (c.matrix_shape.ensures t _ x.stands) in
    builds_as c.args.out.now (parts_ok x _ _ h.0)
    (hands_long _ _ j _ (parts_full x _ _ _ h) _ (sym (c.room_for.ensures j x.no) ∙ c.if-not-room_for.true))

pub put_four-requires : goal.put_four-requires
put_four-requires c =
    let x = c.requires.parts in
    let h = shape_right _ _ c.in_ok-shape.was refl (c.matrix_shape.ensures _ _ x.stands) in
    let r = hands_room _ _ c.requires.kind _ (parts_full x _ _ _ h)
    (sym (c.room_for.ensures c.requires.kind x.no) ∙ c.if-not-room_for.false) in
    omega (arith, r)

pub put_parts-requires : goal.put_parts-requires
put_parts-requires c =
    let x = c.requires.parts in
    let h = shape_right _ _ c.in_ok-shape.was refl (c.matrix_shape.ensures _ _ x.stands) in
    let r = hands_room _ _ c.requires.kind _ (parts_full x _ _ _ h)
    (sym (c.room_for.ensures c.requires.kind x.no) ∙ c.if-not-room_for.false) in
    record {
      kind = c.requires.kind;
      pays = _;
      are = parts_are x _ _ _ h;
      room = omega (arith, r, c.put_four.ensures.put.end, put_length c.put_four.ensures.put);
    }

pub returns : goal.returns
returns c =
    λ j t l ws x. let h = shape_right _ _ c.in_ok-shape.was refl (c.matrix_shape.ensures t _ x.stands) in
    builds_as c.args.out.now (parts_ok x _ _ h.0)
    (hands_record _ _ j _ (parts_full x _ _ _ h) _ (sym (c.room_for.ensures j x.no) ∙ c.if-not-room_for.false)
    c.put_four.ensures.put (put_left (c.put_parts.ensures.put j _ (parts_are x _ _ _ h)) (search rules)))

pub returns-in_err-shape : goal.returns-in_err-shape
returns-in_err-shape c =
    rw (passed_on c.from_residual.result c.from_residual.ensures.1)
    (λ j t l ws x. builds_no _ _
    (refused_then _ _ (shape_refused _ _ c.in_err-shape.was (c.matrix_shape.ensures t _ x.stands))))
