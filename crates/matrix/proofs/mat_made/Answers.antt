-- The constructor's refusals decide; then the length, and the literals made.
use mathlib.Core.Path.{sym, ◌∙◌}
use Rattle.std.proofs.Common.{rules}
use Rattle.record.proofs.Puts.{put_left}
use Rattle.error.proofs.BufferAtExit.{builds_as, builds_no}
use Rattle.error.proofs.Refusals.{passed_on}
use Rattle.scalar.proofs.MadeValues.{making_items, making_ok, making_no, making_room, making_put}
use Rattle.columns.proofs.Hands.{hands_long, hands_whole, hands_put}
use Rattle.matrix.proofs.OneToMatrix.{remaking, remade_shaped, remade, remade_no}
use Rattle.matrix.proofs.mat_made.Goals as goal

pub all_made-requires : goal.all_made-requires
all_made-requires c = search (making_items, remaking)

pub returns-in_err-all_made : goal.returns-in_err-all_made
returns-in_err-all_made c =
    rw (passed_on c.from_residual.result c.from_residual.ensures.1)
    (λ s j i ps x. builds_no _ _ (remade_no x _ (making_no (remaking x) x.ctor c.all_made.result c.all_made.ensures c.in_err-all_made.was)))

pub returns-then-not-room_for : goal.returns-then-not-room_for
returns-then-not-room_for c =
    λ s j i ps x. let o = making_ok (remaking x) x.ctor c.all_made.result c.all_made.ensures c.in_ok-all_made.was in
    builds_as c.args.out.now (remade x o.1) (hands_long _ _ j o.0 (remade_shaped x o.1) c.args.out.now
    (sym (c.room_for.ensures j x.ctor.no) ∙ c.if-not-room_for.true))

pub write_made-requires : goal.write_made-requires
write_made-requires c =
    let o = making_ok (remaking c.requires.arg) c.requires.arg.ctor c.all_made.result c.all_made.ensures c.in_ok-all_made.was in
    making_room (remaking c.requires.arg) c.requires.arg.ctor o.1 (hands_whole _ _ c.requires.kind o.0 (remade_shaped c.requires.arg o.1)
    (sym (c.room_for.ensures c.requires.kind c.requires.arg.ctor.no)
    ∙ c.if-not-room_for.false))

pub returns : goal.returns
returns c =
    λ s j i ps x. let o = making_ok (remaking x) x.ctor c.all_made.result c.all_made.ensures c.in_ok-all_made.was in
    builds_as c.args.out.now (remade x o.1)
    (hands_put _ _ j o.0 (remade_shaped x o.1) c.args.out.now (sym (c.room_for.ensures j x.ctor.no)
    ∙ c.if-not-room_for.false)
    (put_left (making_put (remaking x) x.ctor o.1 c.write_made.ensures.put) (search rules)))
