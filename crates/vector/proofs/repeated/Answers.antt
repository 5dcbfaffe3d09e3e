-- Measured, then the mark and the copies.
use Rattle.std.proofs.Common.{rules}
use lib.ListN.{replicate, length-replicate}
use Rattle.laws.proofs.AgreeVec.{splat_good}
use Rattle.record.proofs.Puts.{put_left}
use Rattle.vector.proofs.Writes.{front_room, all_room, vector_long, vector_record, copies_put}
use Rattle.vector.proofs.repeated.Goals as goal

pub returns-then-vector_len-out : goal.returns-then-vector_len-out
returns-then-vector_len-out c =
    λ j e g. vector_long c.args.n c.vector_len.ensures j e (replicate c.args.n c.args.bits) (length-replicate c.args.n c.args.bits)
    (splat_good j c.args.n c.args.bits g) c.args.out.now c.if-vector_len-out.true

pub put_three-requires : goal.put_three-requires
put_three-requires c =
    front_room c.args.n
    c.vector_len.ensures c.args.kind.some.kind c.args.kind.some.no c.args.out.now c.if-vector_len-out.false

pub put_literals-requires : goal.put_literals-requires
put_literals-requires c = search all_room

pub returns : goal.returns
returns c =
    λ j e g. let ps = replicate c.args.n c.args.bits in
    vector_record c.args.n c.vector_len.ensures j e ps
    (length-replicate c.args.n c.args.bits) (splat_good j c.args.n c.args.bits g) c.args.out.now (search) (search)
    (copies_put j c.args.n c.args.bits e (put_left c.put_literals.ensures.put (search rules)))
