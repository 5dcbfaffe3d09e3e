-- Measured, then the mark and the literals.
use Rattle.std.proofs.Common.{rules}
use Rattle.record.proofs.Puts.{put_left}
use Rattle.vector.proofs.Writes.{front_room, vector_long, vector_room, vector_record}
use Rattle.vector.proofs.Decides.{goes_good}
use Rattle.vector.proofs.write_parts.Goals as goal

pub returns-then-vector_len-out : goal.returns-then-vector_len-out
returns-then-vector_len-out c = λ j l ps e g q. search (vector_long, goes_good)

pub put_three-requires : goal.put_three-requires
put_three-requires c =
    front_room
    c.args.n c.vector_len.ensures c.requires.some.kind c.requires.some.no
    c.args.out.now c.if-vector_len-out.false

pub put_parts-requires : goal.put_parts-requires
put_parts-requires c =
    record {
      some = c.requires.some;
      room = vector_room _ c.vector_len.ensures c.requires.some.kind c.requires.some.no
          c.requires.some.pays c.requires.count (goes_good c.requires.some.goes) _ c.if-vector_len-out.false c.put_three.ensures.put;
    }

pub returns : goal.returns
returns c =
    λ j l ps e g q. vector_record _ c.vector_len.ensures j e ps q (goes_good g)
    _ (search) (search) (put_left (c.put_parts.ensures.put j l ps e g) (search rules))
