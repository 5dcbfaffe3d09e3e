-- The length that the kind says decides about the room.
use Rattle.std.proofs.Common.{rules}
use Rattle.record.proofs.Puts.{put_left}
use Rattle.scalar.proofs.OneLiteral.{handed_long, handed_room, handed_record}
use Rattle.scalar.proofs.hand_literal.Goals as goal

pub returns-then-literal_len-out : goal.returns-then-literal_len-out
returns-then-literal_len-out c = λ j n g. handed_long _ j n c.literal_len.ensures _ c.if-literal_len-out.true

pub put_literal-requires : goal.put_literal-requires
put_literal-requires c = handed_room c.args.bits c.args.kind.some.kind c.args.kind.some.no c.literal_len.ensures c.if-literal_len-out.false

pub returns : goal.returns
returns c = λ j n g. handed_record _ j n c.literal_len.ensures g c.if-literal_len-out.false
    (put_left c.put_literal.ensures.put (search rules))
