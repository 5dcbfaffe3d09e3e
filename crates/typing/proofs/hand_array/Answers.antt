-- Measured first, then the mark, the count and the element type.
use native.Mathlib.Omega.{arith}
use Rattle.std.proofs.Common.{rules}
use Rattle.record.proofs.Puts.{put_left, put_length}
use Rattle.error.proofs.BufferAtExit.{refused}
use Rattle.typing.proofs.Hands.{array_long, array_put, count_end}
use Rattle.typing.proofs.hand_array.Goals as goal

pub returns-then-out-lt4 : goal.returns-then-out-lt4
returns-then-out-lt4 c = λ t w. refused _ _ (array_long w c.args.n c.args.out.now (omega arith))

pub returns-then-ty-out : goal.returns-then-ty-out
returns-then-ty-out c = λ t w. refused _ _ (array_long w c.args.n c.args.out.now (omega arith))

pub put_bytes-requires : goal.put_bytes-requires
put_bytes-requires c =
    let a = c.put_pair.ensures.put in
    let b = c.put_le.ensures.put in
    omega (arith, a.end, put_length a, count_end _ b, put_length b)

pub returns : goal.returns
returns c =
    λ t w. array_put w _ _ (omega arith) c.put_pair.ensures.put c.put_le.ensures.put
    (put_left c.put_bytes.ensures.put (search rules))
