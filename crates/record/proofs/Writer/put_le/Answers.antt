-- Each width by itself.
use mathlib.Core.Path.{◌≡◌}
use native.Mathlib.Omega.{arith}
use Rattle.meaning.specs.Records.{le}
use Rattle.record.proofs.Puts.{put_nil}
use Rattle.record.proofs.Numbers.{width_eight, width_four, le_is}
use Rattle.record.proofs.Writer.put_le.Goals as goal

pub returns-then-w-gt4-clause-put : goal.returns-then-w-gt4-clause-put
returns-then-w-gt4-clause-put c =
    rw (width_eight _ (search) c.if-w-gt4.true, le_is) (rw c.to_le_bytes-bytes.ensures at c.put_bytes.ensures.put)

pub returns-then-w-gt2-clause-put : goal.returns-then-w-gt2-clause-put
returns-then-w-gt2-clause-put c =
    rw (width_four _ (search) c.if-w-gt2.true c.if-w-gt4.false, le_is)
    (rw c.to_le_bytes-bytes.ensures at c.put_four.ensures.put)

pub returns-then-w-gt1-clause-put : goal.returns-then-w-gt1-clause-put
returns-then-w-gt1-clause-put c =
    let e : c.args.w ≡ 2 = omega arith in
    rw (e, le_is) (rw c.to_le_bytes-bytes.ensures at c.put_pair.ensures.put)

pub returns-then-w-gt0-clause-put : goal.returns-then-w-gt0-clause-put
returns-then-w-gt0-clause-put c =
    let e : c.args.w ≡ 1 = omega arith in
    rw (e, le_is) (rw c.to_le_bytes-bytes.ensures at c.put_byte.ensures.put)

pub returns-else-w-gt0-clause-put : goal.returns-else-w-gt0-clause-put
unfolding le
returns-else-w-gt0-clause-put c =
    let e : c.args.w ≡ 0 = omega arith in
    rw e (put_nil c.args.self.now.out.now c.args.self.now.at)
