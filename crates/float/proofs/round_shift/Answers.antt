-- `float::round_shift` meets its contract. What is dropped is compared with a half of the last place kept, and at a tie
-- the last digit kept decides.
use native.Mathlib.Omega.{arith}
use Rattle.std.proofs.lemmas.Nat.{one_shl}
use Rattle.float.proofs.Rounds.{far, up, down}
use borrow.Author.Rules.{rules}
use Rattle.float.proofs.round_shift.Goals as goal

pub returns-then-sh-gt64 : goal.returns-then-sh-gt64
returns-then-sh-gt64 c = far c.args.m c.args.sh (search rules) c.if-sh-gt64.true

pub returns-then-rest-q : goal.returns-then-rest-q
returns-then-rest-q c = up c.args.m c.args.sh (omega arith) (one_shl _ 64 (omega arith)) c.low_bits-rest.ensures c.if-rest-q.true

pub returns-else-rest-q : goal.returns-else-rest-q
returns-else-rest-q c = down c.args.m c.args.sh (omega arith) (one_shl _ 64 (omega arith)) c.low_bits-rest.ensures c.if-rest-q.false
