-- The product is within the room exactly where one factor is within the quotient.
use mathlib.Core.Path.{ap, ◌∙◌}
use Prim.Native.Nat.{ℕ, ◌+◌, ◌-◌, ◌*◌, ◌/◌}
use native.Mathlib.Omega.{arith}
use lib.Dec.{leb}
use Rattle.array.proofs.Lengths.{is_long, past_room, times_past, none_left, times_within}
use Rattle.array.proofs.takes_array.Goals as goal

pub returns-then-room-lt4 : goal.returns-then-room-lt4
returns-then-room-lt4 c = λ e m h. search none_left

pub returns : goal.returns
returns c =
    λ e m h. ap (λ (k : ℕ). leb k ((c.args.room - 4) / c.args.n)) (is_long e m h c.in-Some.is)
    ∙ times_within c.args.n m c.args.room c.requires c.if-room-lt4.false

pub returns-in_default : goal.returns-in_default
returns-in_default c =
    λ e m h. past_room e m h (λ k. 4 + c.args.n * k) c.args.room c.in_default.is (omega arith)
    (times_past c.args.n m c.args.room c.requires)
