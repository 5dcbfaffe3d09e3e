-- Each sum is past 64 bits exactly where the one that is checked is.
use mathlib.Core.Path.{◌≡◌}
use Prim.Native.Nat.{◌+◌}
use native.Mathlib.Omega.{arith}
use Rattle.layout.proofs.Extents.{past_long, past_sum}
use Rattle.layout.proofs.member_end.Goals as goal

pub returns-in_err-checked_add : goal.returns-in_err-checked_add
returns-in_err-checked_add c =
    rw c.from_residual.ensures (past_long _ (omega (arith, c.in_err-checked_add.ensures, c.from.ensures)))

pub returns : goal.returns
returns c =
    let i : c.args.end + c.args.g ≡ c.in_ok-checked_add.field-0 = omega (arith, c.in_ok-checked_add.ensures, c.from.ensures) in
    rw i (past_sum _ _ c.checked_add-2.ensures)
