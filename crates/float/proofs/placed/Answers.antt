-- `float::placed` meets its contract. The shift does not leave 64 bits.
use Prim.Native.Nat.{◌-◌}
use native.Mathlib.Omega.{arith}
use Rattle.std.proofs.lemmas.Nat.{shl_whole}
use Rattle.float.proofs.placed.Goals as goal

pub returns : goal.returns
returns g c = rw c.DIGITS.ensures (shl_whole c.args.f 12 (g.F.Format.DIGITS - 1) 64 c.requires (omega (arith, g.F.Format.laws)))
