-- How long what stands before the parts is.
use mathlib.Core.Path.{◌≡◌}
use Prim.Native.Nat.{ℕ}
use native.Mathlib.Omega.{arith}
use lib.ListN.{length, length-append}
use Rattle.laws.proofs.Length.{le_len}
use Rattle.record.specs.Fronts.{array_front, struct_front}

pub array_front_long : (n : ℕ) → length (array_front n) ≡ 4
unfolding array_front
array_front_long n = omega (arith, le_len 2 n)

pub struct_front_long : (i n : ℕ) → length (struct_front i n) ≡ 6
unfolding struct_front
struct_front_long i n = simp (length-append, le_len)
