-- The size of a scalar by its kind's number.
use mathlib.Core.Path.{◌≡◌}
use mathlib.Core.Option.{Option, none, some}
use Prim.Native.Nat.{ℕ, ◌≤◌}
use native.Mathlib.Omega.{arith}
use Rattle.meaning.specs.Kinds.{Kind, bool, aint, afloat, i32, u32, f32, f16, kind_no, kind_of}
use Rattle.meaning.specs.Layout.{scalar_size}
use Rattle.laws.proofs.AgreeLit.{kind_back}
use Rattle.kind.specs.Ends.{of_kind}
use Rattle.record.specs.Bytes.{Width}
use Rattle.memory.specs.Sizes.{size_no}

pub size_of_lem : (k : Kind) → size_no (kind_no k) ≡ scalar_size k
unfolding of_kind
size_of_lem k = rw (kind_back k)

pub size_is : (n : ℕ) → Width (size_no n)
unfolding of_kind scalar_size
size_is n = go (kind_of n)
  where
    go : (o : Option Kind) → Width (of_kind 0 scalar_size o)
    go none = tt
    go (some bool) = tt
    go (some aint) = tt
    go (some afloat) = tt
    go (some i32) = tt
    go (some u32) = tt
    go (some f32) = tt
    go (some f16) = tt

pub size_small : (n : ℕ) → size_no n ≤ 4
unfolding of_kind scalar_size
size_small n = go (kind_of n)
  where
    go : (o : Option Kind) → of_kind 0 scalar_size o ≤ 4
    go none = omega arith
    go (some bool) = omega arith
    go (some aint) = omega arith
    go (some afloat) = omega arith
    go (some i32) = omega arith
    go (some u32) = omega arith
    go (some f32) = omega arith
    go (some f16) = omega arith
