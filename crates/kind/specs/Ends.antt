-- What follows from a kind, and from a number that may be a kind's: its width, the ends of its range, its zero.
use Rattle.std.proofs.Math.Option.{Option, none, some}
use Rattle.std.specs.Prelude.{Bool, true, false, ℕ, ◌-◌, ◌^◌, min}
use Rattle.meaning.specs.Kinds.{Kind, bool, aint, afloat, i32, u32, f32, f16, kind_of}
use Rattle.meaning.specs.Floats.{binary16, binary32, binary64, largest}

-- of the kind with the number n; of a number that is no kind's, none's
unfoldable pub of_kind : {A : Type 0} → A → (Kind → A) → Option Kind → A
of_kind z f none = z
of_kind z f (some k) = f k

-- what two kinds give, if both are known
abbrev pub of_kinds : {A : Type 0} → A → (Kind → Kind → A) → Option Kind → Option Kind → A
of_kinds z f a b = of_kind z (λ j. of_kind z (f j) b) a

abbrev pub numbered : (Kind → ℕ) → ℕ → ℕ
numbered f n = of_kind 0 f (kind_of n)

abbrev pub tested : (Kind → Bool) → ℕ → Bool
tested f n = of_kind false f (kind_of n)

-- every kind is one
unfoldable pub known : Kind → Bool
known k = true

-- the range of a kind as whole numbers, -low to high, each held to 64 bits
unfoldable pub low : Kind → ℕ
low bool = 0
low aint = 2 ^ 63
low afloat = min (binary64 largest) (2 ^ 64 - 1)
low i32 = 2 ^ 31
low u32 = 0
low f32 = min (binary32 largest) (2 ^ 64 - 1)
low f16 = min (binary16 largest) (2 ^ 64 - 1)

unfoldable pub high : Kind → ℕ
high bool = 1
high aint = 2 ^ 63 - 1
high afloat = min (binary64 largest) (2 ^ 64 - 1)
high i32 = 2 ^ 31 - 1
high u32 = 2 ^ 32 - 1
high f32 = min (binary32 largest) (2 ^ 64 - 1)
high f16 = min (binary16 largest) (2 ^ 64 - 1)
