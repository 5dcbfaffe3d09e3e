-- The table of the padding inside a type, by the places in the type's record: at the first byte of a matrix, an array
-- or a struct the padding behind each column, behind each element, or behind the last member; at the second byte of a
-- member's record the padding before it.
use Rattle.std.specs.Prelude.{◌≡◌, List, ℕ, ◌+◌, ◌-◌, ◌*◌, length, get_or}
use Rattle.meaning.specs.Trees.{Ty, Ts, Tv, Tm, Ta, Tu, Tys, [·], ◌▸◌}
use Rattle.meaning.specs.Records.{ty_bytes}
use Rattle.meaning.specs.Layout.{scalar_size, round_up, align_of, col_stride, size_of, past_last, stride}

-- of the type t, whose record stands at `at`; of the types m in a row, the first of which begins at `off` or behind
unfoldable mutual
  pub Padded : List ℕ → ℕ → Ty → Type 0
  Padded pads at (Ts k) = Unit {0}
  Padded pads at (Tv n k) = Unit {0}
  Padded pads at (Tm c r k) = get_or pads at 0 ≡ col_stride r k - r * scalar_size k
  Padded pads at (Ta n t) = (get_or pads at 0 ≡ stride t - size_of t) × Padded pads (at + 4) t
  Padded pads at (Tu i m) = (get_or pads at 0 ≡ size_of (Tu i m) - past_last 0 m) × PaddedAll pads (at + 6) 0 m

  pub PaddedAll : List ℕ → ℕ → ℕ → Tys → Type 0
  PaddedAll pads at off [·] = Unit {0}
  PaddedAll pads at off (t ▸ m) =
      (get_or pads (at + 1) 0 ≡ round_up (align_of t) off - off) × Padded pads at t
      × PaddedAll pads (at + length (ty_bytes t)) (round_up (align_of t) off + size_of t) m
