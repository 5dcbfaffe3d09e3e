-- Whether the buffer takes a record, by what was measured of it.
use Rattle.std.specs.Prelude.{◌≡◌, Bool, ℕ, leb}
use Rattle.ty.specs.Heads.{len_of}
use Rattle.std.specs.declared.option.Option.{Option}

-- "22 the accepted record is longer than the lent buffer, also where its length is past 64 bits": f of the length that
-- was measured is within the room
abbrev pub Within : (ℕ → ℕ) → Option (ℕ × ℕ) → ℕ → Bool → Type 0
Within f len room r = (e n : ℕ) → len ≡ len_of e n → r ≡ leb (f n) room
