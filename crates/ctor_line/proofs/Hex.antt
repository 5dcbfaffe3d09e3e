-- Hex, a byte at a time.
use mathlib.Core.Path.{◌≡◌, refl}
use mathlib.Core.List.{List, [], ◌∷◌, ◌++◌}
use Prim.Native.Nat.{ℕ, ◌+◌, ◌*◌, ◌/◌, ◌%◌, ◌≤◌, ◌<◌}
use native.Mathlib.Numerals.{add-one}
use native.Mathlib.Omega.{arith}
use borrow.Author.Tests.{lt-ltb, le-ltb}
use lib.ListN.{length, get_or, drop}
use lib.Seq.{drop-cons, drop-length}
use Rattle.meaning.specs.Entries.{hex_digit, hex}

pub digit_low : (n : ℕ) → n < 10 → 48 + n ≡ hex_digit n
unfolding hex_digit
digit_low n h = rw (lt-ltb n 10 h)

pub digit_high : (n : ℕ) → 10 ≤ n → 87 + n ≡ hex_digit n
unfolding hex_digit
digit_high n h = rw (le-ltb n 10 h)

pub hex_step : (s : List ℕ) (i : ℕ) → i < length s → hex (drop i s) ≡ (hex_digit (get_or s i 0 / 16) ∷ hex_digit (get_or s i 0 % 16) ∷ []) ++ hex
    (drop (i + 1) s)
unfolding hex
hex_step s i h = rw (add-one i, drop-cons s i 0 h)

pub hex_end : (s : List ℕ) (i : ℕ) → i ≤ length s → length s ≤ i → hex (drop i s) ≡ []
unfolding hex
hex_end s i h l = let z : i ≡ length s = omega arith in rw (z, drop-length s)

pub hex_length : (s : List ℕ) → length (hex s) ≡ 2 * length s
unfolding hex
hex_length [] = refl
hex_length (b ∷ s) = omega (arith, hex_length s)
