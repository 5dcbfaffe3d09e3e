-- What the buffer takes.
use mathlib.Core.Path.{◌≡◌, refl, sym, ◌∙◌}
use mathlib.Core.Bool.{Bool, true, false}
use Prim.Native.Nat.{ℕ, ◌+◌, ◌-◌, ◌*◌, ◌/◌, ◌^◌, ◌≤◌, ◌<◌}
use native.Mathlib.Omega.{arith}
use borrow.Author.Tests.{le-leb, lt-leb, leb-true, leb-false}
use lib.Dec.{leb}
use Rattle.ty.specs.Heads.{len_of}
use Rattle.ty.proofs.Lens.{is_len, long_len, times_fits, times_long, times_more}
use Rattle.std.specs.declared.option.Option.{Option}
use Rattle.std.specs.declared.option.Option.TheVariants.{None, Some}

module _ {len : Option (ℕ × ℕ)} (e n : ℕ) (h : len ≡ len_of e n) where
  -- the number that was measured is the length
  pub is_long : {a m : ℕ} → len ≡ Some (a, m) → m ≡ n
  is_long {a} {m} q = (is_len a m e n (sym q ∙ h)).1

  -- no room is past 64 bits
  pub past_room : (f : ℕ → ℕ) (room : ℕ) → len ≡ None → room < 2 ^ 64 → n ≤ f n → false ≡ leb (f n) room
  past_room f room q r g = sym (lt-leb (f n) room (omega (arith, long_len e n (sym q ∙ h))))

-- what a test of the length said
module _ (n room : ℕ) {r : Bool} (w : r ≡ leb n room) where
  pub room_no : r ≡ false → room < n
  room_no q = leb-false n room (sym w ∙ q)

  pub room_yes : r ≡ true → n ≤ room
  room_yes q = leb-true n room (sym w ∙ q)

-- ---- n elements, and the 4 bytes before them

module _ (n m room : ℕ) (h : 1 ≤ n) where
  -- a product is no less than one of its factors
  pub times_past : m ≤ 4 + n * m
  times_past = omega (arith, times_more n m h)

  pub none_left : room < 4 → false ≡ leb (4 + n * m) room
  none_left r = sym (lt-leb (4 + n * m) room (omega arith))

  -- what is left for one of them
  pub times_within : 4 ≤ room → leb m ((room - 4) / n) ≡ leb (4 + n * m) room
  times_within r = go (leb m ((room - 4) / n)) refl
    where
      go : (b : Bool) → leb m ((room - 4) / n) ≡ b → b ≡ leb (4 + n * m) room
      go true q = let k : n * m ≤ room - 4 = times_fits (room - 4) h (leb-true m ((room - 4) / n) q) in sym
          (le-leb (4 + n * m) room (omega arith))
      go false q = let k : room - 4 < n * m = times_long (room - 4) h (leb-false m ((room - 4) / n) q) in sym
          (lt-leb (4 + n * m) room (omega arith))
