-- A record handed over as it stands.
use mathlib.Core.Path.{◌≡◌}
use mathlib.Core.List.{List}
use Prim.Native.Nat.{ℕ, ◌≤◌, ◌<◌}
use borrow.Author.Tests.{le-leb, lt-leb}
use lib.ListN.{length}
use Rattle.meaning.specs.Answers.{ok, no}
use Rattle.error.specs.Hand.{handed}

module _ (room : ℕ) (s : List ℕ) where
  pub handed_no : room < length s → handed room s ≡ no 22
  unfolding handed
  handed_no h = rw (lt-leb (length s) room h)

  pub handed_yes : length s ≤ room → handed room s ≡ ok s
  unfolding handed
  handed_yes h = rw (le-leb (length s) room h)
