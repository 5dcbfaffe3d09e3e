-- A literal's record by its kind's number: "`Vs` kind and payload".
use Rattle.std.specs.Prelude.{◌≡◌, List, ◌∷◌, ℕ, ◌≤◌}
use Rattle.meaning.specs.Kinds.{Kind, kind_no, pay_width}
use Rattle.meaning.specs.Records.{‘V’, ‘s’, le}
use Rattle.kind.specs.Ends.{numbered}

-- how many bytes the payload of a kind takes, by the kind's number
abbrev pub width_of : ℕ → ℕ
width_of k = numbered pay_width k

-- a literal's record, by its kind's number
unfoldable pub literal_of : ℕ → ℕ → List ℕ
literal_of k p = ‘V’ ∷ ‘s’ ∷ k ∷ le (width_of k) p

-- r is the length that len gives for the kind whose number k is, and at most `most` for any number
pub record Sized (k : ℕ) (len : Kind → ℕ) (most r : ℕ) : Type 0 where
  pub is : (j : Kind) → k ≡ kind_no j → r ≡ len j
  pub small : r ≤ most

-- no literal's record is longer
abbrev pub most_lit : ℕ
most_lit = 11
