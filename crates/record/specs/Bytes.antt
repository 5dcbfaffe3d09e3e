-- Bytes in a lent slice: what stands at a place, numbers of some bytes, and what is stored from a place on.
use Rattle.std.specs.Prelude.{◌≡◌, List, [], ◌∷◌, ◌++◌, Bool, true, false, ◌&&◌, ◌||◌, ℕ, zero, suc, ◌+◌, ◌*◌, ◌≤◌, T, eqb, length, get_or, drop}
use Rattle.std.proofs.lemmas.List.Edits.{sets}

-- a test answers whether P holds
abbrev pub Decides : Type 0 → Bool → Type 0
Decides P true = P
Decides P false = P → ⊥

-- ---- what stands there

-- the bytes bs stand in s at `at`
pub record Starts (s : List ℕ) (at : ℕ) (bs : List ℕ) : Type 0 where
  pub here : drop at s ≡ bs ++ drop (at + length bs) s
  pub room : at + length bs ≤ length s

-- two byte strings are equal: of one length, byte for byte
unfoldable pub same_bytes : List ℕ → List ℕ → Bool
same_bytes [] [] = true
same_bytes [] (b ∷ t) = false
same_bytes (a ∷ s) [] = false
same_bytes (a ∷ s) (b ∷ t) = eqb a b && same_bytes s t

-- ---- numbers

-- the widths of the numbers in a record, and 0, which is the width of no kind's payload
abbrev pub Width : ℕ → Type 0
Width w = T (eqb w 8 || (eqb w 4 || (eqb w 2 || (eqb w 1 || eqb w 0))))

-- the number that the w bytes at `at` are, the low byte first
unfoldable pub number_at : List ℕ → ℕ → ℕ → ℕ
number_at s at zero = 0
number_at s at (suc w) = get_or s at 0 + 256 * number_at s (suc at) w

-- ---- what is stored there

-- there is room for bs in out, from `to` on
abbrev pub Takes : List ℕ → ℕ → List ℕ → Type 0
Takes out to bs = to + length bs ≤ length out

-- bs is stored in out from `to` on, which leaves out'; r is where it ends
pub record Put (out : List ℕ) (to : ℕ) (bs : List ℕ) (r : ℕ) (out' : List ℕ) : Type 0 where
  pub end : r ≡ to + length bs
  pub left : out' ≡ sets out to bs

-- n copies of b, one after another
unfoldable pub times : ℕ → List ℕ → List ℕ
times zero b = []
times (suc n) b = b ++ times n b
