-- The answer of an entry that writes a record, and every byte of the lent buffer.
use Rattle.std.specs.Prelude.{◌≡◌, List, ℕ, length}
use Rattle.meaning.specs.Trees.{Val}
use Rattle.meaning.specs.Answers.{Result, ok, no, miscount, Answer, ◌>>=◌}
use Rattle.meaning.specs.Entries.{laid, hand_val}
use Rattle.error.specs.Refusals.{Refusing, paper}

-- what an entry that writes a record answers: the record's length, or a refusal
abbrev pub Written : Type 0
Written = Refusing ℕ

-- a definition's answer, its record by its length
unfoldable pub by_length : Answer → Result ℕ
by_length (ok s) = ok (length s)
by_length (no n) = no n
by_length (miscount w g) = miscount w g

-- r is what is answered, and the buffer holds at exit what `laid` says: the record's bytes and what stood behind them, or all as it was
pub record Told (a : Answer) (out : List ℕ) (r : Written) (out' : List ℕ) : Type 0 where
  pub says : paper r ≡ by_length a
  pub leaves : out' ≡ laid a out

-- the same for a value that was built or refused: its record is handed over, if the buffer takes it
abbrev pub Builds : Result Val → List ℕ → Written → List ℕ → Type 0
Builds x out r out' = Told (x >>= hand_val (length out)) out r out'
