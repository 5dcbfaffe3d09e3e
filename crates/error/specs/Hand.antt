-- The bytes of an accepted record, handed over.
use Rattle.std.specs.Prelude.{List, ℕ, leb, length}
use Rattle.meaning.specs.Answers.{Answer, ok, need, ◌>>◌}

-- "22 the accepted record is longer than the lent buffer", of the record's bytes
unfoldable pub handed : ℕ → List ℕ → Answer
handed room s = need (leb (length s) room) 22 >> ok s
