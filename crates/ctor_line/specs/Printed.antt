-- The answer that is printed.
use Rattle.std.specs.Prelude.{List, ℕ, take}
use Rattle.meaning.specs.Answers.{Answer, ok, ◌>>=◌}
use Rattle.error.specs.Refusals.{paper}
use Rattle.error.specs.Told.{Written}
use Rattle.std.specs.declared.result.Result.TheVariants.{Ok, Err}

-- what an entry answered, the record being the first n bytes of the buffer that was lent
unfoldable pub answer_in : Written → List ℕ → Answer
answer_in x buffer = paper x >>= λ n. ok (take n buffer)

-- how many bytes the record is
unfoldable pub record_len : Written → ℕ
record_len (Ok n) = n
record_len (Err x) = 0
