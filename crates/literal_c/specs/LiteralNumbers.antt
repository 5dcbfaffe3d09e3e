-- The answers of one literal as plain numbers.
use Rattle.std.proofs.Math.Option.{Option, none, some}
use Rattle.std.specs.Prelude.{ℕ}
use Rattle.meaning.specs.Answers.{Result, ok, no, miscount, or_no, ◌>>=◌}
use Rattle.meaning.specs.Entries.{stage_of}
use Rattle.literal.specs.LiteralAnswers.{ctor_to}

-- the payload, or 0 where there is none
unfoldable pub or_zero : Option ℕ → ℕ
or_zero none = 0
or_zero (some p) = p

unfoldable pub payload_of : Result ℕ → ℕ
payload_of (ok p) = p
payload_of (no n) = 0
payload_of (miscount w g) = 0

-- what a constructor makes of a literal, by the numbers of the stage and the kinds: a stage over 2 is 3
unfoldable pub ctor_between : ℕ → ℕ → ℕ → ℕ → Result ℕ
ctor_between stage to from p = or_no 3 (stage_of stage) >>= λ s. ctor_to s to from p
