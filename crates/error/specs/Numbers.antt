-- An answer as plain numbers: the refusal's number or 0, the rank or the record's length, and the two counts of 8.
use Rattle.std.specs.Prelude.{◌≡◌, List, ℕ, length}
use Rattle.meaning.specs.Answers.{Result, ok, no, miscount, refusal_of}
use Rattle.meaning.specs.Answers as definition
use Rattle.meaning.specs.Entries.{laid}
use Rattle.error.specs.Refusals.{refusal}
use Rattle.error.specs.declared.Refusal.{Refusal}
use Rattle.error.specs.declared.Answer.{Answer}

abbrev pub numbers : ℕ → ℕ → ℕ → ℕ → Answer
numbers refusal value wanted given = record { refusal = refusal; value = value; wanted = wanted; given = given }

unfoldable pub value_of : {A : Type 0} → (A → ℕ) → Result A → ℕ
value_of f (ok a) = f a
value_of f (no n) = 0
value_of f (miscount w g) = 0

-- "only 8 carries more: wanted and given"
unfoldable pub wanted_of : {A : Type 0} → Result A → ℕ
wanted_of (ok a) = 0
wanted_of (no n) = 0
wanted_of (miscount w g) = w

unfoldable pub given_of : {A : Type 0} → Result A → ℕ
given_of (ok a) = 0
given_of (no n) = 0
given_of (miscount w g) = g

-- the four numbers of an answer, whose value f gives
abbrev pub in_numbers : {A : Type 0} → (A → ℕ) → Result A → Answer
in_numbers f a = numbers (refusal_of a) (value_of f a) (wanted_of a) (given_of a)

-- those of a refusal
abbrev pub refused_numbers : Refusal → Answer
refused_numbers x = in_numbers {A = ℕ} (λ n. n) (refusal x)

-- a record's answer in numbers, the record by its length, and the buffer at exit
pub record Records (a : definition.Answer) (out : List ℕ) (r : Answer) (out' : List ℕ) : Type 0 where
  pub numbers : r ≡ in_numbers length a
  pub leaves : out' ≡ laid a out
