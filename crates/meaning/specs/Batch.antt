-- Document 02, request 01: "A whole route in one call. .. A call takes one lent slice and a list of jobs, each naming
-- its target's part, its arguments' part and its stage."
use Rattle.std.specs.Prelude.{List, [], ◌∷◌, ◌++◌, Bool, ◌&&◌, ℕ, ◌+◌, ◌-◌, leb, length, take, drop}
use Rattle.meaning.specs.Answers.{Result, ok, no, miscount, Answer, need, ◌>>=◌, ◌>>◌}
use Rattle.meaning.specs.Records.{every}
use Rattle.meaning.specs.Entries.{build_answer}

-- a part of the slice: where it starts, and how many bytes it has
pub record Part : Type 0 where
  pub start : ℕ
  pub size : ℕ

pub record Job : Type 0 where
  pub stage : ℕ
  pub target : Part
  pub args : Part

-- the bytes of a part
unfoldable pub part : List ℕ → Part → List ℕ
part s p = take p.size (drop p.start s)

-- "a job whose part reaches outside the slice, or is empty and begins past its end (24)": a part is inside the slice
-- where its end is. The sum is an exact number.
unfoldable pub inside : ℕ → Part → Bool
inside n p = leb (p.start + p.size) n

unfoldable pub parts_inside : ℕ → Job → Bool
parts_inside n j = inside n j.target && inside n j.args

-- "Each job answers exactly as it would alone with the buffer that is left at its turn."
unfoldable pub alone : List ℕ → Job → ℕ → Answer
alone s j left = build_answer j.stage (part s j.target) (part s j.args) left

-- what an answer writes: "a refused job writes nothing and the next goes on"
unfoldable pub record_of : Answer → List ℕ
record_of (ok r) = r
record_of (no n) = []
record_of (miscount w g) = []

-- a job's answer, and where its record begins in the result buffer; a refused job's is where the next one's may begin
pub record Turn : Type 0 where
  pub answer : Answer
  pub start : ℕ

-- the turns of the jobs, one after another, in a buffer of so many bytes of which the first `at` are taken
unfoldable pub turns : List ℕ → List Job → ℕ → ℕ → List Turn
turns s [] at room = []
turns s (j ∷ l) at room =
    let a = alone s j (room - at) in
    record { answer = a; start = at } ∷ turns s l (at + length (record_of a)) room

-- "Accepted records are laid one after another in the result buffer"
unfoldable pub records : List Turn → List ℕ
records [] = []
records (t ∷ l) = record_of t.answer ++ records l

-- "It refuses more than 256 jobs (23) and [such a job] (24), both for the whole call, before anything is written, 23 first."
unfoldable pub batch_turns : List ℕ → List Job → ℕ → Result (List Turn)
batch_turns s l room = do
  need (leb (length l) 256) 23
  need (every (parts_inside (length s)) l) 24
  ok (turns s l 0 room)

-- the call's own answer: all that was written, as one record is
unfoldable pub batch_answer : List ℕ → List Job → ℕ → Answer
batch_answer s l room = batch_turns s l room >>= λ t. ok (records t)
