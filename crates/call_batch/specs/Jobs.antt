-- The lent list of jobs: what an entry names, and what stands in it at exit.
use Rattle.std.specs.Prelude.{◌≡◌, List, [], ◌∷◌, map, ℕ, length}
use Rattle.meaning.specs.Answers.{Result, ok, no, miscount}
use Rattle.meaning.specs.Batch as batch
use Rattle.meaning.specs.Batch.{Turn, batch_turns, batch_answer}
use Rattle.error.specs.Numbers.{in_numbers, Records}
use Rattle.error.specs.declared.Answer.{Answer}
use Rattle.call_batch.specs.declared.Part.{Part}
use Rattle.call_batch.specs.declared.Job.{Job}

-- ---- an entry of the list

-- the job that it names
abbrev pub part_of : Part → batch.Part
part_of p = record { start = p.start; size = p.len }

abbrev pub job_of : Job → batch.Job
job_of j = record { stage = j.stage; target = part_of j.target; args = part_of j.args }

-- "each job's own answer is put into its entry in the list"
abbrev pub answered : Job → Turn → Job
answered j t = record { target = j.target; args = j.args; stage = j.stage; answer = in_numbers length t.answer; at = t.start }

-- the entries with the answers of their turns, of which there are as many (`turns_length`)
unfoldable pub filled : List Job → List Turn → List Job
filled [] ts = []
filled (j ∷ js) [] = []
filled (j ∷ js) (t ∷ ts) = answered j t ∷ filled js ts

-- the list at exit: a call that is refused leaves it as it was
unfoldable pub listed : Result (List Turn) → List Job → List Job
listed (ok ts) js = filled js ts
listed (no n) js = js
listed (miscount w g) js = js

-- ---- the call

-- its own answer and every byte of the buffer, and every entry of the list, all by what `batch_turns` says of the slice,
-- the jobs and the buffer's length
pub record Batched (s : List ℕ) (js : List Job) (out : List ℕ) (r : Answer) (js' : List Job) (out' : List ℕ) : Type 0 where
  pub answers : Records (batch_answer s (map job_of js) (length out)) out r out'
  pub lists : js' ≡ listed (batch_turns s (map job_of js) (length out)) js
