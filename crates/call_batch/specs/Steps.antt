-- What the steps of a batch do: one job alone on what is left, and the refusals of the whole call.
use Rattle.std.specs.Prelude.{◌≡◌, List, ◌++◌, map, Bool, ℕ, ◌+◌, ◌-◌, ◌≤◌, T, leb, length, take, drop}
use Rattle.meaning.specs.Answers as definition
use Rattle.meaning.specs.Answers.{Result, need, ◌>>◌}
use Rattle.meaning.specs.Records.{every}
use Rattle.meaning.specs.Entries.{laid}
use Rattle.meaning.specs.Batch as batch
use Rattle.meaning.specs.Batch.{inside, parts_inside, alone, record_of}
use Rattle.error.specs.Numbers.{in_numbers}
use Rattle.error.specs.declared.Answer.{Answer}
use Rattle.call_batch.specs.Jobs.{part_of, job_of, answered}
use Rattle.call_batch.specs.declared.Part.{Part}
use Rattle.call_batch.specs.declared.Job.{Job}
use Rattle.call_batch.specs.declared.Step.{Step}

-- ---- one job

-- the answer of a job alone on what is left of the buffer from `at` on
abbrev pub alone_at : List ℕ → batch.Job → List ℕ → ℕ → definition.Answer
alone_at s j out at = alone s j (length out - at)

-- what stands before `at` is kept, and the rest is as that call leaves it
abbrev pub laid_at : definition.Answer → List ℕ → ℕ → List ℕ
laid_at a out at = take at out ++ laid a (drop at out)

pub record Does (s : List ℕ) (j : batch.Job) (out : List ℕ) (at : ℕ) (r : Answer) (out' : List ℕ) : Type 0 where
  pub numbers : r ≡ in_numbers length (alone_at s j out at)
  pub leaves : out' ≡ laid_at (alone_at s j out at) out at

-- a job from plain numbers: where its two parts start and how long they are, and its stage
abbrev pub plainly : ℕ → ℕ → ℕ → ℕ → ℕ → batch.Job
plainly target tlen args alen stage = record {
  stage = stage;
  target = record { start = target; size = tlen };
  args = record { start = args; size = alen };
}

abbrev pub OneDone : List ℕ → ℕ → ℕ → ℕ → ℕ → ℕ → List ℕ → ℕ → Answer → List ℕ → Type 0
OneDone s target tlen args alen stage out at r out' = Does s (plainly target tlen args alen stage) out at r out'

-- what the walk has seen to before a job is done
abbrev pub Ready : List ℕ → Job → List ℕ → ℕ → Type 0
Ready s j out at = (T (parts_inside (length s) (job_of j))) × (at ≤ length out)

-- the job with its answer, and the place of the next record
abbrev pub step_of : List ℕ → Job → ℕ → ℕ → Step
step_of s j room at =
    let a = alone s (job_of j) (room - at) in
    record { job = answered j (record { answer = a; start = at }); next = at + length (record_of a) }

abbrev pub Stepped : List ℕ → Job → List ℕ → ℕ → Step → List ℕ → Type 0
Stepped s j out at r out' = (r ≡ step_of s j (length out) at) × (out' ≡ laid_at (alone_at s (job_of j) out at) out at)

-- ---- the refusals of the whole call

abbrev pub inside_of : ℕ → Part → Bool
inside_of room p = inside room (part_of p)

-- "more than 256 jobs" is 23, and then "a job whose part reaches outside the slice" is 24
abbrev pub judgement : ℕ → List Job → Result (Unit {0})
judgement room js = need (leb (length js) 256) 23 >> need (every (parts_inside room) (map job_of js)) 24
