-- Worked cases of request 01, computed from the definitions: places, stages, refusals of one job and of the whole call, the buffer.
use mathlib.Core.Path.{◌≡◌, refl}
use mathlib.Core.List.{List, [], ◌∷◌, ◌++◌}
use Prim.Native.Nat.{ℕ, ◌-◌, ◌^◌}
use lib.ListN.{replicate}
use Rattle.meaning.specs.Kinds.{aint, afloat, f32}
use Rattle.meaning.specs.Trees.{Ts, Vs}
use Rattle.meaning.specs.Answers.{Answer, ok, no}
use Rattle.meaning.specs.Records.{ty_bytes, val_bytes}
use Rattle.meaning.specs.Entries.{laid}
use Rattle.meaning.specs.Batch.{Job, Turn, batch_turns, batch_answer}
use Rattle.meaning.proofs.Calls.{value}
use Rattle.meaning.proofs.Opened.{opened}

-- the slice: the type f32 (3 bytes) and an AbstractInt 1 (11 bytes)
s : List ℕ
s = ty_bytes (Ts f32) ++ val_bytes (Vs aint 1)

job : ℕ → ℕ → ℕ → ℕ → ℕ → Job
job stage t tn a an = record { stage = stage; target = record { start = t; size = tn }; args = record { start = a; size = an } }

-- f32 of the literal at a stage
folded : ℕ → Job
folded stage = job stage 0 3 3 11

-- f32(1), the zero value of f32, and a call at no stage
made : Job
made = folded 0

zero_value : Job
zero_value = job 2 0 3 14 0

unstaged : Job
unstaged = folded 3

-- another slice, of the same lengths: the literal is an AbstractFloat outside the range of f32
far : List ℕ
far = ty_bytes (Ts f32) ++ val_bytes (Vs afloat 0x7FEFFFFFFFFFFFFF)

turn : ℕ → Answer → Turn
turn at a = record { answer = a; start = at }

one : Answer
one = value (Vs f32 0x3F800000)

record Batches : Type 0 where
  -- "laid one after another"; "with the buffer that is left at its turn"
  no_jobs : batch_turns s [] 0 ≡ ok []
  one_job : batch_turns s (made ∷ []) 11 ≡ ok (turn 0 one ∷ [])
  two_jobs : batch_turns s (made ∷ made ∷ []) 22 ≡ ok (turn 0 one ∷ turn 11 one ∷ [])
  one_byte_short : batch_turns s (made ∷ made ∷ []) 21 ≡ ok (turn 0 one ∷ turn 11 (no 22) ∷ [])
  each_its_stage : batch_turns s (made ∷ unstaged ∷ []) 22 ≡ ok (turn 0 one ∷ turn 11 (no 3) ∷ [])
  -- request 03: "A user who folds the same literals at Const and Override gets one result"
  one_result : batch_turns far (folded 0 ∷ folded 1 ∷ folded 2 ∷ []) 11
      ≡ ok (turn 0 (no 21) ∷ turn 0 (no 21) ∷ turn 0 (value (Vs f32 0x7F800000)) ∷ [])
  -- "A refused job writes nothing and the next goes on"
  goes_on : batch_turns s (unstaged ∷ unstaged ∷ made ∷ []) 11 ≡ ok (turn 0 (no 3) ∷ turn 0 (no 3) ∷ turn 0 one ∷ [])
  in_its_place : laid (batch_answer s (made ∷ unstaged ∷ zero_value ∷ []) 24) (replicate 24 7)
      ≡ val_bytes (Vs f32 0x3F800000) ++ (val_bytes (Vs f32 0) ++ (7 ∷ 7 ∷ []))
  -- the parts: "reaches outside the slice, or is empty and begins past its end (24)"
  empty_at_the_end : batch_turns s (zero_value ∷ []) 11 ≡ ok (turn 0 (value (Vs f32 0)) ∷ [])
  empty_past_the_end : batch_turns s (job 2 0 3 15 0 ∷ []) 11 ≡ no 24
  one_byte_outside : batch_turns s (made ∷ job 0 0 3 4 11 ∷ []) 99 ≡ no 24
  target_outside : batch_turns s (job 0 12 3 3 11 ∷ []) 99 ≡ no 24
  past_64_bits : batch_turns s (job 0 0 3 14 (2 ^ 64 - 1) ∷ []) 99 ≡ no 24
  before_the_stage : batch_turns s (job 3 0 15 0 0 ∷ []) 99 ≡ no 24
  empty_target : batch_turns s (job 0 0 0 0 0 ∷ []) 99 ≡ ok (turn 0 (no 1) ∷ [])
  -- "more than 256 jobs (23) .. 23 first", "before anything is written"
  too_many : batch_turns s (replicate 257 (job 0 0 15 0 0)) 99 ≡ no 23
  not_too_many : batch_turns s (replicate 256 (job 0 0 15 0 0)) 99 ≡ no 24
  nothing_written : laid (batch_answer s (made ∷ job 0 0 15 0 0 ∷ []) 12) (replicate 12 7) ≡ replicate 12 7

batches : Batches
unfolding s job folded made zero_value unstaged far turn one value batch_turns batch_answer laid ty_bytes val_bytes opened
batches = record {
  no_jobs = refl;
  one_job = refl;
  two_jobs = refl;
  one_byte_short = refl;
  each_its_stage = refl;
  one_result = refl;
  goes_on = refl;
  in_its_place = refl;
  empty_at_the_end = refl;
  empty_past_the_end = refl;
  one_byte_outside = refl;
  target_outside = refl;
  past_64_bits = refl;
  before_the_stage = refl;
  empty_target = refl;
  too_many = refl;
  not_too_many = refl;
  nothing_written = refl;
}
