-- A job alone: its parts of the slice and of the buffer as they are lent to the call, and what becomes of its entry.
use mathlib.Core.Path.{◌≡◌, refl, ap, ◌∙◌}
use mathlib.Core.List.{List, [], ◌++◌, append-nil}
use Prim.Native.Nat.{ℕ, ◌+◌, ◌-◌, ◌≤◌}
use native.Mathlib.Omega.{arith}
use native.Mathlib.Nat.{add-sub_cancel_left}
use lib.Dec.{T, leb→le}
use lib.ListN.{length, take, drop, length-drop, drop_of_length-le}
use lib.Seq.{take_all}
use Rattle.meaning.specs.Answers.{ok, no, miscount}
use Rattle.meaning.specs.Answers as definition
use Rattle.meaning.specs.Entries.{build_answer}
use Rattle.meaning.specs.Batch as batch
use Rattle.meaning.specs.Batch.{inside, parts_inside, part, alone, record_of}
use Rattle.error.specs.Refusals.{paper}
use Rattle.error.specs.Told.{Told}
use Rattle.error.specs.Numbers.{in_numbers, value_of, Records}
use Rattle.error.specs.declared.Answer.{Answer}
use Rattle.error.proofs.Numbers.{told}
use Rattle.laws.proofs.Back.{and_l, and_r}
use Rattle.call_batch.specs.Jobs.{job_of}
use Rattle.call_batch.specs.Steps.{alone_at, Does, OneDone, Stepped}
use Rattle.call_batch.specs.declared.Job.{Job}
use Rattle.laws.proofs.Batch.{record_fits}
use Rattle.error.specs.Told.{Written}

-- ---- the parts as they are lent: of the slice by start and end, of the buffer all that is left

abbrev lent : List ℕ → ℕ → ℕ → List ℕ
lent s start size = take (start + size - start) (drop start s)

abbrev left : List ℕ → ℕ → List ℕ
left os at = take (length os - at) (drop at os)

left_is : (os : List ℕ) (at : ℕ) → left os at ≡ drop at os
left_is os at = take_all (length os - at) (drop at os) (rw length-drop (omega arith))

-- nothing stands behind it
past : (os : List ℕ) (at : ℕ) → drop (length os - at) (drop at os) ≡ []
past os at = drop_of_length-le (drop at os) {i = length os - at} (rw length-drop (omega arith))

-- what the call on those parts tells is what the job does
pub does : (s os : List ℕ) (target tlen args alen stage at : ℕ) {x : Written} {ys : List ℕ} {r : Answer}
    → Told (build_answer stage (lent s target tlen) (lent s args alen) (length (left os at))) (left os at) x ys
    → r ≡ in_numbers (λ n. n) (paper x)
    → OneDone s target tlen args alen stage os at r (take at os ++ (ys ++ drop (length os - at) (drop at os)))
unfolding alone part
does s os target tlen args alen stage at {ys} {r} h e =
    let a : definition.Answer = build_answer stage (take tlen (drop target s)) (take alen (drop args s)) (length os - at) in
    let q : Records a (drop at os) r ys = rw (
      left_is os at,
      add-sub_cancel_left target tlen,
      add-sub_cancel_left args alen,
      length-drop,
    ) at (told h e) in
    record { numbers = q.numbers; leaves = rw (past os at, append-nil) (ap (take at os ++◌) q.leaves) }

-- ---- the job's entry

pub parts_fit : (n : ℕ) (j : batch.Job) → T (parts_inside n j) → (j.target.start + j.target.size ≤ n)
    × (j.args.start + j.args.size ≤ n)
unfolding parts_inside inside
parts_fit n j h =
    (leb→le _ _ (and_l (inside n j.target) (inside n j.args) h), leb→le _ _ (and_r (inside n j.target) (inside n j.args) h))

value_is : (a : definition.Answer) → value_of length a ≡ length (record_of a)
unfolding value_of record_of
value_is (ok r) = refl
value_is (no n) = refl
value_is (miscount w g) = refl

module _ (s : List ℕ) (j : Job) (os : List ℕ) (at : ℕ) {r : Answer} {os' : List ℕ} (d : Does s (job_of j) os at r os') where
  -- the answer's value is the length of what was written
  value : r.value ≡ length (record_of (alone_at s (job_of j) os at))
  value = ap (λ (x : Answer). x.value) d.numbers ∙ value_is _

  -- and reaches no further than the buffer
  pub value_fits : r.value ≤ length os - at
  value_fits = rw value (record_fits s (job_of j) (length os - at))

  pub steps : Stepped s j os at
      (record { job = record { target = j.target; args = j.args; stage = j.stage; answer = r; at = at }; next = at + r.value }) os'
  steps = (rw (d.numbers, value_is) refl, d.leaves)
