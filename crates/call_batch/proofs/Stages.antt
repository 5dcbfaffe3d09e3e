-- Document 02, request 03, about the entry: what `call_batch` returns and leaves where Const (0) stands in place of Override (1).
use mathlib.Core.Path.{◌≡◌, refl, sym, ap, ◌∙◌}
use mathlib.Core.List.{List, [], ◌∷◌, map}
use Prim.Native.Nat.{ℕ}
use lib.ListN.{length}
use Rattle.meaning.specs.Answers.{Result, ok, no, miscount, ◌>>=◌}
use Rattle.meaning.specs.Answers as definition
use Rattle.meaning.specs.Entries.{laid}
use Rattle.meaning.specs.Batch as batch
use Rattle.meaning.specs.Batch.{Turn, records, batch_turns, batch_answer}
use Rattle.laws.proofs.Stages.{at_const, job_at_const, one_batch}
use Rattle.error.specs.Numbers.{in_numbers}
use Rattle.error.specs.declared.Answer.{Answer}
use Rattle.call_batch.specs.Jobs.{job_of, answered, filled, listed, Batched}
use Rattle.call_batch.specs.declared.Job.{Job}

-- an entry of the list with Const in place of Override, and else as it is
unfoldable pub entry_at_const : Job → Job
entry_at_const e = record { target = e.target; args = e.args; stage = at_const e.stage; answer = e.answer; at = e.at }

jobs_alike : (js : List Job) → map job_of (map entry_at_const js) ≡ map job_at_const (map job_of js)
unfolding entry_at_const job_at_const
jobs_alike [] = refl
jobs_alike (j ∷ js) = ap (job_at_const (job_of j) ∷◌) (jobs_alike js)

filled_alike : (js : List Job) (ts : List Turn) → filled (map entry_at_const js) ts ≡ map entry_at_const (filled js ts)
unfolding filled entry_at_const
filled_alike [] ts = refl
filled_alike (j ∷ js) [] = refl
filled_alike (j ∷ js) (t ∷ ts) = ap (entry_at_const (answered j t) ∷◌) (filled_alike js ts)

listed_alike : (x : Result (List Turn)) (js : List Job) → listed x (map entry_at_const js) ≡ map entry_at_const (listed x js)
unfolding listed
listed_alike (ok ts) js = filled_alike js ts
listed_alike (no n) js = refl
listed_alike (miscount w g) js = refl

module _ (s : List ℕ) (js : List Job) (out : List ℕ) where
  turns_alike : batch_turns s (map job_of (map entry_at_const js)) (length out) ≡ batch_turns s (map job_of js) (length out)
  turns_alike = ap (λ (l : List batch.Job). batch_turns s l (length out)) (jobs_alike js) ∙ one_batch s (map job_of js) (length out)

  answer_alike : batch_answer s (map job_of (map entry_at_const js)) (length out) ≡ batch_answer s (map job_of js) (length out)
  unfolding batch_answer
  answer_alike = ap (λ (x : Result (List Turn)). x >>= λ t. ok (records t)) turns_alike

  -- two calls, each as the contract of `call_batch` tells it, the second with Const in place of each Override: the same
  -- answer, the same in every byte of the buffer, and the same in every entry of the list but for that
  pub one_result : {r q : Answer} {js' ks' : List Job} {out₁ out₂ : List ℕ}
      → Batched s js out r js' out₁ → Batched s (map entry_at_const js) out q ks' out₂ → (q ≡ r) × (ks' ≡ map entry_at_const js')
      × (out₂ ≡ out₁)
  one_result x y = (
    y.answers.numbers ∙ ap (in_numbers length) answer_alike ∙ sym x.answers.numbers,
    y.lists ∙ ap (λ (t : Result (List Turn)). listed t (map entry_at_const js)) turns_alike ∙ listed_alike _ js
        ∙ ap (map entry_at_const) (sym x.lists),
    y.answers.leaves ∙ ap (λ (a : definition.Answer). laid a out) answer_alike ∙ sym x.answers.leaves,
  )
