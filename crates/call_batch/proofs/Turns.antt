-- After some of its turns a batch has done what the batch of those jobs alone does: the list's front has their answers,
-- the buffer has their records, and the place is where these end.
use mathlib.Core.Path.{◌≡◌, refl, sym, ap, ◌∙◌, subst}
use mathlib.Core.List.{List, [], ◌∷◌, ◌++◌, map, append_assoc, append-nil, map-append}
use mathlib.Core.Bool.{Bool, true, false, ◌&&◌, cond}
use Prim.Native.Nat.{ℕ, zero, suc, ◌-◌, ◌≤◌, ◌<◌}
use native.Mathlib.Omega.{arith}
use native.Mathlib.Nat.{zero-add, suc_inj}
use lib.Dec.{T, leb}
use borrow.Author.Tests.{eq-eqb, ne_eqb}
use lib.ListN.{length, take, drop, get_or, set, length-append, length-map}
use lib.Seq.{take-suc, drop-cons, take-length, drop-length, length-take-le, set_at, get_or_at, take-append_seam, drop-append_seam}
use Rattle.meaning.specs.Answers.{Result, ok, no, miscount, refusal_of, need, ◌>>◌, ◌>>=◌}
use Rattle.meaning.specs.Answers as definition
use Rattle.meaning.specs.Records.{every}
use Rattle.meaning.specs.Entries.{laid}
use Rattle.meaning.specs.Batch as batch
use Rattle.meaning.specs.Batch.{Turn, parts_inside, alone, record_of, turns, records, batch_turns, batch_answer}
use Rattle.error.specs.Numbers.{numbers, refused_numbers, Records, value_of, wanted_of, given_of}
use Rattle.error.specs.declared.Answer.{Answer}
use Rattle.error.specs.declared.Refusal.{Refusal}
use Rattle.error.specs.Refusals.{refusal}
use Rattle.error.proofs.Refusals.{Told, plain, counted, told, no_after, no_more}
use Rattle.laws.proofs.Back.{and_l, and_r}
use Rattle.laws.proofs.Handed.{front_keeps}
use Rattle.call_batch.specs.Jobs.{job_of, answered, filled, listed, Batched}
use Rattle.call_batch.specs.Steps.{alone_at, laid_at, Ready, step_of, judgement}
use Rattle.call_batch.specs.declared.Job.{Job}
use Rattle.laws.proofs.Batch.{records_fit, turns_append, records_append, turns_length, laid_append}

-- ---- the refusals of the whole call

-- the jobs looked at so far, and one more
pub every_one : (f : batch.Job → Bool) (js : List Job) (i : ℕ) (d : Job) → i < length js → every f (map job_of (take i js)) ≡ true
    → f (job_of (get_or js i d)) ≡ true → every f (map job_of (take (suc i) js)) ≡ true
unfolding every
every_one f [] i d h p q = absurd (omega arith)
every_one f (j ∷ js) zero d h p q = rw q refl
every_one f (j ∷ js) (suc i) d h p q = go (f (job_of j)) p (every_one f js i d (omega arith))
  where
    go : (b : Bool) → (b && every f (map job_of (take i js))) ≡ true
        → (every f (map job_of (take i js)) ≡ true → f (job_of (get_or js i d)) ≡ true → every f (map job_of (take (suc i) js)) ≡ true)
        → (b && every f (map job_of (take (suc i) js))) ≡ true
    go true x k = k x q
    go false x k = x

-- one job that is not right is enough
pub not_every : (f : batch.Job → Bool) (js : List Job) (i : ℕ) (d : Job) → i < length js → f (job_of (get_or js i d)) ≡ false
    → every f (map job_of js) ≡ false
unfolding every
not_every f [] i d h q = absurd (omega arith)
not_every f (j ∷ js) zero d h q = rw q refl
not_every f (j ∷ js) (suc i) d h q = rw (not_every f js i d (omega arith) q) (and_false (f (job_of j)))
  where
    and_false : (b : Bool) → (b && false) ≡ false
    and_false true = refl
    and_false false = refl

-- what holds of all holds of each
every_at : (f : batch.Job → Bool) (js : List Job) (k : ℕ) (d : Job) → k < length js → T (every f (map job_of js))
    → T (f (job_of (get_or js k d)))
unfolding every
every_at f [] k d h t = absurd (omega arith)
every_at f (j ∷ js) zero d h t = and_l (f (job_of j)) _ t
every_at f (j ∷ js) (suc k) d h t = every_at f js k d (omega arith) (and_r (f (job_of j)) _ t)

filled_append : (js ks : List Job) (ts us : List Turn) → length js ≡ length ts → filled (js ++ ks) (ts ++ us) ≡ filled js ts ++ filled ks us
unfolding filled
filled_append [] ks [] us h = refl
filled_append [] ks (t ∷ ts) us h = absurd (omega arith)
filled_append (j ∷ js) ks [] us h = absurd (omega arith)
filled_append (j ∷ js) ks (t ∷ ts) us h = ap (answered j t ∷◌) (filled_append js ks ts us (suc_inj h))

filled_length : (js : List Job) (ts : List Turn) → length js ≡ length ts → length (filled js ts) ≡ length js
unfolding filled
filled_length [] ts h = refl
filled_length (j ∷ js) [] h = absurd (omega arith)
filled_length (j ∷ js) (t ∷ ts) h = ap suc (filled_length js ts (suc_inj h))

-- one more answer behind the records that are laid already
laid_at_lem : (r os : List ℕ) (a : definition.Answer) → laid_at a (laid (ok r) os) (length r) ≡ laid (ok (r ++ record_of a)) os
unfolding laid record_of
laid_at_lem r os (ok u) = sym (laid_append r u os)
laid_at_lem r os (no n) = rw (take-append_seam, drop-append_seam, append-nil) refl
laid_at_lem r os (miscount w g) = rw (take-append_seam, drop-append_seam, append-nil) refl

laid_length : (r os : List ℕ) → length r ≤ length os → length (laid (ok r) os) ≡ length os
unfolding laid
laid_length r os h = front_keeps r os h

refusal_is : (b c : Bool) (ts : List Turn) → refusal_of (need b 23 >> (need c 24 >> ok ts)) ≡ cond b (cond c 0 24) 23
unfolding refusal_of
refusal_is true true ts = refl
refusal_is true false ts = refl
refusal_is false c ts = refl

numbered : (b c : Bool) → ◌≡◌ {A = ℕ} (cond b (cond c 0 24) 23) 0 → T b × T c
numbered true true e = (tt, tt)
numbered true false e = absurd (omega arith)
numbered false c e = absurd (omega arith)

-- a call that is not refused has passed both tests
passed : (b c : Bool) → (need b 23 >> need c 24) ≡ ok tt → T b × T c
passed true true e = (tt, tt)
passed true false e = absurd (let z : ◌≡◌ {A = ℕ} 0 1 = cc in omega arith)
passed false c e = absurd (let z : ◌≡◌ {A = ℕ} 0 1 = cc in omega arith)

both_tests : (b c : Bool) (ts : List Turn) → (need b 23 >> (need c 24 >> ok ts)) ≡ ((need b 23 >> need c 24) >> ok ts)
both_tests true c ts = refl
both_tests false c ts = refl

module _ (s : List ℕ) (js₀ : List Job) (os₀ : List ℕ) where
  abbrev n : ℕ
  n = length js₀

  -- all jobs' parts are inside the slice
  abbrev pub insides : Bool
  insides = every (parts_inside (length s)) (map job_of js₀)

  -- the turns of all jobs
  abbrev all : List Turn
  all = turns s (map job_of js₀) 0 (length os₀)

  batch_is : batch_turns s (map job_of js₀) (length os₀) ≡ (judgement (length s) js₀ >> ok all)
  unfolding batch_turns
  batch_is = rw length-map (both_tests (leb n 256) insides all)

  -- the refusal of the whole call, or 0
  abbrev pub refused : ℕ
  refused = refusal_of (batch_turns s (map job_of js₀) (length os₀))

  pub not_refused : refused ≡ 0 → T (leb n 256) × T insides
  unfolding batch_turns
  not_refused e = numbered (leb n 256) insides (sym (rw length-map (refusal_is (leb n 256) insides all)) ∙ e)

  pub tests : judgement (length s) js₀ ≡ ok tt → T (leb n 256) × T insides
  tests e = passed (leb n 256) insides e

  -- ---- the loop

  -- the turns of the first k jobs
  abbrev firsts : ℕ → List Turn
  firsts k = turns s (map job_of (take k js₀)) 0 (length os₀)

  pub record Done (k at : ℕ) (js : List Job) (os : List ℕ) : Type 0 where
    pub place : at ≡ length (records (firsts k))
    pub jobs : js ≡ filled (take k js₀) (firsts k) ++ drop k js₀
    pub out : os ≡ laid (ok (records (firsts k))) os₀

  pub done_none : Done 0 0 js₀ os₀
  unfolding turns records filled laid
  done_none = record { place = refl; jobs = refl; out = refl }

  module _ (k at : ℕ) (js : List Job) (os : List ℕ) (d : Job) (within : k < n) (h : Done k at js os) where
    abbrev j : Job
    j = get_or js k d

    -- its entry as it was at first
    abbrev j₀ : Job
    j₀ = get_or js₀ k d

    -- what was written so far
    abbrev r : List ℕ
    r = records (firsts k)

    -- the turn of job k
    abbrev turn : Turn
    turn = record { answer = alone s (job_of j₀) (length os₀ - length r); start = length r }

    fits : length r ≤ length os₀
    fits = omega (arith, records_fit s (map job_of (take k js₀)) 0 (length os₀) (omega arith))

    firsts_suc : firsts (suc k) ≡ firsts k ++ (turn ∷ [])
    unfolding turns
    firsts_suc = rw (take-suc js₀ k d, map-append, turns_append, zero-add) refl

    records_suc : records (firsts (suc k)) ≡ r ++ record_of turn.answer
    unfolding records
    records_suc = rw (firsts_suc, records_append, append-nil) refl

    -- the entries that have their answers
    abbrev front : List Job
    front = filled (take k js₀) (firsts k)

    as_many : length (take k js₀) ≡ length (firsts k)
    as_many = rw (turns_length, length-map) refl

    front_long : length front ≡ k
    front_long = filled_length (take k js₀) (firsts k) as_many ∙ length-take-le k js₀ (omega arith)

    same_job : j ≡ j₀
    same_job = rw (h.jobs, drop-cons js₀ k d) (get_or_at front j₀ (drop (suc k) js₀) d k front_long)

    same_length : length os ≡ length os₀
    same_length = ap length h.out ∙ laid_length r os₀ fits

    -- the three parts of `Done`, one turn later
    filled_suc : set js k (answered j₀ turn) ≡ filled (take (suc k) js₀) (firsts (suc k)) ++ drop (suc k) js₀
    unfolding filled
    filled_suc =
        rw (h.jobs, drop-cons js₀ k d, set_at front j₀ (drop (suc k) js₀) (answered j₀ turn) k front_long)
        (rw (firsts_suc, take-suc js₀ k d, filled_append (take k js₀) (j₀ ∷ []) (firsts k) (turn ∷ []) as_many, append_assoc) refl)

    laid_suc : laid_at turn.answer os (length r) ≡ laid (ok (records (firsts (suc k)))) os₀
    laid_suc = rw (h.out, records_suc) (laid_at_lem r os₀ turn.answer)

    pub done_one : Done (suc k) (step_of s j (length os) at).next (set js k (step_of s j (length os) at).job)
        (laid_at (alone_at s (job_of j) os at) os at)
    done_one = rw (same_job, same_length, h.place) (record {
      place = rw (records_suc, length-append) refl;
      jobs = filled_suc;
      out = laid_suc;
    })

    -- a call that is not refused has seen to what is asked of each job
    pub ready : judgement (length s) js₀ ≡ ok tt → Ready s j os at
    ready e = (rw same_job (every_at (parts_inside (length s)) js₀ k d within (tests e).1), rw (same_length, h.place) fits)

  -- ---- the call

  -- what the call owes where its turns are x
  Owes : Result (List Turn) → Answer → List Job → List ℕ → Type 0
  Owes x r js os = Records (x >>= λ t. ok (records t)) os₀ r os × (js ≡ listed x js₀)

  owed : {x : Result (List Turn)} {r : Answer} {js : List Job} {os : List ℕ} → batch_turns s (map job_of js₀) (length os₀) ≡ x
      → Owes x r js os → Batched s js₀ os₀ r js os
  unfolding Owes batch_answer
  owed {r = a} {js} {os} e h = let o = subst (λ (y : Result (List Turn)). Owes y a js os) (sym e) h in record { answers = o.0; lists = o.1 }

  pub done_all : (at : ℕ) (js : List Job) (os : List ℕ) → judgement (length s) js₀ ≡ ok tt → Done n at js os
      → Batched s js₀ os₀ (numbers 0 at 0 0) js os
  unfolding Owes refusal_of value_of wanted_of given_of listed
  done_all at js os e h = owed (batch_is ∙ ap (λ (y : Result (Unit {0})). y >> ok all) e) (
    record { numbers = ap (λ (m : ℕ). numbers 0 m 0 0) (rw take-length at h.place); leaves = rw take-length at h.out },
    rw (take-length, drop-length, append-nil) at h.jobs,
  )

  refused_owed : (x : Refusal) → Owes (refusal x) (refused_numbers x) js₀ os₀
  unfolding Owes refusal_of value_of wanted_of given_of laid listed
  refused_owed x = go x (told x)
    where
      go : (y : Refusal) → Told y → Owes (refusal y) (refused_numbers y) js₀ os₀
      go y (plain e) = rw (e (List Turn), e ℕ) (record { numbers = refl; leaves = refl }, refl)
      go _ (counted w g) = (record { numbers = refl; leaves = refl }, refl)

  pub refused_all : (x : Refusal) → judgement (length s) js₀ ≡ refusal x → Batched s js₀ os₀ (refused_numbers x) js₀ os₀
  refused_all x e = owed (batch_is ∙ (ap (λ (y : Result (Unit {0})). y >> ok all) e ∙ no_after (Unit {0}) x (ok all))) (refused_owed x)
