-- What a caller has of an accepted call, by what it returned and left alone: where an entry of the list tells of a
-- record, that record stands in the buffer at the place that the entry names, and is read back as a value.
use mathlib.Core.Path.{◌≡◌, refl, sym, ap, ◌∙◌, subst}
use mathlib.Core.Option.{some}
use mathlib.Core.List.{List, [], ◌∷◌, ◌++◌, map, nil≢cons, head-eq_of_cons-eq, tail-eq_of_cons-eq}
use Prim.Native.Nat.{ℕ, ◌≤◌}
use native.Mathlib.Omega.{arith}
use lib.Dec.{T, leb→le}
use lib.ListN.{length, take, drop, length-map}
use Rattle.meaning.specs.Trees.{Ty, Val, Of}
use Rattle.meaning.specs.Answers.{Result, ok, no, miscount, refusal_of, ◌>>=◌}
use Rattle.meaning.specs.Answers as definition
use Rattle.meaning.specs.Records.{val_bytes, good_val}
use Rattle.meaning.specs.Read.{read_vals}
use Rattle.meaning.specs.Batch.{Turn, turns, records, batch_turns, batch_answer}
use Rattle.laws.proofs.Batch.{accepts, stands}
use Rattle.error.specs.Numbers.{value_of}
use Rattle.error.specs.declared.Answer.{Answer}
use Rattle.call_batch.specs.Jobs.{job_of, answered, filled, listed, Batched}
use Rattle.call_batch.specs.declared.Job.{Job}
use Rattle.call_batch.proofs.Turns.{refused, not_refused}

-- the bytes that an entry names in a buffer are the whole record of a well-formed value, and read as an argument they are that value
pub record RecordAt (out : List ℕ) (e : Job) : Type 0 where
  pub value : Val
  pub good : T (good_val value)
  pub there : take e.answer.value (drop e.at out) ≡ val_bytes value
  pub back : (u : Ty) → read_vals (Of u) (take e.answer.value (drop e.at out)) ≡ some (value ∷ [])

-- ---- an entry and its turn

record TurnOf (ts : List Turn) (e : Job) : Type 0 where
  before : List Turn
  turn : Turn
  after : List Turn
  job : Job
  are : ts ≡ before ++ (turn ∷ after)
  is : e ≡ answered job turn

turn_of : (js : List Job) (ts : List Turn) (b : List Job) (e : Job) (a : List Job) → filled js ts ≡ b ++ (e ∷ a) → TurnOf ts e
unfolding filled
turn_of [] ts [] e a h = absurd (nil≢cons h)
turn_of [] ts (x ∷ b) e a h = absurd (nil≢cons h)
turn_of (j ∷ js) [] [] e a h = absurd (nil≢cons h)
turn_of (j ∷ js) [] (x ∷ b) e a h = absurd (nil≢cons h)
turn_of (j ∷ js) (t ∷ ts) [] e a h = record { before = []; turn = t; after = ts; job = j; are = refl; is = sym (head-eq_of_cons-eq h) }
turn_of (j ∷ js) (t ∷ ts) (x ∷ b) e a h =
    let i = turn_of js ts b e a (tail-eq_of_cons-eq h) in
    record { before = t ∷ i.before; turn = i.turn; after = i.after; job = i.job; are = ap (t ∷◌) i.are; is = i.is }

-- a job that wrote something was accepted
record Wrote (x : definition.Answer) : Type 0 where
  bytes : List ℕ
  is : x ≡ ok bytes

wrote : (x : definition.Answer) → 1 ≤ value_of length x → Wrote x
unfolding value_of
wrote (ok r) h = record { bytes = r; is = refl }
wrote (no n) h = absurd (omega arith)
wrote (miscount w g) h = absurd (omega arith)

value_of_lem : (x : definition.Answer) (r : List ℕ) → x ≡ ok r → value_of length x ≡ length r
unfolding value_of
value_of_lem x r e = rw e

-- ---- a call that is not refused

refusal_through : (x : Result (List Turn)) → refusal_of (x >>= λ t. ok (records t)) ≡ refusal_of x
unfolding refusal_of
refusal_through (ok t) = refl
refusal_through (no n) = refl
refusal_through (miscount w g) = refl

module _ {s : List ℕ} {js : List Job} {out : List ℕ} {r : Answer} {js' : List Job} {out' : List ℕ} (b : Batched s js out r js' out')
    (accepted : r.refusal ≡ 0) where
  no_refusal : refused s js out ≡ 0
  unfolding batch_answer
  no_refusal = sym (refusal_through (batch_turns s (map job_of js) (length out)))
      ∙ sym (ap (λ (x : Answer). x.refusal) b.answers.numbers) ∙ accepted

  are_turns : batch_turns s (map job_of js) (length out) ≡ ok (turns s (map job_of js) 0 (length out))
  are_turns =
      let p = not_refused s js out no_refusal in
      accepts s (map job_of js) (length out) _ (record { few = rw length-map (leb→le (length js) 256 p.0); within = p.1; are = refl })

  list_is : js' ≡ filled js (turns s (map job_of js) 0 (length out))
  unfolding listed
  list_is = b.lists ∙ ap (λ (x : Result (List Turn)). listed x js) are_turns

  -- an entry that tells of a record
  pub entry_told : (l : List Job) (e : Job) (m : List Job) → js' ≡ l ++ (e ∷ m) → 1 ≤ e.answer.value → RecordAt out' e
  entry_told l e m h v =
      let t = turn_of js (turns s (map job_of js) 0 (length out)) l e m (sym list_is ∙ h) in
      let w = wrote t.turn.answer (subst (λ (x : Job). 1 ≤ x.answer.value) t.is v) in
      let q = stands s (map job_of js) out t.before t.turn t.after w.bytes (are_turns ∙ ap ok t.are) w.is in
      let f : take e.answer.value (drop e.at out') ≡ w.bytes =
      ap (λ (x : Job). take x.answer.value (drop x.at out')) t.is
      ∙ ap (λ (n : ℕ). take n (drop t.turn.start out')) (value_of_lem t.turn.answer w.bytes w.is)
      ∙ ap (λ (o : List ℕ). take (length w.bytes) (drop t.turn.start o)) b.answers.leaves ∙ q.there in
      record {
        value = q.value;
        good = q.good;
        there = f ∙ q.is;
        back = λ u. subst
            (λ (x : List ℕ). read_vals (Of u) x ≡ some (q.value ∷ [])) (sym f) (q.back u);
      }
