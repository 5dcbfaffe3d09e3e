-- A batch of jobs: its records fit the buffer and stand one after another at the places that the answers name, where
-- they are read back as the values; the batch of two lists of jobs is that of the first and then that of the second on
-- what is left; the batch of one job is the call.
use mathlib.Core.Path.{◌≡◌, refl, sym, ap, ◌∙◌}
use mathlib.Core.Option.{some}
use mathlib.Core.List.{List, [], ◌∷◌, ◌++◌, map, append_assoc, append-nil, nil≢cons, head-eq_of_cons-eq, tail-eq_of_cons-eq}
use mathlib.Core.Bool.{Bool, true, false, ◌&&◌}
use Prim.Native.Nat.{ℕ, suc, ◌+◌, ◌-◌, ◌≤◌}
use native.Mathlib.Omega.{arith}
use native.Mathlib.Nat.{add-zero, zero-add, add_assoc, sub-zero}
use lib.Dec.{T, leb, leb→le, le→leb}
use lib.ListN.{length, take, drop, get_elem?, length-append}
use lib.Seq.{take-append_seam, drop-append_seam, drop-drop}
use Rattle.meaning.specs.Trees.{Ty, Val, Of, type_of}
use Rattle.meaning.specs.Answers.{Result, ok, no, miscount, Answer, need, ◌>>◌, ◌>>=◌}
use Rattle.meaning.specs.Records.{val_bytes, joined, every, good_val, good_ty, good_arg, good_tys, good_args, shaped_val}
use Rattle.meaning.specs.Read.{read_vals}
use Rattle.meaning.specs.Entries.{laid}
use Rattle.meaning.specs.Batch.{Job, part, parts_inside, alone, record_of, Turn, turns, records, batch_turns, batch_answer}
use Rattle.laws.proofs.AgreeConv.{true_of, every_append}
use Rattle.laws.proofs.Back.{and_r}
use Rattle.laws.proofs.Exact.{vals_exact}
use Rattle.laws.proofs.Handed.{building, front_keeps}
use Rattle.laws.proofs.Named.{ok_inj, no_ok}
use Rattle.laws.proofs.Same.{both}

-- ---- what is written fits

record_length : (left : ℕ) (a : Answer) → ((r : List ℕ) → a ≡ ok r → length r ≤ left) → length (record_of a) ≤ left
unfolding record_of
record_length left (ok r) h = h r refl
record_length left (no n) h = omega arith
record_length left (miscount w g) h = omega arith

-- a job writes no more than the buffer has left
pub record_fits : (s : List ℕ) (j : Job) (left : ℕ) → length (record_of (alone s j left)) ≤ left
unfolding alone
record_fits s j left = record_length left _ (λ r e. (building j.stage (part s j.target) (part s j.args) left r e).fits)

-- the records of a batch, behind what is taken already, reach no further than the buffer
pub records_fit : (s : List ℕ) (l : List Job) (at room : ℕ) → at ≤ room → at + length (records (turns s l at room)) ≤ room
unfolding turns records
records_fit s [] at room h = omega arith
records_fit s (j ∷ l) at room h =
    let k : ℕ = length (record_of (alone s j (room - at))) in
    let f : k ≤ room - at = record_fits s j (room - at) in
    rw length-append (omega (arith, records_fit s l (at + k) room (omega arith)))

-- as many turns as jobs
pub turns_length : (s : List ℕ) (l : List Job) (at room : ℕ) → length (turns s l at room) ≡ length l
unfolding turns
turns_length s [] at room = refl
turns_length s (j ∷ l) at room = ap suc (turns_length s l _ room)

-- ---- two lists of jobs: the turns and the buffer

-- the records of some turns and then others are their records one after another
pub records_append : (t u : List Turn) → records (t ++ u) ≡ records t ++ records u
unfolding records
records_append [] u = refl
records_append (x ∷ t) u = rw append_assoc (ap (record_of x.answer ++◌) (records_append t u))

-- a job's turn follows from the jobs before it alone, and the turns of a second list from what the first one's records take
pub turns_append : (s : List ℕ) (l m : List Job) (at room : ℕ)
    → turns s (l ++ m) at room ≡ turns s l at room ++ turns s m (at + length (records (turns s l at room))) room
unfolding turns records
turns_append s [] m at room = rw add-zero
turns_append s (j ∷ l) m at room =
    let a : Answer = alone s j (room - at) in
    rw (length-append, ← add_assoc) (ap (record { answer = a; start = at } ∷◌) (turns_append s l m (at + length (record_of a)) room))

-- the same answer, k bytes further on
unfoldable pub moved : ℕ → Turn → Turn
moved k t = record { answer = t.answer; start = k + t.start }

-- turns behind k bytes are the turns in a buffer that is shorter by k, moved
pub turns_moved : (s : List ℕ) (l : List Job) (k at room : ℕ) → turns s l (k + at) room ≡ map (moved k) (turns s l at (room - k))
unfolding turns moved
turns_moved s [] k at room = refl
turns_moved s (j ∷ l) k at room =
    let e : room - (k + at) ≡ room - k - at = omega arith in
    rw (e, add_assoc) (ap (record { answer = alone s j (room - k - at); start = k + at } ∷◌)
    (turns_moved s l k (at + length (record_of (alone s j (room - k - at)))) room))

-- what is written is the same wherever it begins
pub records_moved : (k : ℕ) (t : List Turn) → records (map (moved k) t) ≡ records t
unfolding records moved
records_moved k [] = refl
records_moved k (x ∷ t) = ap (record_of x.answer ++◌) (records_moved k t)

-- the turns of l ++ m are those of l, and then those of m in a buffer of what is left, moved behind the records of l
pub turns_then : (s : List ℕ) (l m : List Job) (room : ℕ)
    → turns s (l ++ m) 0 room ≡ turns s l 0 room ++ map (moved (length (records (turns s l 0 room))))
    (turns s m 0 (room - length (records (turns s l 0 room))))
turns_then s l m room =
    let k : ℕ = length (records (turns s l 0 room)) in
    turns_append s l m 0 room ∙ rw (← turns_moved s m k 0 room, zero-add, add-zero)

-- a record behind a record: the second is laid into what the first one leaves
pub laid_append : (r y out : List ℕ) → laid (ok (r ++ y)) out ≡ take (length r) (laid (ok r) out) ++ laid (ok y)
    (drop (length r) (laid (ok r) out))
unfolding laid
laid_append r y out = rw (take-append_seam, drop-append_seam, drop-drop, length-append, append_assoc)

-- the buffer that the batch of l ++ m leaves: the first k bytes are as the batch of l leaves them, and the others as
-- the batch of m leaves them, lent the rest
pub laid_then : (s : List ℕ) (l m : List Job) (out : List ℕ) →
    let x = turns s l 0 (length out) in
    let k = length (records x) in
    let out₁ = laid (ok (records x)) out in
    laid (ok (records (turns s (l ++ m) 0 (length out)))) out ≡ take k out₁ ++ laid (ok (records (turns s m 0 (length out - k))))
    (drop k out₁)
laid_then s l m out = rw (turns_then, records_append, records_moved, laid_append)

-- ---- two lists of jobs: the call

-- an accepted batch has at most 256 jobs, all their parts are inside the slice, and its answers are their turns
pub record Accepted (s : List ℕ) (l : List Job) (room : ℕ) (ts : List Turn) : Type 0 where
  pub few : length l ≤ 256
  pub within : T (every (parts_inside (length s)) l)
  pub are : turns s l 0 room ≡ ts

-- what the two tests say
passed : (a b : Bool) (t u : List Turn) → (need a 23 >> (need b 24 >> ok t)) ≡ ok u → T a × T b × (t ≡ u)
passed true true t u h = (tt, tt, ok_inj h)
passed true false t u h = no_ok h
passed false b t u h = no_ok h

-- a batch with an answer for each job is accepted so
pub accepted : (s : List ℕ) (l : List Job) (room : ℕ) (ts : List Turn) → batch_turns s l room ≡ ok ts → Accepted s l room ts
unfolding batch_turns
accepted s l room ts h =
    let p = passed (leb (length l) 256) (every (parts_inside (length s)) l) (turns s l 0 room) ts h in
    record { few = leb→le (length l) 256 p.0; within = p.1; are = p.2 }

-- and one that is accepted so has them
pub accepts : (s : List ℕ) (l : List Job) (room : ℕ) (ts : List Turn) → Accepted s l room ts → batch_turns s l room ≡ ok ts
unfolding batch_turns
accepts s l room ts a =
    rw (true_of (leb (length l) 256) (le→leb (length l) 256 a.few), true_of (every (parts_inside (length s)) l) a.within)
    (ap ok a.are)

-- the batch of l ++ m, if it is not too many jobs, answers as the batch of l and then that of m on what is left, moved
-- behind the records of l
pub batch_then : (s : List ℕ) (l m : List Job) (room : ℕ) (x y : List Turn) → batch_turns s l room ≡ ok x
    → batch_turns s m (room - length (records x)) ≡ ok y
    → length (l ++ m) ≤ 256 → batch_turns s (l ++ m) room ≡ ok (x ++ map (moved (length (records x))) y)
batch_then s l m room x y g h n =
    let a = accepted s l room x g in
    let b = accepted s m (room - length (records x)) y h in
    let w : T (every (parts_inside (length s)) (l ++ m)) = rw every_append
    (both (every (parts_inside (length s)) l) (every (parts_inside (length s)) m) a.within b.within) in
    accepts s (l ++ m) room _ (record { few = n; within = w; are = turns_then s l m room ∙ rw (a.are, b.are) })

-- and leaves the buffer so: the first k bytes are as the batch of l leaves them, and the others as the batch of m then
-- leaves them, lent those
pub batch_then_laid : (s : List ℕ) (l m : List Job) (out : List ℕ) (x y : List Turn) →
    let k = length (records x) in
    let out₁ = laid (batch_answer s l (length out)) out in
    batch_turns s l (length out) ≡ ok x → batch_turns s m (length out - k) ≡ ok y → length (l ++ m) ≤ 256
    → laid (batch_answer s (l ++ m) (length out)) out ≡ take k out₁ ++ laid (batch_answer s m (length out - k)) (drop k out₁)
unfolding batch_answer
batch_then_laid s l m out x y g h n = rw (batch_then s l m (length out) x y g h n, g, h, records_append, records_moved, laid_append)

-- what an accepted batch leaves in the buffer
batch_laid : (s : List ℕ) (l : List Job) (room : ℕ) (ts : List Turn) (out : List ℕ) → batch_turns s l room ≡ ok ts
    → laid (batch_answer s l room) out ≡ laid (ok (records ts)) out
unfolding batch_answer
batch_laid s l room ts out h = rw h

-- a refused batch leaves the buffer as it was
pub refused_whole : (s : List ℕ) (l : List Job) (room n : ℕ) (out : List ℕ) → batch_turns s l room ≡ no n
    → laid (batch_answer s l room) out ≡ out
unfolding batch_answer laid
refused_whole s l room n out h = rw h

-- ---- no job, and one

-- no jobs at all: an accepted call that writes nothing
pub batch_none : (s : List ℕ) (room : ℕ) → batch_turns s [] room ≡ ok []
unfolding batch_turns every turns
batch_none s room = refl

-- and leaves the buffer as it was
pub laid_none : (s : List ℕ) (room : ℕ) (out : List ℕ) → laid (batch_answer s [] room) out ≡ out
unfolding batch_turns batch_answer every turns records laid
laid_none s room out = refl

-- one job, whose parts are inside the slice: it answers as it does alone, and its record begins the buffer
pub batch_one : (s : List ℕ) (j : Job) (room : ℕ) → T (parts_inside (length s) j)
    → batch_turns s (j ∷ []) room ≡ ok (record { answer = alone s j room; start = 0 } ∷ [])
unfolding every turns
batch_one s j room h = accepts s (j ∷ []) room _ (record {
  few = omega arith;
  within = both (parts_inside (length s) j) true h tt;
  are = rw sub-zero;
})

laid_record : (a : Answer) (out : List ℕ) → laid (ok (record_of a ++ [])) out ≡ laid a out
unfolding laid record_of
laid_record (ok r) out = rw append-nil
laid_record (no n) out = refl
laid_record (miscount w g) out = refl

-- and the buffer is left as the call of that job leaves it
pub laid_one : (s : List ℕ) (j : Job) (out : List ℕ) → T (parts_inside (length s) j)
    → laid (batch_answer s (j ∷ []) (length out)) out ≡ laid (alone s j (length out)) out
unfolding records
laid_one s j out h = batch_laid s (j ∷ []) (length out) _ out (batch_one s j (length out) h) ∙ laid_record (alone s j (length out)) out

-- ---- where the records stand

-- a turn of a batch, behind the turns `before`: it begins where their records end, and answers as the job at its place
-- in the list does alone on what is left
pub record TurnOf (s : List ℕ) (l : List Job) (at room : ℕ) (before : List Turn) (t : Turn) : Type 0 where
  pub job : Job
  pub listed : get_elem? l (length before) ≡ some job
  pub place : t.start ≡ at + length (records before)
  pub answers : t.answer ≡ alone s job (room - t.start)

pub turn_of : (s : List ℕ) (l : List Job) (at room : ℕ) (before : List Turn) (t : Turn) (after : List Turn)
    → turns s l at room ≡ before ++ (t ∷ after) → TurnOf s l at room before t
unfolding turns records
turn_of s [] at room [] t after h = absurd (nil≢cons h)
turn_of s [] at room (b ∷ before) t after h = absurd (nil≢cons h)
turn_of s (j ∷ l) at room [] t after h =
    let e = head-eq_of_cons-eq h in
    record { job = j; listed = refl; place = rw (← e, add-zero); answers = rw (← e) }
turn_of s (j ∷ l) at room (b ∷ before) t after h =
    let i = turn_of s l (at + length (record_of (alone s j (room - at)))) room before t after (tail-eq_of_cons-eq h) in
    record {
      job = i.job;
      listed = i.listed;
      place = rw (← head-eq_of_cons-eq h, length-append, ← add_assoc) i.place;
      answers = i.answers;
    }

-- the record of a well-formed value, read as the argument of a constructor of any type
one_back : (u : Ty) (v : Val) (r : List ℕ) → T (good_val v) → r ≡ val_bytes v → read_vals (Of u) r ≡ some (v ∷ [])
unfolding joined good_args good_tys good_arg every good_val
one_back u v r g e =
    let h : T (good_ty (type_of v) && true) = both (good_ty (type_of v)) true (and_r (shaped_val v) (good_ty (type_of v)) g) tt in
    rw (e, ← append-nil (val_bytes v)) ((vals_exact (Of u)).back (v ∷ [])
    (both (good_val v && true) (good_tys (Of u) (type_of v ∷ [])) (both (good_val v) true g tt) (both (good_ty (type_of v) && true) true h tt)))

middle : (b r a d : List ℕ) → take (length r) (drop (length b) ((b ++ (r ++ a)) ++ d)) ≡ r
middle b r a d = rw (append_assoc, drop-append_seam, append_assoc, take-append_seam)

-- an accepted record r of the turn t, behind the turns `before`, in the buffer that the call leaves: it stands at the
-- place that the turn names, which is where the records before it end, it is all of the record of a well-formed value,
-- and read as an argument it is that value
pub record Stands (out : List ℕ) (before : List Turn) (t : Turn) (r : List ℕ) : Type 0 where
  pub place : t.start ≡ length (records before)
  pub there : take (length r) (drop t.start out) ≡ r
  pub value : Val
  pub good : T (good_val value)
  pub is : r ≡ val_bytes value
  pub back : (u : Ty) → read_vals (Of u) r ≡ some (value ∷ [])

-- every accepted record of an accepted batch stands so
pub stands : (s : List ℕ) (l : List Job) (out : List ℕ) (before : List Turn) (t : Turn) (after : List Turn) (r : List ℕ)
    → batch_turns s l (length out) ≡ ok (before ++ (t ∷ after)) → t.answer ≡ ok r
    → Stands (laid (batch_answer s l (length out)) out) before t r
unfolding alone laid records record_of
stands s l out before t after r h e =
    let i = turn_of s l 0 (length out) before t after (accepted s l (length out) _ h).are in
    let w = building i.job.stage (part s i.job.target) (part s i.job.args) (length out - t.start) r (sym i.answers ∙ e) in
    record {
      place = i.place ∙ zero-add _;
      there = rw (batch_laid s l (length out) _ out h, records_append, e, i.place, zero-add) (middle (records before) r (records after) _);
      value = w.value;
      good = w.good;
      is = w.is;
      back = λ u. one_back u w.value r w.good w.is;
    }

-- the buffer keeps its length
pub batch_keeps : (s : List ℕ) (l : List Job) (out : List ℕ) → length (laid (batch_answer s l (length out)) out) ≡ length out
unfolding batch_answer laid
batch_keeps s l out = go (batch_turns s l (length out)) refl
  where
    go : (x : Result (List Turn)) → batch_turns s l (length out) ≡ x → length (laid (x >>= λ t. ok (records t)) out) ≡ length out
    go (ok ts) e =
        front_keeps (records ts) out (rw ((accepted s l (length out) ts e).are, zero-add) at (records_fit s l 0 (length out) (omega arith)))
    go (no n) e = refl
    go (miscount w g) e = refl
