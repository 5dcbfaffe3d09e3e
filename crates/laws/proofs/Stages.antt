-- Document 02, request 03: "A user who folds the same literals at Const and Override gets one result." A stage decides
-- whether ranges are checked and nothing else, so two stages that check alike build alike: on trees, over bytes, and in
-- a batch.
use mathlib.Core.Path.{◌≡◌, refl, ap, fun_ext}
use mathlib.Core.List.{List, [], ◌∷◌, map}
use mathlib.Core.Bool.{◌&&◌}
use Prim.Native.Nat.{ℕ, zero, suc, ◌+◌, ◌-◌}
use lib.ListN.{length, length-map}
use Rattle.meaning.specs.Kinds.{Kind, bool, aint, afloat, i32, u32, f32, f16}
use Rattle.meaning.specs.Scalars.{Stage, Const, Override, checked, ctor_test}
use Rattle.meaning.specs.Trees.{Ty, Ts, Tv, Tm, Ta, Tu, Val, Vs, Vv, Vm, Va, Vu, Target, Of, Tr, Qa, Qv, Qm}
use Rattle.meaning.specs.Answers.{Result, or_no, all, ◌>>=◌}
use Rattle.meaning.specs.Records.{every}
use Rattle.meaning.specs.Read.{read_target, read_vals}
use Rattle.meaning.specs.Build.{ctor_lit, scalar_of, vec_one, mat_one, build_one, build}
use Rattle.meaning.specs.Entries.{stage_of, hand_val, build_answer, run_ctor}
use Rattle.meaning.specs.Batch.{Job, parts_inside, alone, record_of, turns, batch_turns}

-- ---- two stages that check alike

module _ (s r : Stage) (e : checked s ≡ checked r) where
  literal : (k j : Kind) (p : ℕ) → ctor_lit s k j p ≡ ctor_lit r k j p
  unfolding ctor_lit ctor_test
  literal bool j p = refl
  literal aint j p = refl
  literal afloat j p = refl
  literal i32 j p = refl
  literal u32 j p = refl
  literal f32 j p = rw e
  literal f16 j p = rw e

  literals : (k j : Kind) (ps : List ℕ) → all (ctor_lit s k j) ps ≡ all (ctor_lit r k j) ps
  literals k j ps = ap (λ (f : ℕ → Result ℕ). all f ps) (fun_ext (literal k j))

  scalar : (k : Kind) (v : Val) → scalar_of s k v ≡ scalar_of r k v
  unfolding scalar_of
  scalar k (Vs j p) = rw (literal k j p)
  scalar k (Vv j ps) = refl
  scalar k (Vm c n j ps) = refl
  scalar k (Va l) = refl
  scalar k (Vu i l) = refl

  vector : (n : ℕ) (k : Kind) (v : Val) → vec_one s n k v ≡ vec_one r n k v
  unfolding vec_one
  vector n k (Vs j p) = refl
  vector n k (Vv j ps) = rw (literals k j ps)
  vector n k (Vm c m j ps) = refl
  vector n k (Va l) = refl
  vector n k (Vu i l) = refl

  matrix : (c n : ℕ) (k : Kind) (v : Val) → mat_one s c n k v ≡ mat_one r c n k v
  unfolding mat_one
  matrix c n k (Vs j p) = refl
  matrix c n k (Vv j ps) = refl
  matrix c n k (Vm a b j ps) = rw (literals k j ps)
  matrix c n k (Va l) = refl
  matrix c n k (Vu i l) = refl

  one : (t : Ty) (v : Val) → build_one s t v ≡ build_one r t v
  unfolding build_one
  one (Ts k) v = rw (scalar k v)
  one (Tv n k) v = vector n k v
  one (Tm c n k) v = matrix c n k v
  one (Ta n t) v = refl
  one (Tu i m) v = refl

  -- whatever the target and the arguments
  pub build_alike : (g : Target) (l : List Val) → build s g l ≡ build r g l
  unfolding build
  build_alike (Of t) [] = refl
  build_alike (Of t) (v ∷ []) = one t v
  build_alike (Of t) (v ∷ w ∷ l) = refl
  build_alike (Tr t) [] = refl
  build_alike (Tr t) (v ∷ l) = refl
  build_alike Qa [] = refl
  build_alike Qa (v ∷ l) = refl
  build_alike (Qv n) [] = refl
  build_alike (Qv n) (v ∷ []) = refl
  build_alike (Qv n) (v ∷ w ∷ l) = refl
  build_alike (Qm c n) [] = refl
  build_alike (Qm c n) (v ∷ []) = refl
  build_alike (Qm c n) (v ∷ w ∷ l) = refl

-- ---- Const and Override

-- for every target and argument list: the same value, or the same refusal
pub one_result : (g : Target) (l : List Val) → build Const g l ≡ build Override g l
unfolding checked
one_result = build_alike Const Override refl

-- the number of a stage, Const (0) in place of Override (1)
unfoldable pub at_const : ℕ → ℕ
at_const zero = 0
at_const (suc zero) = 0
at_const (suc (suc n)) = suc (suc n)

-- for all bytes and every buffer: the same record, or the same refusal, 3, 1, 2 and 22 among them
pub one_answer : (stage : ℕ) (target args : List ℕ) (room : ℕ) → build_answer (at_const stage) target args room ≡ build_answer stage target
    args room
unfolding at_const build_answer stage_of
one_answer zero target args room = refl
one_answer (suc zero) target args room =
    ap (λ (f : Target → List Val → Result Val). or_no 1 (read_target target) >>= λ g. or_no 2 (read_vals g args) >>= λ l. f g l >>= hand_val
    room)
    (fun_ext (λ g. fun_ext (one_result g)))
one_answer (suc (suc n)) target args room = refl

-- the program `ctor` prints the same line, whatever follows the stage byte
pub one_line : (s : List ℕ) → run_ctor (0 ∷ s) ≡ run_ctor (1 ∷ s)
unfolding run_ctor at_const
one_line s = rw (one_answer 1)

-- ---- a batch

-- the job with Const in place of Override
unfoldable pub job_at_const : Job → Job
job_at_const j = record { stage = at_const j.stage; target = j.target; args = j.args }

turns_alike : (s : List ℕ) (l : List Job) (at room : ℕ) → turns s (map job_at_const l) at room ≡ turns s l at room
unfolding turns alone job_at_const
turns_alike s [] at room = refl
turns_alike s (j ∷ l) at room =
    rw (one_answer j.stage) (ap (record { answer = alone s j (room - at); start = at } ∷◌)
    (turns_alike s l (at + length (record_of (alone s j (room - at)))) room))

inside_alike : (n : ℕ) (l : List Job) → every (parts_inside n) (map job_at_const l) ≡ every (parts_inside n) l
unfolding every parts_inside job_at_const
inside_alike n [] = refl
inside_alike n (j ∷ l) = ap (parts_inside n j &&◌) (inside_alike n l)

-- a batch in which Const stands in place of each Override is the same batch: its own refusal, every job's answer and
-- place, and so every byte that it writes
pub one_batch : (s : List ℕ) (l : List Job) (room : ℕ) → batch_turns s (map job_at_const l) room ≡ batch_turns s l room
unfolding batch_turns
one_batch s l room = rw (length-map, inside_alike (length s) l, turns_alike s l 0 room)
