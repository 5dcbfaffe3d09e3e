-- The four entries over bytes, what they leave in the lent buffer, and the line of the program `ctor`.
-- "Order: 3, 1, 2, then the order above, then 22."
use Rattle.std.proofs.Math.Option.{Option}
use Rattle.std.specs.Prelude.{List, [], ◌∷◌, ◌++◌, cond, ℕ, zero, suc, ◌+◌, ◌*◌, ◌/◌, ◌%◌, leb, ltb, length, take, drop, get_or}
use Rattle.std.proofs.Math.ListN.{get_elem?}
use Rattle.meaning.specs.Scalars.{Stage, Const, Override, Exec}
use Rattle.meaning.specs.Trees.{Ty, Val, Target, Of, Tr, Qa, Qv, Qm, type_of, val_len}
use Rattle.meaning.specs.Records.{ty_bytes, val_bytes}
use Rattle.meaning.specs.Read.{read_target, read_vals, read_tys}
use Rattle.meaning.specs.Answers.{Result, ok, no, miscount, Answer, ◌>>=◌, ◌>>◌, or_no, need}
use Rattle.meaning.specs.Convert.{rank, conv_val, conv_runtime}
use Rattle.meaning.specs.Build.{build}
use Rattle.meaning.specs.Typing.{typed}

-- "Stage: 0 Const, 1 Override, 2 Exec", "3 stage over 2"
unfoldable pub stage_of : ℕ → Option Stage
stage_of n = get_elem? (Const ∷ Override ∷ Exec ∷ []) n

-- the record of an accepted value or type, if the lent buffer takes it: "22 the accepted record is longer than the lent
-- buffer". The length follows from the type, without making the record, and is an exact number, so one past 64 bits is
-- longer than any buffer.
unfoldable pub hand_val : ℕ → Val → Answer
hand_val room v = need (leb (val_len (type_of v)) room) 22 >> ok (val_bytes v)

unfoldable pub hand_ty : ℕ → Ty → Answer
hand_ty room t = need (leb (length (ty_bytes t)) room) 22 >> ok (ty_bytes t)

-- building (`call_ctor`): stage, target, arguments, the length of the lent buffer
unfoldable pub build_answer : ℕ → List ℕ → List ℕ → ℕ → Answer
build_answer stage target args room = do
  s ← or_no 3 (stage_of stage)
  g ← or_no 1 (read_target target)
  l ← or_no 2 (read_vals g args)
  v ← build s g l
  hand_val room v

-- typing (`type_ctor`): target, argument types, the length of the lent buffer
unfoldable pub type_answer : List ℕ → List ℕ → ℕ → Answer
type_answer target args room = do
  g ← or_no 1 (read_target target)
  l ← or_no 2 (read_tys g args)
  t ← typed g l
  hand_ty room t

-- ---- the lent buffer at exit

-- "a refusal leaves the lent buffer untouched; a record fills the front of it and nothing past its end"
unfoldable pub laid : Answer → List ℕ → List ℕ
laid (ok s) out = s ++ drop (length s) out
laid (no n) out = out
laid (miscount w g) out = out

-- ---- conversion without a constructor

-- "where nothing converts they refuse with 9"; a shape was refused before
unfoldable pub conv_one : Target → Val → Result Val
conv_one (Of t) v = or_no 9 (conv_val t v)
conv_one (Tr t) v = or_no 9 (conv_runtime t (type_of v) v)
conv_one Qa v = no 1
conv_one (Qv n) v = no 1
conv_one (Qm c r) v = no 1

unfoldable pub rank_one : Target → Ty → Result ℕ
rank_one (Of t) a = or_no 9 (rank a t)
rank_one (Tr t) a = no 9
rank_one Qa a = no 1
rank_one (Qv n) a = no 1
rank_one (Qm c r) a = no 1

-- "these entries take a target record, not a shape (1)"
unfoldable pub type_target : Target → Result (Unit {0})
type_target (Of t) = ok tt
type_target (Tr t) = ok tt
type_target Qa = no 1
type_target (Qv n) = no 1
type_target (Qm c r) = no 1

-- "and one argument (another number of them is 2)"
unfoldable pub only : {A : Type 0} → List A → Result A
only [] = no 2
only (a ∷ []) = ok a
only (a ∷ b ∷ l) = no 2

-- `convert_to`: target, one value, the length of the lent buffer
unfoldable pub convert_answer : List ℕ → List ℕ → ℕ → Answer
convert_answer target args room = do
  g ← or_no 1 (read_target target)
  type_target g
  l ← or_no 2 (read_vals g args)
  v ← only l
  w ← conv_one g v
  hand_val room w

-- `conversion_rank`: target, one type
unfoldable pub rank_answer : List ℕ → List ℕ → Result ℕ
rank_answer target args = do
  g ← or_no 1 (read_target target)
  type_target g
  l ← or_no 2 (read_tys g args)
  a ← only l
  rank_one g a

-- ---- the program `ctor`: its standard input to its line

-- "the record in lower-case hex"
unfoldable pub hex_digit : ℕ → ℕ
hex_digit n = cond (ltb n 10) (48 + n) (87 + n)

unfoldable pub hex : List ℕ → List ℕ
hex [] = []
hex (b ∷ s) = hex_digit (b / 16) ∷ hex_digit (b % 16) ∷ hex s

-- "numbers in decimal"; d is at least the number of digits
unfoldable pub decimal_from : ℕ → ℕ → List ℕ → List ℕ
decimal_from zero n s = s
decimal_from (suc d) n s = let r = decimal_from d (n / 10) ((48 + n % 10) ∷ s) in cond (ltb n 10) ((48 + n) ∷ s) r

unfoldable pub decimal : ℕ → List ℕ
decimal n = decimal_from (suc n) n []

-- "`ok` and the record, or `no` and the number (8: then wanted and given): one line, one space between its parts, a newline at the end"
unfoldable pub line : Answer → List ℕ
line (ok s) = 111 ∷ 107 ∷ 32 ∷ (hex s ++ (10 ∷ []))
line (no n) = 110 ∷ 111 ∷ 32 ∷ (decimal n ++ (10 ∷ []))
line (miscount w g) = 110 ∷ 111 ∷ 32 ∷ 56 ∷ 32 ∷ (decimal w ++ (32 ∷ (decimal g ++ (10 ∷ []))))

-- "a stage byte, a u16 target length, the target, then arguments (64 KiB in all)"; "longer, or ends before the target does, prints `no 1`"
unfoldable pub run_ctor : List ℕ → List ℕ
run_ctor s =
    let n = get_or s 1 0 + 256 * get_or s 2 0 in
    let a = build_answer (get_or s 0 0) (take n (drop 3 s)) (drop n (drop 3 s)) 65536 in
    line (cond (ltb (length s) (3 + n)) (no 1) (cond (ltb 65536 (length s)) (no 1) a))
