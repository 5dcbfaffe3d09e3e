-- Calls of the entries as the tables write them: trees go in as their bytes, and the whole way in and out is computed.
use mathlib.Core.List.{List, [], ◌∷◌}
use Prim.Native.Nat.{ℕ}
use Rattle.meaning.specs.Kinds.{Kind}
use Rattle.meaning.specs.Trees.{Ty, Ts, Val, Vs, Target, Of}
use Rattle.meaning.specs.Answers.{Result, ok, Answer}
use Rattle.meaning.specs.Records.{target_bytes, val_bytes, ty_bytes, joined}
use Rattle.meaning.specs.Entries.{build_answer, type_answer, convert_answer, rank_answer}
use Rattle.meaning.proofs.Opened.{opened}

-- building with a buffer of some length, typing, conversion and rank
unfoldable pub within : ℕ → ℕ → Target → List Val → Answer
unfolding build_answer target_bytes joined val_bytes opened
within room s g l = build_answer s (target_bytes g) (joined val_bytes l) room

unfoldable pub builds : ℕ → Target → List Val → Answer
unfolding within
builds s g l = within 65536 s g l

unfoldable pub types : Target → List Ty → Answer
unfolding type_answer target_bytes joined ty_bytes opened
types g l = type_answer (target_bytes g) (joined ty_bytes l) 65536

unfoldable pub converts : Target → Val → Answer
unfolding convert_answer target_bytes val_bytes opened
converts g v = convert_answer (target_bytes g) (val_bytes v) 65536

unfoldable pub ranks : Target → Ty → Result ℕ
unfolding rank_answer target_bytes ty_bytes opened
ranks g t = rank_answer (target_bytes g) (ty_bytes t)

-- one literal through a scalar constructor, and by conversion
unfoldable pub ctor : ℕ → Kind → Kind → ℕ → Answer
unfolding builds
ctor s k j p = builds s (Of (Ts k)) (Vs j p ∷ [])

unfoldable pub conv : Kind → Kind → ℕ → Answer
unfolding converts
conv k j p = converts (Of (Ts k)) (Vs j p)

-- the record of a value, of a literal and of a type
unfoldable pub value : Val → Answer
unfolding val_bytes opened
value v = ok (val_bytes v)

unfoldable pub lit : Kind → ℕ → Answer
unfolding value
lit k p = value (Vs k p)

unfoldable pub type : Ty → Answer
unfolding ty_bytes opened
type t = ok (ty_bytes t)
