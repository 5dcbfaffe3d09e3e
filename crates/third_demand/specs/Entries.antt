-- The third demand about the two published entries, `type_ctor` (crates/typing) and `call_ctor` (crates/builtin): what
-- both return, and what their buffers hold then.
--
-- In plain words, for someone who plans runs:
-- Take any of the three stages, any target in scope (a well-formed type without abstract kinds and not a runtime-sized
-- array, or an untemplated vector, matrix or array) and any list of well-formed arguments, none included. Call typing
-- with the arguments' types and building with the arguments, in the same order and for the same target, and lend both
-- calls buffers that are long enough. Nothing else is asked, and nothing of what the buffers held. If typing answers a
-- record, that is the record of one type, at the front of its buffer. Building then answers a value exactly when every
-- literal fits the scalar kind it must become at that stage and a counted array given any arguments has as many as it
-- counts. The value is whole, its record stands at the front of building's buffer, the record of its type is byte for
-- byte the one that typing answered, and behind both records the buffers hold what they held. Otherwise building
-- refuses, and its buffer is as it was. The stage matters to f32 and f16 alone, where they make a literal: one that
-- they refuse at Const, as outside the float's range (21), does not fit at Override either, so that the same arguments
-- come to the same end at both; at Exec it fits.
-- If typing refuses, building refuses too, and both buffers are as they were.
-- So these can't happen: a value built for types that typing refused; a value of another type than typing named (a
-- matrix with short columns, a vector of another kind); a refusal of arguments that typing passed where each literal
-- fits and the count is right; a value in spite of a literal that does not fit; a buffer half written beside a refusal.
-- What the value is, and which refusal comes, the contracts themselves say: each answer is the definitions'
-- (crates/meaning/specs/Entries.antt).
use Rattle.std.specs.Prelude.{◌≡◌, List, ◌++◌, map, Bool, true, false, cond, ℕ, T, length, take, drop}
use Rattle.std.proofs.Math.Option.{some}
use Rattle.meaning.specs.Scalars.{Stage}
use Rattle.meaning.specs.Trees.{Ty, Val, Target, type_of}
use Rattle.meaning.specs.Records.{ty_bytes, val_bytes, target_bytes, joined, good_ty, good_val, good_target, good_args}
use Rattle.meaning.specs.Read.{read_target, read_tys, read_vals}
use Rattle.meaning.specs.Typing.{typed}
use Rattle.meaning.specs.Entries.{build_answer, type_answer, stage_of}
use Rattle.laws.specs.Demand.{in_scope, nothing_stops, long_enough}
use Rattle.error.specs.Told.{Told}
use Rattle.error.specs.Told.{Written}
use Rattle.std.specs.declared.result.Result.TheVariants.{Ok, Err}

-- The two calls, each as its contract tells it: result r and the lent buffer, out at entry and out' at exit; T is
-- typing's, B building's. "Both calls get the same target, building gets the arguments and typing their types in the
-- same order, and neither target nor arguments are written in between": the entries take all three by shared reference
-- and both fields speak of the same target; in the statement below args and types come from one list l.
pub record Calls (stage : ℕ) (target args types outT : List ℕ) (rT : Written) (outT' outB : List ℕ) (rB : Written) (outB' : List ℕ) : Type
    0 where
  pub typing : Told (type_answer target types (length outT)) outT rT outT'
  pub building : Told (build_answer stage target args (length outB)) outB rB outB'

-- ---- what comes of them

unfoldable pub refuses : Written → Bool
refuses (Ok n) = false
refuses (Err x) = true

-- "a refusal leaves the lent buffer untouched"
pub record Declined (out : List ℕ) (r : Written) (out' : List ℕ) : Type 0 where
  pub says : T (refuses r)
  pub leaves : out' ≡ out

-- "building returns a value": a whole one of type t, its record at the front of the buffer and behind it what stood there.
-- "The type of that value is, byte for byte, the record that typing answers."
pub record Returned (t : Ty) (answered out : List ℕ) (r : Written) (out' : List ℕ) : Type 0 where
  pub value : Val
  pub good : T (good_val value)
  pub type : type_of value ≡ t
  pub same : ty_bytes (type_of value) ≡ answered
  pub says : r ≡ Ok (length (val_bytes value))
  pub leaves : out' ≡ val_bytes value ++ drop (length (val_bytes value)) out

-- "Where the typing entry passes the arguments' types": it returned Ok n, the record of `type` is the first n bytes
-- of its buffer, and "building returns a value exactly when every literal .. fits .. and, for a counted array given any
-- arguments, their count is the array's; otherwise it refuses"
pub record Passed (s : Stage) (g : Target) (l : List Val) (outT : List ℕ) (n : ℕ) (outT' outB : List ℕ) (rB : Written) (outB' : List ℕ) :
    Type 0 where
  pub type : Ty
  pub good : T (good_ty type)
  pub long : n ≡ length (ty_bytes type)
  pub leaves : outT' ≡ ty_bytes type ++ drop n outT
  pub building : cond (nothing_stops s g type l) (Returned type (take n outT') outB rB outB') (Declined outB rB outB')

-- "Where typing refuses the types, building refuses too"
pub record Neither (outT outT' outB : List ℕ) (rB : Written) (outB' : List ℕ) : Type 0 where
  pub leaves : outT' ≡ outT
  pub building : Declined outB rB outB'

-- by what typing returned
unfoldable pub Outcome : Stage → Target → List Val → List ℕ → Written → List ℕ → List ℕ → Written → List ℕ → Type 0
Outcome s g l outT (Ok n) outT' outB rB outB' = Passed s g l outT n outT' outB rB outB'
Outcome s g l outT (Err x) outT' outB rB outB' = Neither outT outT' outB rB outB'

-- ---- the statement

-- for these bytes of target, arguments and types: all that the two calls may have returned and left, "with buffers long
-- enough for both results"
abbrev pub Holds : ℕ → Stage → Target → List Val → List ℕ → List ℕ → List ℕ → Type 0
Holds stage s g l target args types =
    (outT outT' outB outB' : List ℕ) (rT rB : Written) → T (long_enough (length outT) (length outB) (typed g (map type_of l)))
    → Calls stage target args types outT rT outT' outB rB outB'
    → Outcome s g l outT rT outT' outB rB outB'

-- "for every list of well-formed arguments, none included, at each of the three stages, and for every target" in scope,
-- each written as its record
abbrev pub Demand3Entries : Type 0
Demand3Entries =
    (stage : ℕ) (s : Stage) → stage_of stage ≡ some s
    → (g : Target) → T (good_target g) → T (in_scope g)
    → (l : List Val) → T (good_args g l)
    → Holds stage s g l (target_bytes g) (joined val_bytes l) (joined ty_bytes (map type_of l))

-- the same for whatever bytes the entries read as that target, those arguments and their types
abbrev pub Demand3Bytes : Type 0
Demand3Bytes =
    (stage : ℕ) (s : Stage) → stage_of stage ≡ some s
    → (target args types : List ℕ) (g : Target) → read_target target ≡ some g → T (in_scope g)
    → (l : List Val) → read_vals g args ≡ some l → read_tys g types ≡ some (map type_of l)
    → Holds stage s g l target args types
