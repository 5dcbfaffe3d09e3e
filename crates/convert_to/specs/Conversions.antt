-- What the steps of a conversion are asked, and what they answer.
use Rattle.std.specs.Prelude.{◌≡◌, List, Bool, true, false, ℕ, T, length}
use Rattle.std.proofs.Math.Option.{some}
use Rattle.meaning.specs.Trees.{Ty, Val, Target, type_of}
use Rattle.meaning.specs.Records.{good_within}
use Rattle.meaning.specs.Read.{read_vals}
use Rattle.meaning.specs.Answers.{Answer, or_no, ◌>>=◌}
use Rattle.meaning.specs.Convert.{converts, conv_val, conv_runtime}
use Rattle.meaning.specs.Entries.{hand_val, only, conv_one}
use Rattle.ty.specs.Stands.{Stands, Whole}
use Rattle.ty.specs.declared.Target as ty
use Rattle.ty.specs.declared.Target.TheVariants.{«Type», Runtime as RuntimeSized, Array, Vector, Matrix}
use Rattle.error.specs.Told.{Told}
use Rattle.args.specs.OneValue.{OneValue}
use Rattle.error.specs.Told.{Written}

-- ---- to a type

-- the answer for the value v and the type t
unfoldable pub converted : Ty → Val → ℕ → Answer
converted t v room = or_no 9 (conv_val t v) >>= hand_val room

-- the target is the type t, the arguments are the value v, and ty is its type
pub record Asked (target args ty : List ℕ) (t : Ty) (v : Val) : Type 0 where
  pub whole : Whole target t
  pub value : OneValue args v
  pub type : Whole ty (type_of v)

abbrev pub Converts : List ℕ → List ℕ → List ℕ → List ℕ → Written → List ℕ → Type 0
Converts target args ty out r out' = (t : Ty) (v : Val) → Asked target args ty t v → Told (converted t v (length out)) out r out'

-- the value v converts to the type t, and is w then
pub record Becomes (target args : List ℕ) (t : Ty) (v w : Val) : Type 0 where
  pub whole : Whole target t
  pub value : OneValue args v
  pub converts : T (converts (type_of v) t)
  pub goes : conv_val t v ≡ some w

pub record SomeBecomes (target args : List ℕ) : Type 0 where
  pub to : Ty
  pub from : Val
  pub into : Val
  pub becomes : Becomes target args to from into

abbrev pub Writes : List ℕ → List ℕ → List ℕ → Written → List ℕ → Type 0
Writes target args out r out' = (t : Ty) (v w : Val) → Becomes target args t v w → Told (hand_val (length out) w) out r out'

-- ---- to a runtime-sized array

-- the target is one of elements t
pub record Runtime (target args ty : List ℕ) (t : Ty) (v : Val) : Type 0 where
  pub whole : Stands 14 target 2 t (length target)
  pub small : T (good_within 14 4092 t)
  pub value : OneValue args v
  pub type : Whole ty (type_of v)

unfoldable pub converted_runtime : Ty → Val → ℕ → Answer
converted_runtime t v room = or_no 9 (conv_runtime t (type_of v) v) >>= hand_val room

abbrev pub ConvertsRuntime : List ℕ → List ℕ → List ℕ → List ℕ → Written → List ℕ → Type 0
ConvertsRuntime target args ty out r out' = (t : Ty) (v : Val) → Runtime target args ty t v
    → Told (converted_runtime t v (length out)) out r out'

-- ---- of whichever arguments

-- what is answered for a target once it is read
unfoldable pub convert_read : Target → List ℕ → ℕ → Answer
convert_read g args room = or_no 2 (read_vals g args) >>= λ l. only l >>= λ v. conv_one g v >>= hand_val room

-- a target, as it is answered, that is no type and no runtime-sized array
abbrev pub is_shape : ty.Target → Bool
is_shape «Type» = false
is_shape RuntimeSized = false
is_shape Array = true
is_shape (Vector n) = true
is_shape (Matrix c r) = true
