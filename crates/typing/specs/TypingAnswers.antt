-- The answers of typing, once the target is read.
use Rattle.std.specs.Prelude.{List, ℕ}
use Rattle.meaning.specs.Trees.{Ty, Of, Qa, Qv, Qm}
use Rattle.meaning.specs.Read.{read_target}
use Rattle.meaning.specs.Answers.{Result, or_no, ◌>>=◌}
use Rattle.meaning.specs.Typing.{typed}
use Rattle.arg_types.specs.Given.{Given}
use Rattle.check_type.specs.Rules.{WholeType}
use Rattle.typing.specs.Hands.{Types}
use Rattle.error.specs.Told.{Written}

-- what the rules for a type record, or for an untemplated shape, say is answered: the record of the type that they
-- name, or the refusal
abbrev pub Answers : List ℕ → List ℕ → ℕ → List ℕ → Written → List ℕ → Type 0
Answers target args n out r out' = (t : Ty) (l : List Ty) → WholeType target t → Given args n l
    → Types (typed (Of t) l) out r out'

abbrev pub VectorAnswers : ℕ → List ℕ → ℕ → List ℕ → Written → List ℕ → Type 0
VectorAnswers m args n out r out' = (l : List Ty) → Given args n l → Types (typed (Qv m) l) out r out'

abbrev pub MatrixAnswers : ℕ → ℕ → List ℕ → ℕ → List ℕ → Written → List ℕ → Type 0
MatrixAnswers c r args n out x out' = (l : List Ty) → Given args n l → Types (typed (Qm c r) l) out x out'

abbrev pub ArrayAnswers : List ℕ → ℕ → List ℕ → Written → List ℕ → Type 0
ArrayAnswers args n out r out' = (l : List Ty) → Given args n l → Types (typed Qa l) out r out'

-- the type for the target that the bytes are: "1 bad target record"
unfoldable pub typed_target : List ℕ → List Ty → Result Ty
typed_target target l = or_no 1 (read_target target) >>= λ g. typed g l

abbrev pub TargetAnswers : List ℕ → List ℕ → ℕ → List ℕ → Written → List ℕ → Type 0
TargetAnswers target args n out r out' = (l : List Ty) → Given args n l → Types (typed_target target l) out r out'
