-- What the steps of a build are asked, and what they answer.
use Rattle.std.specs.Prelude.{◌≡◌, List, ℕ, length}
use Rattle.meaning.specs.Kinds.{Kind, kind_no}
use Rattle.meaning.specs.Scalars.{Stage}
use Rattle.meaning.specs.Trees.{Ty, Val, Target, Of, Tr}
use Rattle.meaning.specs.Read.{read_target, read_vals}
use Rattle.meaning.specs.Answers.{Result, Answer, or_no, ◌>>=◌}
use Rattle.meaning.specs.Build.{build}
use Rattle.meaning.specs.Entries.{hand_val}
use Rattle.literal.specs.LiteralAnswers.{rules_of}
use Rattle.literal.specs.declared.Rules.{Rules}
use Rattle.ty.specs.Stands.{Stands, Whole}
use Rattle.args.specs.Row.{Given}
use Rattle.args.specs.declared.Values.{Values}
use Rattle.error.specs.Told.{Told, Builds}
use Rattle.error.specs.Told.{Written}

-- ---- the target, once it is read

-- what is built of the arguments for a target
abbrev pub BuildsOf : Stage → Target → Values → List ℕ → Written → List ℕ → Type 0
BuildsOf s g args out r out' = (l : List Val) → Given args.bytes.now args.count l → Builds (build s g l) out r out'

-- for a type whose record the target is
abbrev pub TypeBuilt : Rules → List ℕ → Values → List ℕ → Written → List ℕ → Type 0
TypeBuilt rules target args out r out' = (s : Stage) (t : Ty) → rules ≡ rules_of s → Whole target t → BuildsOf s (Of t) args out r out'

-- and for a scalar, a vector or a matrix, of the kind whose number k is
abbrev pub LeafBuilt : (Kind → Ty) → Rules → ℕ → Values → List ℕ → Written → List ℕ → Type 0
LeafBuilt f rules k args out r out' = (s : Stage) (j : Kind) → rules ≡ rules_of s → k ≡ kind_no j → BuildsOf s (Of (f j)) args out r out'

-- for a runtime-sized array, and for a shape, whose answer is the same at every stage
abbrev pub RuntimeBuilt : List ℕ → Values → List ℕ → Written → List ℕ → Type 0
RuntimeBuilt target args out r out' = (s : Stage) (t : Ty) → Stands 14 target 2 t (length target) → BuildsOf s (Tr t) args out r out'

abbrev pub ShapeBuilt : Target → Values → List ℕ → Written → List ℕ → Type 0
ShapeBuilt g args out r out' = (s : Stage) → BuildsOf s g args out r out'

-- for the target that the bytes are: "1 bad target record"
unfoldable pub build_target : Stage → List ℕ → List Val → Result Val
build_target s target l = or_no 1 (read_target target) >>= λ g. build s g l

abbrev pub TargetBuilt : Rules → List ℕ → Values → List ℕ → Written → List ℕ → Type 0
TargetBuilt rules target args out r out' = (s : Stage) (l : List Val) → rules ≡ rules_of s → Given args.bytes.now args.count l
    → Builds (build_target s target l) out r out'

-- ---- before they are read

-- what is answered once the stage is
unfoldable pub build_at : Stage → List ℕ → List ℕ → ℕ → Answer
build_at s target args room = or_no 1 (read_target target) >>= λ g. or_no 2 (read_vals g args) >>= λ l. build s g l >>= hand_val room

abbrev pub TargetAnswers : Rules → List ℕ → List ℕ → List ℕ → Written → List ℕ → Type 0
TargetAnswers rules target args out r out' = (s : Stage) → rules ≡ rules_of s → Told (build_at s target args (length out)) out r out'
