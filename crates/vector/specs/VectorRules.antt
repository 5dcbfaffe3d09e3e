-- What the steps of building a vector are asked, and what they answer.
use Rattle.std.specs.Prelude.{◌≡◌, List, [], ◌∷◌, map, Bool, ℕ, ◌+◌, ◌≤◌, T, length, replicate}
use Rattle.std.proofs.Math.Option.{some}
use Rattle.meaning.specs.Kinds.{Kind, kind_no}
use Rattle.meaning.specs.Scalars.{Stage}
use Rattle.meaning.specs.Trees.{Ty, Val, Vv, type_of}
use Rattle.meaning.specs.Records.{lit_bytes, joined, every, good_lit}
use Rattle.meaning.specs.Answers.{ok, all_some}
use Rattle.meaning.specs.Convert.{common}
use Rattle.meaning.specs.Build.{parts, flattened, vec_one, vec_parts, qv_one, qv_parts}
use Rattle.literal.specs.LiteralAnswers.{rules_of}
use Rattle.literal.specs.declared.Rules.{Rules}
use Rattle.ty.specs.Stands.{Whole}
use Rattle.record.specs.Bytes.{Put}
use Rattle.args.specs.Row.{Row}
use Rattle.error.specs.Told.{Builds}
use Rattle.vector.specs.VectorParts.{flat, marked, pay_to}
use Rattle.error.specs.Told.{Written}

-- ---- a literal repeated, a vector kept

-- "repeated": the vector of n literals of the kind j and the payload p
abbrev pub Repeats : ℕ → ℕ → ℕ → List ℕ → Written → List ℕ → Type 0
Repeats n k p out r out' = (j : Kind) → k ≡ kind_no j → T (good_lit j p) → Builds (ok (Vv j (replicate n p))) out r out'

-- "kept": the one argument
abbrev pub QvOne : ℕ → List ℕ → List ℕ → Written → List ℕ → Type 0
QvOne n args out r out' = (v : Val) → Row args 0 (v ∷ []) → Builds (qv_one n v) out r out'

-- one argument to a vector type
abbrev pub VecOne : Rules → ℕ → ℕ → List ℕ → List ℕ → Written → List ℕ → Type 0
VecOne rules n k args out r out' =
    (s : Stage) (j : Kind) (v : Val) → rules ≡ rules_of s → k ≡ kind_no j → Row args 0 (v ∷ []) → Builds (vec_one s n j v) out r out'

-- a literal is converted the same at every stage
abbrev pub Splats : ℕ → ℕ → List ℕ → List ℕ → Written → List ℕ → Type 0
Splats n k args out r out' = (s : Stage) (j : Kind) (v : Val) → k ≡ kind_no j → Row args 0 (v ∷ []) → Builds (vec_one s n j v) out r out'

-- ---- one argument among others

-- how many parts the argument at i is
abbrev pub PartCount : List ℕ → ℕ → ℕ → Type 0
PartCount s i r = (v : Val) (l : List Val) → Row s i (v ∷ l) → r ≡ length (parts v)

abbrev pub IsFlat : List ℕ → ℕ → Bool → Type 0
IsFlat s i r = (v : Val) (l : List Val) → Row s i (v ∷ l) → r ≡ flat v

-- where its first literal begins
abbrev pub FirstLit : List ℕ → ℕ → ℕ → Type 0
FirstLit s i r = (v : Val) (l : List Val) → Row s i (v ∷ l) → r ≡ i + marked v

-- ---- all arguments

-- "flattened, count"
abbrev pub FlatCount : List ℕ → ℕ → Type 0
FlatCount s r = (l : List Val) → Row s 0 l → r ≡ length (flattened l)

abbrev pub AllFlat : List ℕ → Bool → Type 0
AllFlat s r = (l : List Val) → Row s 0 l → r ≡ every flat l

-- the arguments from i on are literals and vectors, and their components are ps as literals of the kind j
pub record Goes (j : Kind) (s : List ℕ) (i : ℕ) (l : List Val) (ps : List ℕ) : Type 0 where
  pub row : Row s i l
  pub flats : T (every flat l)
  pub goes : all_some (pay_to j) (flattened l) ≡ some ps

pub record SomeGoes (k : ℕ) (s : List ℕ) : Type 0 where
  pub kind : Kind
  pub no : k ≡ kind_no kind
  pub values : List Val
  pub pays : List ℕ
  pub goes : Goes kind s 0 values pays

-- and there is room for them from `to` on
pub record SomeRoom (k : ℕ) (s : List ℕ) (out : List ℕ) (to : ℕ) : Type 0 where
  pub some : SomeGoes k s
  pub room : to + length (joined (lit_bytes some.kind) some.pays) ≤ length out

abbrev pub PartsPut : ℕ → List ℕ → List ℕ → ℕ → ℕ → List ℕ → Type 0
PartsPut k s out to r out' = (j : Kind) (l : List Val) (ps : List ℕ) → k ≡ kind_no j → Goes j s 0 l ps
    → Put out to (joined (lit_bytes j) ps) r out'

-- as many as the vector has
pub record SomeVector (n k : ℕ) (s : List ℕ) : Type 0 where
  pub some : SomeGoes k s
  pub count : length some.pays ≡ n

abbrev pub VectorPut : ℕ → ℕ → List ℕ → List ℕ → Written → List ℕ → Type 0
VectorPut n k s out r out' = (j : Kind) (l : List Val) (ps : List ℕ) → k ≡ kind_no j → Goes j s 0 l ps → length ps ≡ n
    → Builds (ok (Vv j ps)) out r out'

abbrev pub VecParts : ℕ → ℕ → List ℕ → List ℕ → Written → List ℕ → Type 0
VecParts n k args out r out' = (j : Kind) (l : List Val) → k ≡ kind_no j → Row args 0 l → Builds (vec_parts n j (flattened l)) out r out'

-- ---- to the common type

-- the n parts of the arguments have the common type t, whose record ty is
pub record InCommon (n : ℕ) (args ty : List ℕ) (l : List Val) (t : Ty) : Type 0 where
  pub row : Row args 0 l
  pub whole : Whole ty t
  pub is : common (map type_of (flattened l)) ≡ some t
  pub count : length (flattened l) ≡ n

pub record SomeCommon (n : ℕ) (args ty : List ℕ) : Type 0 where
  pub values : List Val
  pub type : Ty
  pub common : InCommon n args ty values type

abbrev pub ToCommon : ℕ → List ℕ → List ℕ → List ℕ → Written → List ℕ → Type 0
ToCommon n args ty out r out' = (l : List Val) (t : Ty) → InCommon n args ty l t → Builds (qv_parts n (flattened l)) out r out'

abbrev pub QvParts : ℕ → List ℕ → List ℕ → Written → List ℕ → Type 0
QvParts n args out r out' = (l : List Val) → Row args 0 l → Builds (qv_parts n (flattened l)) out r out'
