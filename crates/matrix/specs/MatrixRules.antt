-- What the constructors of a matrix are asked, and what they answer: a matrix type, and the untemplated shape `Qm`.
use Rattle.std.specs.Prelude.{◌≡◌, List, [], ◌∷◌, map, ℕ, ◌≤◌, length}
use Rattle.std.proofs.Math.Option.{some}
use Rattle.meaning.specs.Kinds.{Kind, kind_no}
use Rattle.meaning.specs.Scalars.{Stage}
use Rattle.meaning.specs.Trees.{Ty, Val, Vm, type_of, leaf, set_leaf, inner}
use Rattle.meaning.specs.Answers.{Result, ok, ◌>>=◌, ◌>>◌, or_no, all, all_some}
use Rattle.meaning.specs.Convert.{conv_val, conv_lits, common, float_kind}
use Rattle.meaning.specs.Build.{ctor_lit, mat_shape, payloads_of_all, lit_kind, mat_parts, mat_one, qm_parts, qm_one}
use Rattle.literal.specs.LiteralAnswers.{rules_of}
use Rattle.literal.specs.declared.Rules.{Rules}
use Rattle.ty.specs.Stands.{Whole}
use Rattle.shape.specs.Kinds.{found_of}
use Rattle.args.specs.Row.{Row, Given}
use Rattle.common_type.specs.CommonTypes.{CommonIs}
use Rattle.scalar.specs.Made.{Ctor}
use Rattle.error.specs.Told.{Builds}
use Rattle.std.specs.declared.option.Option.TheVariants.{Some}
use Rattle.error.specs.Told.{Written}

-- the kind one level down in the first one's type, "or in its place if it is a scalar", is the one whose number is i;
-- ty is the record of that type with k there
pub record FirstAs (k i : ℕ) (ty s : List ℕ) : Type 0 where
  pub down : (v : Val) (l : List Val) → Row s 0 (v ∷ l) → Some i ≡ found_of (lit_kind (inner (type_of v)))
  pub stands : (j : Kind) (v : Val) (l : List Val) → k ≡ kind_no j → Row s 0 (v ∷ l) → Whole ty (set_leaf j (type_of v))

-- ---- a matrix type

-- ty is a type's record, at whose bottom is the kind whose number is k
pub record Bottom (k : ℕ) (ty : List ℕ) : Type 0 where
  pub kind : Kind
  pub type : Ty
  pub no : k ≡ kind_no kind
  pub whole : Whole ty type
  pub bottom : leaf type ≡ some kind

-- ty is the record of the type u, whose kind is j; the arguments are l
pub record To (k : ℕ) (ty s : List ℕ) (count : ℕ) (j : Kind) (u : Ty) (l : List Val) : Type 0 where
  pub no : k ≡ kind_no j
  pub whole : Whole ty u
  pub bottom : leaf u ≡ some j
  pub given : Given s count l

-- "all convert to that (10), rows (14), columns or c × r scalars (8), 13"
unfoldable pub mat_to : ℕ → ℕ → Kind → Ty → List Val → Result Val
mat_to c r j u l = or_no 10 (all_some (conv_val u) l) >>= λ ws. mat_shape c r u (length l) >> ok (Vm c r j (payloads_of_all ws))

abbrev pub ToMade : ℕ → ℕ → ℕ → List ℕ → List ℕ → ℕ → List ℕ → Written → List ℕ → Type 0
ToMade c r k ty s count out x out' = (j : Kind) (u : Ty) (l : List Val) → To k ty s count j u l → Builds (mat_to c r j u l) out x out'

abbrev pub MatParts : ℕ → ℕ → ℕ → List ℕ → ℕ → List ℕ → Written → List ℕ → Type 0
MatParts c r k s count out x out' = (j : Kind) (v : Val) (l : List Val) → k ≡ kind_no j → Row s 0 (v ∷ l) → count ≡ length (v ∷ l)
    → Builds (mat_parts c r j v l) out x out'

-- the argument is one matrix of c columns and r rows, and the kind j is not abstract
pub record MatrixArg (rules : Rules) (c r k : ℕ) (src : List ℕ) (s : Stage) (j i : Kind) (ps : List ℕ) : Type 0 where
  pub ctor : Ctor rules k s j
  pub row : Row src 0 (Vm c r i ps ∷ [])

pub record SomeMatrixArg (rules : Rules) (c r k : ℕ) (src : List ℕ) : Type 0 where
  pub at : Stage
  pub kind : Kind
  pub from : Kind
  pub pays : List ℕ
  pub arg : MatrixArg rules c r k src at kind from pays

abbrev pub Remade : Rules → ℕ → ℕ → ℕ → List ℕ → List ℕ → Written → List ℕ → Type 0
Remade rules c r k src out x out' = (s : Stage) (j i : Kind) (ps : List ℕ) → MatrixArg rules c r k src s j i ps
    → Builds (all (ctor_lit s j i) ps >>= λ qs. ok (Vm c r j qs)) out x out'

abbrev pub MatOne : Rules → ℕ → ℕ → ℕ → List ℕ → List ℕ → Written → List ℕ → Type 0
MatOne rules c r k src out x out' = (s : Stage) (j : Kind) (v : Val) → rules ≡ rules_of s → k ≡ kind_no j → Row src 0 (v ∷ [])
    → Builds (mat_one s c r j v) out x out'

-- ---- `Qm`

-- ty is the record of the arguments' common type
abbrev pub Common : List ℕ → List ℕ → Type 0
Common ty s = (l : List Val) → Row s 0 l → CommonIs (common (map type_of l)) ty

-- the arguments are l, and ty is the record of their common type t
pub record Typed (ty s : List ℕ) (count : ℕ) (t : Ty) (l : List Val) : Type 0 where
  pub whole : Whole ty t
  pub is : common (map type_of l) ≡ some t
  pub given : Given s count l

-- "float (13); conversion (10); rows (14); count (8); 13"
unfoldable pub qm_to : ℕ → ℕ → Ty → List Val → Result Val
qm_to c r t l = or_no 13 (float_kind (inner t)) >>= λ k. or_no 10 (all_some (conv_lits k) l) >>= λ ws. mat_shape c r t (length l) >> ok
    (Vm c r k (payloads_of_all ws))

abbrev pub QmMade : ℕ → ℕ → List ℕ → List ℕ → ℕ → List ℕ → Written → List ℕ → Type 0
QmMade c r ty s count out x out' = (t : Ty) (l : List Val) → Typed ty s count t l → Builds (qm_to c r t l) out x out'

abbrev pub QmParts : ℕ → ℕ → List ℕ → ℕ → List ℕ → Written → List ℕ → Type 0
QmParts c r s count out x out' = (l : List Val) → Row s 0 l → 1 ≤ length l → count ≡ length l → Builds (qm_parts c r l) out x out'

abbrev pub QmOne : ℕ → ℕ → List ℕ → List ℕ → Written → List ℕ → Type 0
QmOne c r src out x out' = (v : Val) → Row src 0 (v ∷ []) → Builds (qm_one c r v) out x out'
