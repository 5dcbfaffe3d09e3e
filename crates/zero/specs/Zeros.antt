-- The zero value, as it is written: its bytes by the numbers in a type's record, the room they need, and the answers.
use Rattle.std.specs.Prelude.{◌≡◌, List, ◌∷◌, ℕ, ◌+◌, ◌≤◌, length}
use Rattle.meaning.specs.Kinds.{Kind, kind_no}
use Rattle.meaning.specs.Trees.{Ty, Tv, Tys, val_len, zero_of, zeros_of}
use Rattle.meaning.specs.Records.{‘V’, ‘v’, ‘m’, val_bytes, vals_bytes}
use Rattle.meaning.specs.Answers.{ok}
use Rattle.ty.specs.Stands.{Stands, StandAll, Whole}
use Rattle.record.specs.Bytes.{Put, times, Takes}
use Rattle.error.specs.Told.{Builds}
use Rattle.record.specs.Literals.{literal_of}
use Rattle.error.specs.Told.{Written}

-- ---- bytes

-- "`Vv` n, n `Vs` records of one kind": n zeros, by the kind's number
unfoldable pub vector_of : ℕ → ℕ → List ℕ
vector_of n k = ‘V’ ∷ ‘v’ ∷ n ∷ times n (literal_of k 0)

-- "`Vm` c r, c `Vv` records of length r"
unfoldable pub matrix_of : ℕ → ℕ → ℕ → List ℕ
matrix_of c r k = ‘V’ ∷ ‘m’ ∷ c ∷ r ∷ times c (vector_of r k)

-- ---- "the zero value" of the type whose record stands in ty at `at`; of n such values; of n types in a row

pub record ZeroRoom (d : ℕ) (ty : List ℕ) (at : ℕ) (out : List ℕ) (to : ℕ) : Type 0 where
  pub type : Ty
  pub end : ℕ
  pub stands : Stands d ty at type end
  pub room : to + val_len type ≤ length out

-- e is where the type's record ends, r where the value's does
abbrev pub Zeroes : ℕ → List ℕ → ℕ → List ℕ → ℕ → ℕ → ℕ → List ℕ → Type 0
Zeroes d ty at out to e r out' = (t : Ty) (e' : ℕ) → Stands d ty at t e' → (e ≡ e') × Put out to (val_bytes (zero_of t)) r out'

pub record ElementsRoom (d : ℕ) (ty : List ℕ) (at n : ℕ) (out : List ℕ) (to : ℕ) : Type 0 where
  pub type : Ty
  pub end : ℕ
  pub stands : Stands d ty at type end
  pub some : 1 ≤ n
  pub room : Takes out to (times n (val_bytes (zero_of type)))

abbrev pub ZeroesEach : ℕ → List ℕ → ℕ → ℕ → List ℕ → ℕ → ℕ → ℕ → List ℕ → Type 0
ZeroesEach d ty at n out to e r out' = (t : Ty) (e' : ℕ) → Stands d ty at t e' → (e ≡ e')
    × Put out to (times n (val_bytes (zero_of t))) r out'

pub record MembersRoom (d : ℕ) (ty : List ℕ) (at n : ℕ) (out : List ℕ) (to : ℕ) : Type 0 where
  pub types : Tys
  pub end : ℕ
  pub stands : StandAll d ty at n types end
  pub room : Takes out to (vals_bytes (zeros_of types))

abbrev pub ZeroesAll : ℕ → List ℕ → ℕ → ℕ → List ℕ → ℕ → ℕ → ℕ → List ℕ → Type 0
ZeroesAll d ty at n out to e r out' = (m : Tys) (e' : ℕ) → StandAll d ty at n m e' → (e ≡ e') × Put out to (vals_bytes (zeros_of m)) r out'

-- ---- the answers: the record, or 22

-- "no arguments with a type record: the zero value"
abbrev pub ZeroTold : List ℕ → List ℕ → Written → List ℕ → Type 0
ZeroTold target out r out' = (t : Ty) → Whole target t → Builds (ok (zero_of t)) out r out'

-- "`Qv` without arguments: AbstractInt zeros", for any kind by its number
abbrev pub VectorTold : ℕ → ℕ → List ℕ → Written → List ℕ → Type 0
VectorTold n k out r out' = (j : Kind) → k ≡ kind_no j → Builds (ok (zero_of (Tv n j))) out r out'
