-- Bytes in memory in one slice, the value's record in another: what each walk is asked, and what it leaves. The type's
-- record stands in a third, with the table of the padding inside it.
use Rattle.std.specs.Prelude.{◌≡◌, List, ℕ, ◌+◌, ◌-◌, ◌*◌, ◌≤◌, T, eqb, length, drop}
use Rattle.meaning.specs.Kinds.{Kind, kind_no}
use Rattle.meaning.specs.Trees.{Ty, Tys, Of}
use Rattle.meaning.specs.Records.{joined, lit_bytes, vec_bytes, val_bytes, vals_bytes}
use Rattle.meaning.specs.Answers.{Answer, need, ◌>>=◌, ◌>>◌}
use Rattle.meaning.specs.Entries.{hand_val}
use Rattle.meaning.specs.Layout.{has_layout, scalar_size, col_stride, stride, size_of, past_last, apart, mem_scalars, mem_value, mem_values}
use Rattle.meaning.specs.Layout.{laid_type}
use Rattle.record.specs.Bytes.{Put, Takes}
use Rattle.error.specs.Told.{Told}
use Rattle.ty.specs.Stands.{Stands, StandAll, Whole}
use Rattle.memory.specs.Padding.{Padded, PaddedAll}
use Rattle.error.specs.Told.{Written}

-- ---- scalars of one kind, a vector, and columns

-- the records of n scalars of the kind j that lie in mem at `at`
unfoldable pub scalars_from : List ℕ → ℕ → ℕ → Kind → List ℕ
scalars_from mem at n j = joined (lit_bytes j) (mem_scalars n j (drop at mem))

pub record ScalarsRoom (mem : List ℕ) (at n k : ℕ) (out : List ℕ) (to : ℕ) : Type 0 where
  pub kind : Kind
  pub no : k ≡ kind_no kind
  pub within : at + n * scalar_size kind ≤ length mem
  pub room : Takes out to (scalars_from mem at n kind)

abbrev pub ScalarsMoved : List ℕ → ℕ → ℕ → ℕ → List ℕ → ℕ → ℕ → ℕ → List ℕ → Type 0
ScalarsMoved mem at n k out to from r out' = (j : Kind) → k ≡ kind_no j → (from ≡ at + n * scalar_size j)
    × Put out to (scalars_from mem at n j) r out'

unfoldable pub vector_from : List ℕ → ℕ → ℕ → Kind → List ℕ
vector_from mem at n j = vec_bytes j (mem_scalars n j (drop at mem))

pub record VectorRoom (mem : List ℕ) (at n k : ℕ) (out : List ℕ) (to : ℕ) : Type 0 where
  pub kind : Kind
  pub no : k ≡ kind_no kind
  pub within : at + n * scalar_size kind ≤ length mem
  pub room : Takes out to (vector_from mem at n kind)

abbrev pub VectorMoved : List ℕ → ℕ → ℕ → ℕ → List ℕ → ℕ → ℕ → ℕ → List ℕ → Type 0
VectorMoved mem at n k out to from r out' = (j : Kind) → k ≡ kind_no j → (from ≡ at + n * scalar_size j)
    × Put out to (vector_from mem at n j) r out'

-- c columns of r, each with its padding behind it
unfoldable pub columns_from : List ℕ → ℕ → ℕ → ℕ → Kind → List ℕ
columns_from mem at c r j = joined (λ (s : List ℕ). vec_bytes j (mem_scalars r j s)) (apart c (col_stride r j) (drop at mem))

pub record ColumnsRoom (mem : List ℕ) (at c r k pad : ℕ) (out : List ℕ) (to : ℕ) : Type 0 where
  pub kind : Kind
  pub no : k ≡ kind_no kind
  pub padding : pad ≡ col_stride r kind - r * scalar_size kind
  pub within : at + c * col_stride r kind ≤ length mem
  pub room : Takes out to (columns_from mem at c r kind)

abbrev pub ColumnsMoved : List ℕ → ℕ → ℕ → ℕ → ℕ → ℕ → List ℕ → ℕ → ℕ → ℕ → List ℕ → Type 0
ColumnsMoved mem at c r k pad out to from x out' =
    (j : Kind) → k ≡ kind_no j → pad ≡ col_stride r j - r * scalar_size j → (from ≡ at + c * col_stride r j)
    × Put out to (columns_from mem at c r j) x out'

-- ---- the value of the type whose record stands in ty from o up to q; the table has the padding inside it

pub record Typed (d : ℕ) (ty : List ℕ) (o : ℕ) (pads : List ℕ) (q : ℕ) (t : Ty) : Type 0 where
  pub stands : Stands d ty o t q
  pub padded : Padded pads o t
  pub long : q ≤ length pads

unfoldable pub value_from : Ty → List ℕ → ℕ → List ℕ
value_from t mem at = val_bytes (mem_value t (drop at mem))

pub record ValueRoom (d : ℕ) (ty : List ℕ) (o : ℕ) (pads mem : List ℕ) (at : ℕ) (out : List ℕ) (to : ℕ) : Type 0 where
  pub type : Ty
  pub ty_end : ℕ
  pub typed : Typed d ty o pads ty_end type
  pub within : at + size_of type ≤ length mem
  pub room : Takes out to (value_from type mem at)

abbrev pub ValueMoved : ℕ → List ℕ → ℕ → List ℕ → List ℕ → ℕ → List ℕ → ℕ → ℕ → ℕ → ℕ → List ℕ → Type 0
ValueMoved d ty o pads mem at out to q' e' r out' =
    (t : Ty) (q : ℕ) → Typed d ty o pads q t → (q' ≡ q) × (e' ≡ at + size_of t) × Put out to (value_from t mem at) r out'

-- ---- n values of that type, each with the padding `pad` behind it

unfoldable pub elements_from : ℕ → Ty → List ℕ → ℕ → List ℕ
elements_from n t mem at = joined (λ (s : List ℕ). val_bytes (mem_value t s)) (apart n (stride t) (drop at mem))

pub record ElementsRoom (d : ℕ) (ty : List ℕ) (o n pad : ℕ) (pads mem : List ℕ) (at : ℕ) (out : List ℕ) (to : ℕ) : Type 0 where
  pub type : Ty
  pub ty_end : ℕ
  pub typed : Typed d ty o pads ty_end type
  pub padding : pad ≡ stride type - size_of type
  pub some : 1 ≤ n
  pub within : at + n * stride type ≤ length mem
  pub room : Takes out to (elements_from n type mem at)

abbrev pub ElementsMoved : ℕ → List ℕ → ℕ → ℕ → ℕ → List ℕ → List ℕ → ℕ → List ℕ → ℕ → ℕ → ℕ → ℕ → List ℕ → Type 0
ElementsMoved d ty o n pad pads mem at out to q' e' r out' =
    (t : Ty) (q : ℕ) → Typed d ty o pads q t → pad ≡ stride t - size_of t → (q' ≡ q) × (e' ≡ at + n * stride t)
    × Put out to (elements_from n t mem at) r out'

-- ---- members of the n types whose records stand in ty from o up to q, in the struct that begins at `base`; those
-- before them end `off` bytes behind that

pub record TypedAll (d : ℕ) (ty : List ℕ) (o n : ℕ) (pads : List ℕ) (q off : ℕ) (m : Tys) : Type 0 where
  pub stands : StandAll d ty o n m q
  pub padded : PaddedAll pads o off m
  pub long : q ≤ length pads

unfoldable pub members_from : ℕ → Tys → List ℕ → ℕ → List ℕ
members_from off m mem base = vals_bytes (mem_values off m (drop base mem))

pub record MembersRoom (d : ℕ) (ty : List ℕ) (o n : ℕ) (pads mem : List ℕ) (at : ℕ) (out : List ℕ) (to : ℕ) : Type 0 where
  pub types : Tys
  pub ty_end : ℕ
  pub base : ℕ
  pub off : ℕ
  pub typed : TypedAll d ty o n pads ty_end off types
  pub place : at ≡ base + off
  pub within : base + past_last off types ≤ length mem
  pub room : Takes out to (members_from off types mem base)

abbrev pub MembersMoved : ℕ → List ℕ → ℕ → ℕ → List ℕ → List ℕ → ℕ → List ℕ → ℕ → ℕ → ℕ → ℕ → List ℕ → Type 0
MembersMoved d ty o n pads mem at out to q' e' r out' =
    (m : Tys) (q base off : ℕ) → TypedAll d ty o n pads q off m → at ≡ base + off
    → (q' ≡ q) × (e' ≡ base + past_last off m) × Put out to (members_from off m mem base) r out'

-- ---- the answer

-- what is answered for a type once it is read
unfoldable pub read_by : Ty → List ℕ → ℕ → Answer
read_by t mem room = laid_type (Of t) >>= λ u. need (eqb (length mem) (size_of u)) 26 >> hand_val room (mem_value u mem)

-- the target is the type t, and the memory has its size
pub record Sized (target pads mem : List ℕ) (t : Ty) : Type 0 where
  pub whole : Whole target t
  pub laid : T (has_layout t)
  pub padded : Padded pads 0 t
  pub long : length target ≤ length pads
  pub size : length mem ≡ size_of t

pub record SomeSized (target pads mem : List ℕ) : Type 0 where
  pub type : Ty
  pub sized : Sized target pads mem type

abbrev pub Reads : List ℕ → List ℕ → List ℕ → List ℕ → Written → List ℕ → Type 0
Reads target pads mem out r out' = (t : Ty) → Sized target pads mem t → Told (hand_val (length out) (mem_value t mem)) out r out'

abbrev pub TypeTold : List ℕ → List ℕ → List ℕ → Written → List ℕ → Type 0
TypeTold target mem out r out' = (t : Ty) → Whole target t → Told (read_by t mem (length out)) out r out'
