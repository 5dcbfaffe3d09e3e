-- A value's record in one slice, its bytes in memory in another: what each walk is asked, and what it leaves. The
-- type's record stands in a third, with the table of the padding inside it.
use Rattle.std.specs.Prelude.{◌≡◌, List, ℕ, ◌-◌, ◌*◌, ◌≤◌, T, leb, length}
use Rattle.meaning.specs.Kinds.{Kind, kind_no}
use Rattle.meaning.specs.Trees.{Ty, Val, Vals, type_of, types_of, count_vals}
use Rattle.meaning.specs.Records.{joined, lit_bytes, vec_bytes, every, good_lit, vals_bytes, shaped_vals}
use Rattle.meaning.specs.Answers.{Answer, ok, need, ◌>>◌}
use Rattle.meaning.specs.Layout.{has_layout, scalar_size, col_stride, stride, size_of, mem_vec, mem_col, mem_bytes, mem_elements, mem_members}
use Rattle.laws.proofs.AgreeConv.{AllTy}
use Rattle.laws.proofs.Sound.{All}
use Rattle.record.specs.Bytes.{Put, Takes}
use Rattle.error.specs.Told.{Told}
use Rattle.ty.specs.Stands.{Stands, StandAll, Whole}
use Rattle.record.specs.Values.{BytesAt, HasVal}
use Rattle.args.specs.OneValue.{OneValue}
use Rattle.memory.specs.Padding.{Padded, PaddedAll}
use Rattle.error.specs.Told.{Written}

-- ---- literals of one kind, and columns of them

-- n literals of the kind j with these payloads stand in s, from `at` up to e
pub record Literals (s : List ℕ) (at n k e : ℕ) (j : Kind) (ps : List ℕ) : Type 0 where
  pub no : k ≡ kind_no j
  pub bytes : BytesAt s at e (joined (lit_bytes j) ps)
  pub good : T (every (good_lit j) ps)
  pub count : length ps ≡ n

pub record LiteralsRoom (s : List ℕ) (at n k : ℕ) (out : List ℕ) (to : ℕ) : Type 0 where
  pub kind : Kind
  pub payloads : List ℕ
  pub end : ℕ
  pub has : Literals s at n k end kind payloads
  pub room : Takes out to (mem_vec kind payloads)

abbrev pub LiteralsMoved : List ℕ → ℕ → ℕ → ℕ → List ℕ → ℕ → ℕ → ℕ → List ℕ → Type 0
LiteralsMoved s at n k out to from r out' = (e : ℕ) (j : Kind) (ps : List ℕ) → Literals s at n k e j ps → (from ≡ e)
    × Put out to (mem_vec j ps) r out'

-- n vectors of r literals stand there, with these payloads; in memory each has the padding `pad` behind it
pub record Columns (s : List ℕ) (at n r k pad e : ℕ) (j : Kind) (cols : List (List ℕ)) : Type 0 where
  pub no : k ≡ kind_no j
  pub bytes : BytesAt s at e (joined (vec_bytes j) cols)
  pub each : All (λ ps. (length ps ≡ r) × T (every (good_lit j) ps)) cols
  pub count : length cols ≡ n
  pub padding : pad ≡ col_stride r j - r * scalar_size j

pub record ColumnsRoom (s : List ℕ) (at n r k pad : ℕ) (out : List ℕ) (to : ℕ) : Type 0 where
  pub kind : Kind
  pub columns : List (List ℕ)
  pub end : ℕ
  pub has : Columns s at n r k pad end kind columns
  pub room : Takes out to (joined (mem_col r kind) columns)

abbrev pub ColumnsMoved : List ℕ → ℕ → ℕ → ℕ → ℕ → ℕ → List ℕ → ℕ → ℕ → ℕ → List ℕ → Type 0
ColumnsMoved s at n r k pad out to from x out' =
    (e : ℕ) (j : Kind) (cols : List (List ℕ)) → Columns s at n r k pad e j cols → (from ≡ e) × Put out to (joined (mem_col r j) cols) x out'

-- ---- a value of the type whose record stands in ty from o up to q; the table has the padding inside it

pub record Value (d : ℕ) (ty : List ℕ) (o : ℕ) (pads : List ℕ) (s : List ℕ) (at q e : ℕ) (v : Val) : Type 0 where
  pub stands : Stands d ty o (type_of v) q
  pub padded : Padded pads o (type_of v)
  pub long : q ≤ length pads
  pub has : HasVal s at e v

pub record ValueRoom (d : ℕ) (ty : List ℕ) (o : ℕ) (pads : List ℕ) (s : List ℕ) (at : ℕ) (out : List ℕ) (to : ℕ) : Type 0 where
  pub value : Val
  pub ty_end : ℕ
  pub end : ℕ
  pub is : Value d ty o pads s at ty_end end value
  pub room : Takes out to (mem_bytes value)

abbrev pub ValueMoved : ℕ → List ℕ → ℕ → List ℕ → List ℕ → ℕ → List ℕ → ℕ → ℕ → ℕ → ℕ → List ℕ → Type 0
ValueMoved d ty o pads s at out to q' e' r out' =
    (q e : ℕ) (v : Val) → Value d ty o pads s at q e v → (q' ≡ q) × (e' ≡ e) × Put out to (mem_bytes v) r out'

-- ---- n values of that type, each with the padding `pad` behind it

pub record Elements (d : ℕ) (ty : List ℕ) (o n pad : ℕ) (pads : List ℕ) (s : List ℕ) (at q e : ℕ) (t : Ty) (l : Vals) : Type 0 where
  pub stands : Stands d ty o t q
  pub padded : Padded pads o t
  pub long : q ≤ length pads
  pub padding : pad ≡ stride t - size_of t
  pub bytes : BytesAt s at e (vals_bytes l)
  pub shaped : T (shaped_vals l)
  pub types : AllTy t l
  pub count : count_vals l ≡ n
  pub some : 1 ≤ n

pub record ElementsRoom (d : ℕ) (ty : List ℕ) (o n pad : ℕ) (pads : List ℕ) (s : List ℕ) (at : ℕ) (out : List ℕ) (to : ℕ) : Type 0 where
  pub type : Ty
  pub values : Vals
  pub ty_end : ℕ
  pub end : ℕ
  pub are : Elements d ty o n pad pads s at ty_end end type values
  pub room : Takes out to (mem_elements values)

abbrev pub ElementsMoved : ℕ → List ℕ → ℕ → ℕ → ℕ → List ℕ → List ℕ → ℕ → List ℕ → ℕ → ℕ → ℕ → ℕ → List ℕ → Type 0
ElementsMoved d ty o n pad pads s at out to q' e' r out' =
    (q e : ℕ) (t : Ty) (l : Vals) → Elements d ty o n pad pads s at q e t l → (q' ≡ q) × (e' ≡ e) × Put out to (mem_elements l) r out'

-- ---- members of the n types whose records stand in ty from o up to q; those before them end at `off`,
-- counted from the struct's first byte

pub record Members (d : ℕ) (ty : List ℕ) (o n : ℕ) (pads : List ℕ) (s : List ℕ) (at q e off : ℕ) (l : Vals) : Type 0 where
  pub stands : StandAll d ty o n (types_of l) q
  pub padded : PaddedAll pads o off (types_of l)
  pub long : q ≤ length pads
  pub bytes : BytesAt s at e (vals_bytes l)
  pub shaped : T (shaped_vals l)

pub record MembersRoom (d : ℕ) (ty : List ℕ) (o n : ℕ) (pads : List ℕ) (s : List ℕ) (at : ℕ) (out : List ℕ) (to : ℕ) : Type 0 where
  pub values : Vals
  pub ty_end : ℕ
  pub end : ℕ
  pub off : ℕ
  pub are : Members d ty o n pads s at ty_end end off values
  pub room : Takes out to (mem_members off values)

abbrev pub MembersMoved : ℕ → List ℕ → ℕ → ℕ → List ℕ → List ℕ → ℕ → List ℕ → ℕ → ℕ → ℕ → ℕ → List ℕ → Type 0
MembersMoved d ty o n pads s at out to q' e' r out' =
    (q e off : ℕ) (l : Vals) → Members d ty o n pads s at q e off l → (q' ≡ q) × (e' ≡ e) × Put out to (mem_members off l) r out'

-- ---- the answer

-- what is answered for a value once it is read
unfoldable pub written : Val → ℕ → Answer
written v room = need (has_layout (type_of v)) 25 >> (need (leb (size_of (type_of v)) room) 22 >> ok (mem_bytes v))

-- the arguments are the value v, and ty is its type
pub record Asked (ty args : List ℕ) (v : Val) : Type 0 where
  pub type : Whole ty (type_of v)
  pub value : OneValue args v

abbrev pub Writes : List ℕ → List ℕ → List ℕ → Written → List ℕ → Type 0
Writes ty args out r out' = (v : Val) → Asked ty args v → Told (written v (length out)) out r out'
