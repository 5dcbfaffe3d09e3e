-- The arguments that become a matrix: columns, or scalars that are taken r at a time.
use Rattle.std.specs.Prelude.{◌≡◌, List, map, Bool, ℕ, ◌+◌, ◌*◌, ◌≤◌, T, leb, length, take, drop}
use Rattle.std.proofs.Math.Option.{some}
use Rattle.meaning.specs.Kinds.{Kind, kind_no}
use Rattle.meaning.specs.Trees.{Tm, Val, Vs, Vm, vals_of, val_len}
use Rattle.meaning.specs.Records.{vec_bytes, columns, joined, val_bytes, shaped_val, shaped_vals}
use Rattle.meaning.specs.Answers.{ok, all_some}
use Rattle.meaning.specs.Convert.{conv_lits}
use Rattle.record.specs.Bytes.{Put}
use Rattle.record.specs.Values.{BytesAt}
use Rattle.conv.specs.Values.{plains}
use Rattle.args.specs.Row.{Row}
use Rattle.shape.specs.declared.Shape.{Shape}
use Rattle.shape.specs.declared.Shape.TheVariants as shape

-- ---- some of the arguments

-- the first n of the arguments l stand from i up to e, and the others from there on
pub record Skipped (s : List ℕ) (i n : ℕ) (l : List Val) (e : ℕ) : Type 0 where
  pub front : BytesAt s i e (joined val_bytes (take n l))
  pub shaped : T (shaped_vals (vals_of (take n l)))
  pub rest : Row s e (drop n l)

-- at least n arguments stand at i
pub record SomeFront (s : List ℕ) (i n : ℕ) : Type 0 where
  pub values : List Val
  pub row : Row s i values
  pub enough : n ≤ length values

abbrev pub SkipsTo : List ℕ → ℕ → ℕ → ℕ → Type 0
SkipsTo s i n e = (l : List Val) → Row s i l → n ≤ length l → Skipped s i n l e

-- ---- one column of scalars

-- scalars stand from i up to e whose payloads in the kind j are qs, as many as there are rows
pub record Column (k r : ℕ) (s : List ℕ) (i e : ℕ) (j : Kind) (qs : List ℕ) : Type 0 where
  pub no : k ≡ kind_no j
  pub values : List Val
  pub bytes : BytesAt s i e (joined val_bytes values)
  pub shaped : T (shaped_vals (vals_of values))
  pub goes : all_some (conv_lits j) values ≡ some (map (Vs j) qs)
  pub rows : length qs ≡ r

pub record ColumnRoom (k r : ℕ) (s : List ℕ) (i e : ℕ) (out : List ℕ) (to : ℕ) : Type 0 where
  pub kind : Kind
  pub pays : List ℕ
  pub column : Column k r s i e kind pays
  pub room : to + length (vec_bytes kind pays) ≤ length out

abbrev pub ColumnPut : ℕ → ℕ → List ℕ → ℕ → ℕ → List ℕ → ℕ → ℕ → List ℕ → Type 0
ColumnPut k r s i e out to x out' = (j : Kind) (qs : List ℕ) → Column k r s i e j qs → Put out to (vec_bytes j qs) x out'

-- ---- all of them: "columns or c × r scalars"

-- the arguments are scalars whose payloads in the kind j are qs, c * r of them
pub record Scalars (c r k : ℕ) (s : List ℕ) (j : Kind) (qs : List ℕ) : Type 0 where
  pub no : k ≡ kind_no j
  pub values : List Val
  pub row : Row s 0 values
  pub goes : all_some (conv_lits j) values ≡ some (map (Vs j) qs)
  pub count : length qs ≡ c * r

-- the arguments are vectors which in the kind j are the columns of the matrix with the payloads qs
pub record Vectors (c r k : ℕ) (s : List ℕ) (j : Kind) (qs : List ℕ) : Type 0 where
  pub no : k ≡ kind_no j
  pub values : List Val
  pub intos : List Val
  pub row : Row s 0 values
  pub plain : T (plains (vals_of values))
  pub goes : all_some (conv_lits j) values ≡ some intos
  pub are : joined val_bytes intos ≡ joined (vec_bytes j) (columns c r qs)

-- what the arguments are by their shape
abbrev pub PartsAre : Shape → ℕ → ℕ → ℕ → List ℕ → Kind → List ℕ → Type 0
PartsAre shape.Scalars c r k s j qs = Scalars c r k s j qs
PartsAre shape.Columns c r k s j qs = Vectors c r k s j qs

-- ---- the columns of the payloads that X says of a kind

pub record PartsRoom (c r : ℕ) (X : Kind → List ℕ → Type 0) (out : List ℕ) (to : ℕ) : Type 0 where
  pub kind : Kind
  pub pays : List ℕ
  pub are : X kind pays
  pub room : to + length (joined (vec_bytes kind) (columns c r pays)) ≤ length out

abbrev pub PartsPut : ℕ → ℕ → (Kind → List ℕ → Type 0) → List ℕ → ℕ → ℕ → List ℕ → Type 0
PartsPut c r X out to x out' = (j : Kind) (qs : List ℕ) → X j qs → Put out to (joined (vec_bytes j) (columns c r qs)) x out'

-- ---- room: "22 the accepted record is longer than the lent buffer"

abbrev pub RoomFor : ℕ → ℕ → ℕ → ℕ → Bool → Type 0
RoomFor c r k room x = (j : Kind) → k ≡ kind_no j → x ≡ leb (val_len (Tm c r j)) room
