-- Size and alignment as they are worked out from a type's record, and the table of the padding inside it.
use Rattle.std.specs.Prelude.{◌≡◌, List, cond, ℕ, ◌-◌, ◌*◌, ◌^◌, ◌≤◌, ◌<◌, ltb, get_or, set}
use Rattle.meaning.specs.Kinds.{Kind, kind_no}
use Rattle.meaning.specs.Trees.{Ty, Tys}
use Rattle.meaning.specs.Layout.{scalar_size, vec_align, round_up, align_of, size_of, most_align, past_last}
use Rattle.ty.specs.Stands.{Stands, StandAll}
use Rattle.memory.specs.Padding.{Padded, PaddedAll}
use Rattle.layout.specs.declared.Extent.{Extent}
use Rattle.std.specs.declared.option.Option.{Option}
use Rattle.std.specs.declared.option.Option.TheVariants.{None, Some}

-- ---- exact to 64 bits, and then "past 64 bits"; e is where the type's record ends

abbrev pub extent : ℕ → ℕ → ℕ → Extent
extent e n a = record { end = e; size = n; align = a }

unfoldable pub extent_of : ℕ → ℕ → ℕ → Option Extent
extent_of e n a = cond (ltb n (2 ^ 64)) (Some (extent e n a)) None

unfoldable pub past_of : ℕ → Option ℕ
past_of n = cond (ltb n (2 ^ 64)) (Some n) None

-- ---- the steps

abbrev pub ScalarExtent : ℕ → ℕ → Extent → Type 0
ScalarExtent e k r = (j : Kind) → k ≡ kind_no j → r ≡ extent e (scalar_size j) (scalar_size j)

abbrev pub VectorExtent : ℕ → ℕ → ℕ → Extent → Type 0
VectorExtent e n k r = (j : Kind) → k ≡ kind_no j → r ≡ extent e (n * scalar_size j) (vec_align n j)

abbrev pub Times : ℕ → Extent → Option Extent → Type 0
Times n x r = r ≡ extent_of x.end (n * x.size) x.align

-- where the size is not past 64 bits, the padding is in the table
pub record Rounds (x : Extent) (at : ℕ) (pads : List ℕ) (r : Option Extent) (pads' : List ℕ) : Type 0 where
  pub is : r ≡ extent_of x.end (round_up x.align x.size) x.align
  pub table : round_up x.align x.size < 2 ^ 64 → pads' ≡ set pads at (round_up x.align x.size - x.size)

-- ---- a type, and types in a row

-- nothing but the entries from `at` up to e was changed
pub record Outside (at e : ℕ) (pads pads' : List ℕ) : Type 0 where
  pub below : (i : ℕ) → i < at → get_or pads' i 0 ≡ get_or pads i 0
  pub above : (i : ℕ) → e ≤ i → get_or pads' i 0 ≡ get_or pads i 0

-- where the size is not past 64 bits, the table is whole
pub record Extended (t : Ty) (at e : ℕ) (pads : List ℕ) (r : Option Extent) (pads' : List ℕ) : Type 0 where
  pub is : r ≡ extent_of e (size_of t) (align_of t)
  pub table : size_of t < 2 ^ 64 → Padded pads' at t
  pub others : size_of t < 2 ^ 64 → Outside at e pads pads'

abbrev pub Extends : ℕ → List ℕ → ℕ → List ℕ → Option Extent → List ℕ → Type 0
Extends d s at pads r pads' = (t : Ty) (e : ℕ) → Stands d s at t e → Extended t at e pads r pads'

pub record ExtendedAll (m : Tys) (at e : ℕ) (pads : List ℕ) (r : Option Extent) (pads' : List ℕ) : Type 0 where
  pub is : r ≡ extent_of e (past_last 0 m) (most_align m)
  pub table : past_last 0 m < 2 ^ 64 → PaddedAll pads' at 0 m
  pub others : past_last 0 m < 2 ^ 64 → Outside at e pads pads'

abbrev pub ExtendsAll : ℕ → List ℕ → ℕ → ℕ → List ℕ → Option Extent → List ℕ → Type 0
ExtendsAll d s at n pads r pads' = (m : Tys) (e : ℕ) → StandAll d s at n m e → ExtendedAll m at e pads r pads'
