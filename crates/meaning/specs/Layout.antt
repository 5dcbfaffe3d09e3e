-- Document 02, request 02: "Bytes as the graphics card wants them": alignment and size of a type, the bytes of a value
-- in memory, the value of such bytes. WGSL's own words are those of its section "Memory Layout".
use Rattle.std.specs.Prelude.{List, [], ◌∷◌, ◌++◌, map, Bool, true, false, ◌&&◌, cond, ℕ, zero, suc, ◌+◌, ◌-◌, ◌*◌, ◌/◌, ◌^◌, max, eqb, leb, ltb, length, take, drop, replicate}
use Rattle.meaning.specs.Kinds.{Kind, bool, aint, afloat, i32, u32, f32, f16}
use Rattle.meaning.specs.Trees.{Ty, Ts, Tv, Tm, Ta, Tu, Tys, [·], ◌▸◌, Val, Vs, Vv, Vm, Va, Vu, Vals, ⟨⟩, ◌▹◌, Target, Of, Tr, Qa}
use Rattle.meaning.specs.Trees.{Qv, Qm, type_of, types_of, vals_of}
use Rattle.meaning.specs.Records.{le, joined, columns}
use Rattle.meaning.specs.Read.{flat, read_target, read_val}
use Rattle.meaning.specs.Answers.{Result, ok, no, Answer, need, or_no, ◌>>=◌, ◌>>◌}
use Rattle.meaning.specs.Entries.{hand_val}

-- ---- which types have a layout

-- the scalars that have one: "a type that holds Bool, an abstract kind" has none (25)
unfoldable pub laid_kind : Kind → Bool
laid_kind bool = false
laid_kind aint = false
laid_kind afloat = false
laid_kind i32 = true
laid_kind u32 = true
laid_kind f32 = true
laid_kind f16 = true

unfoldable mutual
  pub has_layout : Ty → Bool
  has_layout (Ts k) = laid_kind k
  has_layout (Tv n k) = laid_kind k
  has_layout (Tm c r k) = laid_kind k
  has_layout (Ta n t) = has_layout t
  has_layout (Tu i m) = have_layouts m

  pub have_layouts : Tys → Bool
  have_layouts [·] = true
  have_layouts (t ▸ m) = has_layout t && have_layouts m

-- ---- alignment and size, in bytes

-- "32-bit scalars 4, F16 2", size and alignment (of a kind without a layout this is never asked)
unfoldable pub scalar_size : Kind → ℕ
scalar_size bool = 4
scalar_size aint = 4
scalar_size afloat = 4
scalar_size i32 = 4
scalar_size u32 = 4
scalar_size f32 = 4
scalar_size f16 = 2

-- WGSL's roundUp(k, n) = ⌈n ÷ k⌉ × k: the next multiple of k
unfoldable pub round_up : ℕ → ℕ → ℕ
round_up k n = (n + (k - 1)) / k * k

-- "a vector of 2 is aligned to two scalars, of 3 or 4 to four"
unfoldable pub vec_align : ℕ → Kind → ℕ
vec_align n k = cond (eqb n 2) 2 4 * scalar_size k

-- "a matrix is laid as an array of its columns"; an array is aligned as its element; "a struct is aligned as its most aligned member"
unfoldable mutual
  pub align_of : Ty → ℕ
  align_of (Ts k) = scalar_size k
  align_of (Tv n k) = vec_align n k
  align_of (Tm c r k) = vec_align r k
  align_of (Ta n t) = align_of t
  align_of (Tu i m) = most_align m

  pub most_align : Tys → ℕ
  most_align [·] = 1
  most_align (t ▸ m) = max (align_of t) (most_align m)

-- the stride of a matrix's columns, each a vector of r
unfoldable pub col_stride : ℕ → Kind → ℕ
col_stride r k = round_up (vec_align r k) (r * scalar_size k)

-- an array's size is its count times its stride, "its element's size rounded up to the element's alignment"; "a
-- struct's members follow one another, each at the next multiple of its alignment", and its size is rounded up to the
-- struct's own
unfoldable mutual
  pub size_of : Ty → ℕ
  size_of (Ts k) = scalar_size k
  size_of (Tv n k) = n * scalar_size k
  size_of (Tm c r k) = c * col_stride r k
  size_of (Ta n t) = n * round_up (align_of t) (size_of t)
  size_of (Tu i m) = round_up (most_align m) (past_last 0 m)

  -- just past the last of the members m, the first of which begins at `at` or at the next multiple of its alignment
  pub past_last : ℕ → Tys → ℕ
  past_last at [·] = at
  past_last at (t ▸ m) = past_last (round_up (align_of t) at + size_of t) m

-- an array's stride, by its element's type
unfoldable pub stride : Ty → ℕ
stride t = round_up (align_of t) (size_of t)

-- where each member begins, counted from the struct's first byte; `at` as above, 0 for a whole struct
unfoldable pub offsets : ℕ → Tys → List ℕ
offsets at [·] = []
offsets at (t ▸ m) = round_up (align_of t) at ∷ offsets (round_up (align_of t) at + size_of t) m

-- ---- the bytes of a value: "padding is written as zero"

unfoldable pub zeros : ℕ → List ℕ
zeros n = replicate n 0

-- the scalars of a vector, one after another, the low byte first
unfoldable pub mem_vec : Kind → List ℕ → List ℕ
mem_vec k ps = joined (le (scalar_size k)) ps

-- a column of a matrix, with the padding behind it
unfoldable pub mem_col : ℕ → Kind → List ℕ → List ℕ
mem_col r k ps = mem_vec k ps ++ zeros (col_stride r k - r * scalar_size k)

unfoldable mutual
  pub mem_bytes : Val → List ℕ
  mem_bytes (Vs k p) = le (scalar_size k) p
  mem_bytes (Vv k ps) = mem_vec k ps
  mem_bytes (Vm c r k ps) = joined (mem_col r k) (columns c r ps)
  mem_bytes (Va l) = mem_elements l
  mem_bytes (Vu i l) = mem_members 0 l ++ zeros (size_of (Tu i (types_of l)) - past_last 0 (types_of l))

  -- each element, with the padding up to the stride
  pub mem_elements : Vals → List ℕ
  mem_elements ⟨⟩ = []
  mem_elements (v ▹ m) = mem_bytes v ++ (zeros (stride (type_of v) - size_of (type_of v)) ++ mem_elements m)

  -- each member, with the padding before it; the members before these end at `at`
  pub mem_members : ℕ → Vals → List ℕ
  mem_members at ⟨⟩ = []
  mem_members at (v ▹ m) =
      zeros (round_up (align_of (type_of v)) at - at) ++ (mem_bytes v ++ mem_members (round_up (align_of (type_of v)) at + size_of (type_of v)) m)

-- ---- the value of bytes: "read it back by its type"; padding is "ignored on reading"

-- the number whose bytes these are, the low byte first
unfoldable pub number_of : List ℕ → ℕ
number_of [] = 0
number_of (b ∷ s) = b + 256 * number_of s

-- what follows from each of n places on, w bytes apart
unfoldable pub apart : ℕ → ℕ → List ℕ → List (List ℕ)
apart zero w s = []
apart (suc n) w s = s ∷ apart n w (drop w s)

-- the payload of a scalar, and of n of them
unfoldable pub mem_scalar : Kind → List ℕ → ℕ
mem_scalar k s = number_of (take (scalar_size k) s)

unfoldable pub mem_scalars : ℕ → Kind → List ℕ → List ℕ
mem_scalars n k s = map (mem_scalar k) (apart n (scalar_size k) s)

-- the value of the type in the first bytes of s: each part is read where it begins
unfoldable mutual
  pub mem_value : Ty → List ℕ → Val
  mem_value (Ts k) s = Vs k (mem_scalar k s)
  mem_value (Tv n k) s = Vv k (mem_scalars n k s)
  mem_value (Tm c r k) s = Vm c r k (flat (map (mem_scalars r k) (apart c (col_stride r k) s)))
  mem_value (Ta n t) s = Va (vals_of (map (mem_value t) (apart n (stride t) s)))
  mem_value (Tu i m) s = Vu i (mem_values 0 m s)

  -- each member from its offset in s
  pub mem_values : ℕ → Tys → List ℕ → Vals
  mem_values at [·] s = ⟨⟩
  mem_values at (t ▸ m) s = mem_value t (drop (round_up (align_of t) at) s) ▹ mem_values (round_up (align_of t) at + size_of t) m s

-- ---- padding

-- so many times the list
unfoldable pub repeat : {A : Type 0} → ℕ → List A → List A
repeat zero l = []
repeat (suc n) l = l ++ repeat n l

-- for each byte of a type, whether it belongs to a scalar; the others are padding
unfoldable mutual
  pub used : Ty → List Bool
  used (Ts k) = replicate (scalar_size k) true
  used (Tv n k) = replicate (n * scalar_size k) true
  used (Tm c r k) = repeat c (replicate (r * scalar_size k) true ++ replicate (col_stride r k - r * scalar_size k) false)
  used (Ta n t) = repeat n (used t ++ replicate (stride t - size_of t) false)
  used (Tu i m) = used_by 0 m ++ replicate (size_of (Tu i m) - past_last 0 m) false

  pub used_by : ℕ → Tys → List Bool
  used_by at [·] = []
  used_by at (t ▸ m) = replicate (round_up (align_of t) at - at) false ++ (used t ++ used_by (round_up (align_of t) at + size_of t) m)

-- the bytes, with zero where there is padding
unfoldable pub cleared : List Bool → List ℕ → List ℕ
cleared [] s = []
cleared (b ∷ u) [] = []
cleared (b ∷ u) (x ∷ s) = cond b x 0 ∷ cleared u s

-- ---- the entries

-- "It refuses a type that holds Bool, an abstract kind or a runtime-sized array (25)"; a shape is no type's record (1)
unfoldable pub laid_type : Target → Result Ty
laid_type (Of t) = need (has_layout t) 25 >> ok t
laid_type (Tr t) = no 25
laid_type Qa = no 1
laid_type (Qv n) = no 1
laid_type (Qm c r) = no 1

-- `write_layout`: one value, the length of the lent buffer
unfoldable pub write_answer : List ℕ → ℕ → Answer
write_answer args room = do
  v ← or_no 2 (read_val args)
  need (has_layout (type_of v)) 25
  need (leb (size_of (type_of v)) room) 22
  ok (mem_bytes v)

-- `read_layout`: target, memory bytes, the length of the lent buffer; "a slice whose length isn't the type's size (26)"
unfoldable pub read_answer : List ℕ → List ℕ → ℕ → Answer
read_answer target memory room = do
  g ← or_no 1 (read_target target)
  t ← laid_type g
  need (eqb (length memory) (size_of t)) 26
  hand_val room (mem_value t memory)

-- `layout_of`: the size and the alignment of a type; 22 where the size is past 64 bits
unfoldable pub layout_answer : List ℕ → Result (ℕ × ℕ)
layout_answer target = do
  g ← or_no 1 (read_target target)
  t ← laid_type g
  need (ltb (size_of t) (2 ^ 64)) 22
  ok (size_of t, align_of t)
