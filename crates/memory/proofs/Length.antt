-- The bytes of a value in memory are as many as its type's size.
use mathlib.Core.Path.{◌≡◌, sym, ap, ◌∙◌}
use mathlib.Core.List.{List, [], ◌∷◌, ◌++◌}
use Prim.Native.Nat.{ℕ, zero, suc, ◌+◌, ◌-◌, ◌*◌, ◌≤◌}
use native.Mathlib.Omega.{arith}
use native.Mathlib.Nat.{suc-mul, zero-mul, mod_self}
use lib.Dec.{T, eqb, eqb→eq}
use lib.ListN.{length, take, drop, length-append, length-replicate}
use Rattle.meaning.specs.Kinds.{Kind}
use Rattle.meaning.specs.Trees.{Ty, Ts, Tv, Tm, Ta, Tu, Tys, [·], ◌▸◌, Val, Vs, Vv, Vm, Va, Vu, Vals, ⟨⟩, ◌▹◌, type_of, types_of, first}
use Rattle.meaning.specs.Trees.{count_vals}
use Rattle.meaning.specs.Records.{le, ty_bytes, joined, columns, every, good_lit, shaped_val, shaped_vals, all_same}
use Rattle.meaning.specs.Layout.{scalar_size, round_up, vec_align, align_of, most_align, col_stride, size_of, past_last, stride, zeros, mem_vec}
use Rattle.meaning.specs.Layout.{mem_col, mem_bytes, mem_elements, mem_members}
use Rattle.laws.proofs.AgreeConv.{AllTy, all_first}
use Rattle.laws.proofs.Back.{and_l, and_r}
use Rattle.laws.proofs.BackVal.{drop_len, take_len}
use Rattle.laws.proofs.Length.{le_len}
use Rattle.memory.proofs.RoundUp.{up_more, up_same, vec_align_lem, align_is, most_align_lem}

pub zeros_len : (n : ℕ) → length (zeros n) ≡ n
unfolding zeros
zeros_len n = length-replicate n 0

-- a type's record has places in the table for the padding inside it and for that before it
pub type_long : (t : Ty) → 3 ≤ length (ty_bytes t)
unfolding ty_bytes le
type_long (Ts k) = omega arith
type_long (Tv n k) = omega arith
type_long (Tm c r k) = omega arith
type_long (Ta n t) = omega arith
type_long (Tu i m) = omega arith

-- ---- padding only adds

pub col_more : (r : ℕ) (k : Kind) → r * scalar_size k ≤ col_stride r k
unfolding col_stride
col_more r k = up_more (vec_align r k) (vec_align_lem r k) (r * scalar_size k)

pub stride_more : (t : Ty) → size_of t ≤ stride t
unfolding stride
stride_more t = up_more (align_of t) (align_is t) (size_of t)

pub last_more : (i : ℕ) (m : Tys) → past_last 0 m ≤ size_of (Tu i m)
unfolding size_of
last_more i m = up_more (most_align m) (most_align_lem m) (past_last 0 m)

-- the members end behind where they begin
pub past_more : (at : ℕ) (m : Tys) → at ≤ past_last at m
unfolding size_of
past_more at [·] = omega arith
past_more at (t ▸ m) = omega (arith, up_more (align_of t) (align_is t) at, past_more (round_up (align_of t) at + size_of t) m)

-- scalars in an array lie close
pub scalar_stride : (k : Kind) → stride (Ts k) ≡ scalar_size k
unfolding stride align_of size_of
scalar_stride k = up_same (scalar_size k) (align_is (Ts k)) (scalar_size k) (mod_self (scalar_size k))

-- ---- lengths

pub vec_size : (k : Kind) (ps : List ℕ) → length (mem_vec k ps) ≡ length ps * scalar_size k
unfolding mem_vec joined
vec_size k [] = sym (zero-mul (scalar_size k))
vec_size k (p ∷ ps) =
    length-append (le (scalar_size k) p) (joined (le (scalar_size k)) ps)
    ∙ omega (arith, le_len (scalar_size k) p, vec_size k ps, suc-mul (length ps) (scalar_size k))

pub col_size : (r : ℕ) (k : Kind) (ps : List ℕ) → length ps ≡ r → length (mem_col r k ps) ≡ col_stride r k
unfolding mem_col
col_size r k ps h =
    length-append (mem_vec k ps) (zeros (col_stride r k - r * scalar_size k))
    ∙ omega (arith, vec_size k ps ∙ ap (λ (n : ℕ). n * scalar_size k) h, zeros_len (col_stride r k - r * scalar_size k), col_more r k)

cols_size : (k : Kind) (c r : ℕ) (ps : List ℕ) → length ps ≡ c * r → length (joined (mem_col r k) (columns c r ps)) ≡ c * col_stride r k
unfolding joined columns
cols_size k zero r ps h = sym (zero-mul (col_stride r k))
cols_size k (suc c) r ps h =
    length-append (mem_col r k (take r ps)) (joined (mem_col r k) (columns c r (drop r ps)))
    ∙ omega (
      arith,
      col_size r k (take r ps) (take_len c r ps h),
      cols_size k c r (drop r ps) (drop_len c r ps h),
      suc-mul c
          (col_stride r k),
    )

mutual
  unfolding mem_bytes size_of type_of shaped_val count_vals stride

  pub mem_size : (v : Val) → T (shaped_val v) → length (mem_bytes v) ≡ size_of (type_of v)
  mem_size (Vs k p) g = le_len (scalar_size k) p
  mem_size (Vv k ps) g = vec_size k ps
  mem_size (Vm c r k ps) g = cols_size k c r ps (eqb→eq (length ps) (c * r) (and_r (every (good_lit k) ps) (eqb (length ps) (c * r)) g))
  mem_size (Va l) g =
      let a = all_first l (and_l (all_same (types_of l)) (shaped_vals l) g) in
      elements_size (first (types_of l)) l a (and_r (all_same (types_of l)) (shaped_vals l) g)
  mem_size (Vu i l) g =
      let n = size_of (Tu i (types_of l)) - past_last 0 (types_of l) in
      length-append (mem_members 0 l) (zeros n) ∙ omega (arith, members_size 0 l g, zeros_len n, last_more i (types_of l))

  pub elements_size : (t : Ty) (l : Vals) → AllTy t l → T (shaped_vals l) → length (mem_elements l) ≡ count_vals l * stride t
  elements_size t ⟨⟩ a g = sym (zero-mul (stride t))
  elements_size t (v ▹ l) a g =
      let n = stride (type_of v) - size_of (type_of v) in
      let s : stride (type_of v) ≡ stride t = ap stride a.0 in
      length-append (mem_bytes v) (zeros n ++ mem_elements l)
      ∙ omega (
        arith,
        length-append (zeros n) (mem_elements l),
        zeros_len n,
        stride_more (type_of v),
        mem_size v (and_l (shaped_val v) (shaped_vals l) g),
        elements_size t l a.1 (and_r (shaped_val v) (shaped_vals l) g),
        suc-mul (count_vals l) (stride t),
      )

  pub members_size : (at : ℕ) (l : Vals) → T (shaped_vals l) → at + length (mem_members at l) ≡ past_last at (types_of l)
  members_size at ⟨⟩ g = omega arith
  members_size at (v ▹ l) g =
      let a = align_of (type_of v) in
      let n = round_up a at - at in
      let next = round_up a at + size_of (type_of v) in
      let e = length-append (zeros n) (mem_bytes v ++ mem_members next l) in
      let f = length-append (mem_bytes v) (mem_members next l) in
      let b = mem_size v (and_l (shaped_val v) (shaped_vals l) g) in
      let r = members_size next l (and_r (shaped_val v) (shaped_vals l) g) in
      let s : at + length (mem_members at (v ▹ l)) ≡ next + length (mem_members next l) = omega
      (arith, e, f, b, zeros_len n, up_more a (align_is (type_of v)) at) in
      s ∙ r
