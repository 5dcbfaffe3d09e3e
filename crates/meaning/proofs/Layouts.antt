-- Worked cases of request 02, computed from the definitions: WGSL's table of alignment and size, its two worked
-- structs, bytes with padding, refusals and their order.
use mathlib.Core.Path.{◌≡◌, refl}
use mathlib.Core.List.{List, [], ◌∷◌, ◌++◌, map}
use mathlib.Core.Bool.{true, false}
use Prim.Native.Nat.{ℕ, zero, suc, ◌^◌}
use lib.ListN.{replicate}
use Rattle.meaning.specs.Kinds.{Kind, bool, aint, afloat, i32, u32, f32, f16}
use Rattle.meaning.specs.Trees.{Ty, Ts, Tv, Tm, Ta, Tu, Tys, [·], ◌▸◌, Val, Vs, Vv, Vm, Va, Vu, ⟨⟩, ◌▹◌, type_of}
use Rattle.meaning.specs.Answers.{ok, no}
use Rattle.meaning.specs.Records.{ty_bytes, val_bytes}
use Rattle.meaning.specs.Layout.{align_of, size_of, stride, offsets, mem_bytes, mem_value, used, cleared}
use Rattle.meaning.specs.Layout.{scalar_size, round_up, write_answer, read_answer, layout_answer}
use Rattle.meaning.proofs.Opened.{opened}

-- alignment and size
layout : Ty → ℕ × ℕ
layout t = (align_of t, size_of t)

-- scalar, vec2, vec3, vec4
vectors : Kind → List (ℕ × ℕ)
vectors k = map layout (Ts k ∷ Tv 2 k ∷ Tv 3 k ∷ Tv 4 k ∷ [])

-- 2, 3 and 4 columns of 2, of 3 and of 4
matrices : Kind → List (ℕ × ℕ)
matrices k = map layout (Tm 2 2 k ∷ Tm 3 2 k ∷ Tm 4 2 k ∷ Tm 2 3 k ∷ Tm 3 3 k ∷ Tm 4 3 k ∷ Tm 2 4 k ∷ Tm 3 4 k ∷ Tm 4 4 k ∷ [])

words : List (ℕ × ℕ)
words = (4, 4) ∷ (8, 8) ∷ (16, 12) ∷ (16, 16) ∷ []

-- WGSL's A { u: f32, v: f32, w: vec2<f32>, x: f32 }, and B { a: vec2<f32>, b: vec3<f32>, c: f32, d: f32, e: A, f:
-- vec3<f32>, g: array<A, 3>, h: i32 }
a_members : Tys
a_members = Ts f32 ▸ Ts f32 ▸ Tv 2 f32 ▸ Ts f32 ▸ [·]

b_members : Tys
b_members = Tv 2 f32 ▸ Tv 3 f32 ▸ Ts f32 ▸ Ts f32 ▸ Tu 1 a_members ▸ Tv 3 f32 ▸ Ta 3 (Tu 1 a_members) ▸ Ts i32 ▸ [·]

-- a struct with padding before its second member and behind it: { f16, vec2<f32>, f16 }
gaps : Val
gaps = Vu 7 (Vs f16 0x3C00 ▹ Vv f32 (0x3F800000 ∷ 0x80000000 ∷ []) ▹ Vs f16 0x7E01 ▹ ⟨⟩)

-- the same bytes with b in the padding
bytes : ℕ → List ℕ
bytes b =
    0x00 ∷ 0x3C ∷ replicate 6 b ++ (0x00 ∷ 0x00 ∷ 0x80 ∷ 0x3F ∷ 0x00 ∷ 0x00 ∷ 0x00 ∷ 0x80 ∷ 0x01 ∷ 0x7E ∷ replicate 6 b)

-- n arrays of 32,768 in one another: 2 ^ (15 n) of t
nested : ℕ → Ty → Ty
nested zero t = t
nested (suc n) t = Ta 32768 (nested n t)

-- n structs of one member around a value
inside : ℕ → Val → Val
inside zero v = v
inside (suc n) v = Vu 0 (inside n v ▹ ⟨⟩)

deep : Val
deep = Va (Vu 1 (Va (Vs bool 1 ▹ ⟨⟩) ▹ ⟨⟩) ▹ ⟨⟩)

record Layouts : Type 0 where
  -- WGSL's table
  words_32 : vectors f32 ≡ words
  words_i32 : vectors i32 ≡ words
  words_u32 : vectors u32 ≡ words
  words_bool : scalar_size bool ≡ 4
  halves : vectors f16 ≡ (2, 2) ∷ (4, 4) ∷ (8, 6) ∷ (8, 8) ∷ []
  matrices_32 : matrices f32 ≡ (8, 16) ∷ (8, 24) ∷ (8, 32) ∷ (16, 32) ∷ (16, 48) ∷ (16, 64) ∷ (16, 32) ∷ (16, 48) ∷ (16, 64) ∷ []
  matrices_16 : matrices f16 ≡ (4, 8) ∷ (4, 12) ∷ (4, 16) ∷ (8, 16) ∷ (8, 24) ∷ (8, 32) ∷ (8, 16) ∷ (8, 24) ∷ (8, 32) ∷ []
  -- "each at the next multiple of its alignment"
  next_multiple : map (round_up 8) (0 ∷ 1 ∷ 8 ∷ 9 ∷ []) ≡ 0 ∷ 8 ∷ 8 ∷ 16 ∷ []
  -- "an array's stride is its element's size rounded up to the element's alignment"
  array_of_vec3 : layout (Ta 5 (Tv 3 f32)) ≡ (16, 80)
  array_of_vec3_stride : stride (Tv 3 f32) ≡ 16
  array_of_halves : layout (Ta 5 (Ts f16)) ≡ (2, 10)
  -- WGSL's two structs
  a_offsets : offsets 0 a_members ≡ 0 ∷ 4 ∷ 8 ∷ 16 ∷ []
  a_layout : layout (Tu 1 a_members) ≡ (8, 24)
  b_offsets : offsets 0 b_members ≡ 0 ∷ 16 ∷ 28 ∷ 32 ∷ 40 ∷ 64 ∷ 80 ∷ 152 ∷ []
  b_layout : layout (Tu 2 b_members) ≡ (16, 160)
  -- "padding is written as zero and ignored on reading"
  padding_zero : mem_bytes gaps ≡ bytes 0
  padding_ignored : mem_value (type_of gaps) (bytes 0xAA) ≡ gaps
  padding_where : used (type_of gaps)
      ≡ replicate 2 true ++ (replicate 6 false ++ (replicate 10 true ++ replicate 6 false))
  column_padding : mem_bytes (Vm 2 3 f16 (1 ∷ 2 ∷ 3 ∷ 4 ∷ 5 ∷ 6 ∷ [])) ≡ 1 ∷ 0 ∷ 2 ∷ 0 ∷ 3 ∷ 0 ∷ 0 ∷ 0 ∷ 4 ∷ 0 ∷ 5 ∷ 0 ∷ 6 ∷ 0 ∷ 0 ∷ 0 ∷ []
  padding_behind : mem_bytes (Vu 1 (Vv f32 (0x3F800000 ∷ 1 ∷ 2 ∷ []) ▹ ⟨⟩))
      ≡ 0x00 ∷ 0x00 ∷ 0x80 ∷ 0x3F ∷ 1 ∷ 0 ∷ 0 ∷ 0 ∷ 2 ∷ 0 ∷ 0 ∷ 0 ∷ replicate 4 0
  padding_behind_where : used (Tu 1 (Tv 3 f32 ▸ [·])) ≡ replicate 12 true ++ replicate 4 false
  column_padding_where : used (Tm 2 3 f16) ≡ replicate 6 true ++ (replicate 2 false ++ (replicate 6 true ++ replicate 2 false))
  stride_padding_where : used (Ta 2 (Tv 3 f32)) ≡ replicate 12 true ++ (replicate 4 false ++ (replicate 12 true ++ replicate 4 false))
  padding_cleared : cleared (used (type_of gaps)) (bytes 0xAA) ≡ bytes 0
  -- writing: 2, 25, 22
  write_one : write_answer (val_bytes gaps) 24 ≡ ok (bytes 0)
  write_i32 : write_answer (val_bytes (Vs i32 0x01020304)) 4 ≡ ok (4 ∷ 3 ∷ 2 ∷ 1 ∷ [])
  write_u32 : write_answer (val_bytes (Vs u32 0x01020304)) 4 ≡ ok (4 ∷ 3 ∷ 2 ∷ 1 ∷ [])
  write_depth_15 : write_answer (val_bytes (inside 15 (Vs f16 0x0102))) 2 ≡ ok (2 ∷ 1 ∷ [])
  write_depth_16 : write_answer (val_bytes (inside 16 (Vs f16 0x0102))) 2 ≡ no 2
  write_short : write_answer (val_bytes gaps) 23 ≡ no 22
  write_none : write_answer [] 99 ≡ no 2
  write_two : write_answer (val_bytes (Vs f32 0) ++ val_bytes (Vs f32 0)) 99 ≡ no 2
  write_bool : write_answer (val_bytes (Vs bool 1)) 0 ≡ no 25
  write_abstract : write_answer (val_bytes (Vv aint (1 ∷ 2 ∷ []))) 99 ≡ no 25
  write_deep : write_answer (val_bytes deep) 99 ≡ no 25
  -- reading: 1, 25, 26, 22
  read_one : read_answer (ty_bytes (type_of gaps)) (bytes 0xAA) 53 ≡ ok (val_bytes gaps)
  read_short : read_answer (ty_bytes (Ts f32)) (1 ∷ 2 ∷ 3 ∷ 4 ∷ []) 10 ≡ no 22
  read_shape : read_answer (81 ∷ 97 ∷ []) [] 99 ≡ no 1
  read_shapes : map (λ g. read_answer g [] 99) ((81 ∷ 118 ∷ 2 ∷ []) ∷ (81 ∷ 109 ∷ 2 ∷ 3 ∷ []) ∷ []) ≡ replicate 2 (no 1)
  read_target_lem : read_answer (84 ∷ []) [] 99 ≡ no 1
  read_runtime : read_answer (84 ∷ 114 ∷ ty_bytes (Ts f32)) [] 99 ≡ no 25
  read_bool_first : read_answer (ty_bytes (Ta 2 (Ts bool))) [] 99 ≡ no 25
  read_float_first : read_answer (ty_bytes (Tm 2 2 afloat)) [] 99 ≡ no 25
  read_byte_few : read_answer (ty_bytes (Ts f32)) (1 ∷ 2 ∷ 3 ∷ []) 0 ≡ no 26
  read_byte_many : read_answer (ty_bytes (Ts f16)) (1 ∷ 2 ∷ 3 ∷ []) 99 ≡ no 26
  read_wraps : read_answer (ty_bytes (nested 5 (Ts f32))) [] 99 ≡ no 26
  -- size and alignment: 1, 25, 22
  layout_one : layout_answer (ty_bytes (Tu 2 b_members)) ≡ ok (160, 16)
  layout_most : layout_answer (ty_bytes (nested 4 (Ts f16))) ≡ ok (2 ^ 61, 2)
  layout_63 : layout_answer (ty_bytes (Ta 2 (nested 4 (Ts f32)))) ≡ ok (2 ^ 63, 4)
  layout_past : layout_answer (ty_bytes (Ta 4 (nested 4 (Ts f32)))) ≡ no 22
  layout_shape : layout_answer (81 ∷ 118 ∷ 3 ∷ []) ≡ no 1
  layout_target : layout_answer (84 ∷ []) ≡ no 1
  layout_runtime : layout_answer (84 ∷ 114 ∷ ty_bytes (Ts f32)) ≡ no 25
  layout_bool : layout_answer (ty_bytes (nested 5 (Ts bool))) ≡ no 25

layouts : Layouts
unfolding layout vectors matrices words a_members b_members gaps bytes nested inside deep opened
layouts = record {
  words_32 = refl;
  words_i32 = refl;
  words_u32 = refl;
  words_bool = refl;
  halves = refl;
  matrices_32 = refl;
  matrices_16 = refl;
  next_multiple = refl;
  array_of_vec3 = refl;
  array_of_vec3_stride = refl;
  array_of_halves = refl;
  a_offsets = refl;
  a_layout = refl;
  b_offsets = refl;
  b_layout = refl;
  padding_zero = refl;
  padding_ignored = refl;
  padding_where = refl;
  column_padding = refl;
  padding_behind = refl;
  padding_behind_where = refl;
  column_padding_where = refl;
  stride_padding_where = refl;
  padding_cleared = refl;
  write_one = refl;
  write_i32 = refl;
  write_u32 = refl;
  write_depth_15 = refl;
  write_depth_16 = refl;
  write_short = refl;
  write_none = refl;
  write_two = refl;
  write_bool = refl;
  write_abstract = refl;
  write_deep = refl;
  read_one = refl;
  read_short = refl;
  read_shape = refl;
  read_shapes = refl;
  read_target_lem = refl;
  read_runtime = refl;
  read_bool_first = refl;
  read_float_first = refl;
  read_byte_few = refl;
  read_byte_many = refl;
  read_wraps = refl;
  layout_one = refl;
  layout_most = refl;
  layout_63 = refl;
  layout_past = refl;
  layout_shape = refl;
  layout_target = refl;
  layout_runtime = refl;
  layout_bool = refl;
}
