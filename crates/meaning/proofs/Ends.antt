-- Worked cases of document 01 at the ends of its ranges, computed from the definitions: kinds, scalars, lengths, the program's line.
-- A row is one sentence of the document; most stand in pairs, on either side of an end.
use mathlib.Core.Path.{◌≡◌, refl}
use mathlib.Core.Option.{none, some}
use mathlib.Core.List.{List, [], ◌∷◌, map}
use mathlib.Core.Bool.{true, false}
use Prim.Native.Nat.{ℕ, ◌-◌, ◌^◌}
use lib.ListN.{replicate}
use Rattle.meaning.specs.Kinds.{Kind, bool, aint, afloat, i32, u32, f32, f16, kind_no, kind_of, kind_rank}
use Rattle.meaning.specs.Scalars.{Const, Exec, ctor_test, fits_conv, fits_ctor}
use Rattle.meaning.specs.Trees.{Ts, Tv, Tm, Ta, Tu, [·], ◌▸◌, Vs, Vv, Vm, Va, Vu, ⟨⟩, ◌▹◌, Of}
use Rattle.meaning.specs.Answers.{Answer, ok, no, miscount}
use Rattle.meaning.specs.Records.{ty_bytes, good_lit}
use Rattle.meaning.specs.Entries.{type_answer, line}
use Rattle.meaning.proofs.Calls.{within, builds, ctor, conv, value, lit, type}
use Rattle.meaning.proofs.Opened.{opened}

abbrev kinds : List Kind
kinds = bool ∷ aint ∷ afloat ∷ i32 ∷ u32 ∷ f32 ∷ f16 ∷ []

-- six zeros as a matrix
abbrev zero_matrix : ℕ → ℕ → Answer
zero_matrix c r = value (Vm c r f32 (replicate 6 0))

record Ends : Type 0 where
  -- "the kinds are 0 Bool, 1 AbstractInt (i64), 2 AbstractFloat (f64), 3 I32, 4 U32, 5 F32, 6 F16"
  kind_numbers : map kind_no kinds ≡ 0 ∷ 1 ∷ 2 ∷ 3 ∷ 4 ∷ 5 ∷ 6 ∷ []
  numbered_kinds : map kind_of (0 ∷ 1 ∷ 2 ∷ 3 ∷ 4 ∷ 5 ∷ 6 ∷ 7 ∷ [])
      ≡ some bool ∷ some aint ∷ some afloat ∷ some i32 ∷ some u32 ∷ some f32 ∷ some f16 ∷ none ∷ []
  -- "A type converts to itself (rank 0). AbstractInt to I32 3, U32 4, AbstractFloat 5, F32 6, F16 7. AbstractFloat to F32 1, F16 2."
  kind_ranks : map (λ j. map (kind_rank j) kinds) kinds
      ≡ (some 0 ∷ none ∷ none ∷ none ∷ none ∷ none ∷ none ∷ [])
      ∷ (none ∷ some 0 ∷ some 5 ∷ some 3 ∷ some 4 ∷ some 6 ∷ some 7 ∷ [])
      ∷ (none ∷ none ∷ some 0 ∷ none ∷ none ∷ some 1 ∷ some 2 ∷ [])
      ∷ (none ∷ none ∷ none ∷ some 0 ∷ none ∷ none ∷ none ∷ [])
      ∷ (none ∷ none ∷ none ∷ none ∷ some 0 ∷ none ∷ none ∷ [])
      ∷ (none ∷ none ∷ none ∷ none ∷ none ∷ some 0 ∷ none ∷ [])
      ∷ (none ∷ none ∷ none ∷ none ∷ none ∷ none ∷ some 0 ∷ [])
      ∷ []
  -- "8 payload bytes; unused high bytes are zero"
  most_i32 : ctor 0 i32 i32 (2 ^ 32 - 1) ≡ lit i32 (2 ^ 32 - 1)
  past_i32 : builds 0 (Of (Ts i32)) (Vs i32 (2 ^ 32) ∷ []) ≡ no 2
  most_f32 : ctor 0 f32 f32 (2 ^ 32 - 1) ≡ lit f32 (2 ^ 32 - 1)
  past_f32 : builds 0 (Of (Ts f32)) (Vs f32 (2 ^ 32) ∷ []) ≡ no 2
  most_f16 : ctor 0 f16 f16 (2 ^ 16 - 1) ≡ lit f16 (2 ^ 16 - 1)
  past_f16 : builds 0 (Of (Ts f16)) (Vs f16 (2 ^ 16) ∷ []) ≡ no 2
  most_long : map (λ k. good_lit k (2 ^ 64 - 1)) kinds ≡ false ∷ true ∷ true ∷ false ∷ false ∷ false ∷ false ∷ []
  past_long : map (λ k. good_lit k (2 ^ 64)) kinds ≡ replicate 7 false
  -- "bool: false for zero of either sign, else true, NaN too"
  smallest_true : ctor 0 bool afloat 1 ≡ lit bool 1
  infinite_true : ctor 0 bool f16 0x7C00 ≡ lit bool 1
  -- "i32: AbstractInt must fit (15). U32 keeps its bits. Floats go toward zero, saturate"
  i32_most : ctor 0 i32 aint (2 ^ 31 - 1) ≡ lit i32 (2 ^ 31 - 1)
  i32_least : ctor 0 i32 aint (2 ^ 64 - 2 ^ 31) ≡ lit i32 (2 ^ 31)
  i32_below : ctor 0 i32 aint (2 ^ 64 - 2 ^ 31 - 1) ≡ no 15
  i32_keeps : ctor 0 i32 u32 (2 ^ 32 - 1) ≡ lit i32 (2 ^ 32 - 1)
  i32_saturates : ctor 0 i32 afloat 0x4270000000000000 ≡ lit i32 (2 ^ 31 - 1)
  i32_saturates_low : ctor 0 i32 afloat 0xC270000000000000 ≡ lit i32 (2 ^ 31)
  i32_infinite_low : ctor 0 i32 f32 0xFF800000 ≡ lit i32 (2 ^ 31)
  i32_minus_zero : ctor 0 i32 f32 0x80000000 ≡ lit i32 0
  -- "u32 likewise: I32 keeps its bits; negative floats give 0; .. from F16 at most 65504"
  u32_most : ctor 0 u32 aint (2 ^ 32 - 1) ≡ lit u32 (2 ^ 32 - 1)
  u32_above : ctor 0 u32 aint (2 ^ 32) ≡ no 15
  u32_below : ctor 0 u32 aint (2 ^ 64 - 1) ≡ no 15
  u32_saturates : ctor 0 u32 afloat 0x4270000000000000 ≡ lit u32 (2 ^ 32 - 1)
  u32_from_f16 : ctor 0 u32 f16 0x7C00 ≡ lit u32 65504
  -- "signed integers are two's complement"; "to i32, u32, f32 and f16 Bool gives 0 or 1"
  least_i32 : ctor 0 f32 i32 (2 ^ 31) ≡ lit f32 0xCF000000
  least_long : ctor 0 f32 aint (2 ^ 63) ≡ lit f32 0xDF000000
  most_u32 : ctor 0 f32 u32 (2 ^ 32 - 1) ≡ lit f32 0x4F800000
  truth_f32 : ctor 0 f32 bool 1 ≡ lit f32 0x3F800000
  truth_i32 : ctor 0 i32 bool 1 ≡ lit i32 1
  -- "f32: at Const an AbstractFloat outside the finite f32 range, or NaN, is 21. Other stages give infinity or NaN"
  const_infinite : ctor 0 f32 afloat 0x7FF0000000000000 ≡ no 21
  exec_plus_infinite : ctor 2 f32 afloat 0x7FF0000000000000 ≡ lit f32 0x7F800000
  exec_minus_infinite : ctor 2 f32 afloat 0xFFF0000000000000 ≡ lit f32 0xFF800000
  infinite_f16 : ctor 0 f32 f16 0x7C00 ≡ lit f32 0x7F800000
  subnormal_f16 : ctor 0 f32 f16 1 ≡ lit f32 0x33800000
  -- "f16: at Const AbstractInt, AbstractFloat, I32, U32, F32 outside −65504 to 65504, or NaN, is 21"
  f16_afloat : ctor 0 f16 afloat 0x40EFFC0000000000 ≡ lit f16 0x7BFF
  f16_afloat_not : ctor 0 f16 afloat 0x40EFFC2000000000 ≡ no 21
  f16_i32 : ctor 0 f16 i32 (2 ^ 32 - 65504) ≡ lit f16 0xFBFF
  f16_i32_not : ctor 0 f16 i32 (2 ^ 32 - 65505) ≡ no 21
  f16_u32_not : ctor 0 f16 u32 65505 ≡ no 21
  f16_f32_not : ctor 0 f16 f32 0x477FE100 ≡ no 21
  f16_made_nan : ctor 2 f16 f32 0xFFC00001 ≡ lit f16 0x7E00
  -- conversion: "an integer within the target's range, a float result finite"; ties to even
  conv_i32_most : conv i32 aint (2 ^ 31 - 1) ≡ lit i32 (2 ^ 31 - 1)
  conv_i32_above : conv i32 aint (2 ^ 31) ≡ no 9
  conv_i32_least : conv i32 aint (2 ^ 64 - 2 ^ 31) ≡ lit i32 (2 ^ 31)
  conv_i32_below : conv i32 aint (2 ^ 64 - 2 ^ 31 - 1) ≡ no 9
  conv_u32_most : conv u32 aint (2 ^ 32 - 1) ≡ lit u32 (2 ^ 32 - 1)
  conv_u32_above : conv u32 aint (2 ^ 32) ≡ no 9
  conv_u32_zero : conv u32 aint 0 ≡ lit u32 0
  conv_tie_long : conv afloat aint 9007199254740993 ≡ lit afloat 0x4340000000000000
  conv_minus_zero : conv f32 afloat 0x8000000000000000 ≡ lit f32 0x80000000
  -- of the constructors i32 and u32 alone refuse with 15, and f32 and f16 alone with 21
  tests_nan : map (λ k. ctor_test Const k afloat 0x7FF8000000000000) kinds ≡ 0 ∷ 0 ∷ 0 ∷ 0 ∷ 0 ∷ 21 ∷ 21 ∷ []
  tests_long : map (λ k. ctor_test Const k aint (2 ^ 40)) kinds ≡ 0 ∷ 0 ∷ 0 ∷ 15 ∷ 15 ∷ 0 ∷ 21 ∷ []
  -- what fits by conversion: to Bool and to AbstractInt no other kind, and no NaN or infinity an integer's range
  fits_kinds : map (λ k. fits_conv k aint 1) kinds ≡ false ∷ true ∷ true ∷ true ∷ true ∷ true ∷ true ∷ []
  fits_no_integer : map (λ k. fits_conv k f32 0x3F800000) (aint ∷ bool ∷ []) ≡ false ∷ false ∷ []
  fits_no_nan : map (λ k. fits_conv k afloat 0x7FF8000000000000) kinds ≡ false ∷ false ∷ true ∷ false ∷ false ∷ false ∷ false ∷ []
  fits_no_infinity : map (λ k. fits_conv k afloat 0x7FF0000000000000) kinds ≡ false ∷ false ∷ true ∷ false ∷ false ∷ false ∷ false ∷ []
  -- "So 65505 fits F16 by conversion, and not in f16 at Const (P6, P7)"
  fits_by_conversion : fits_conv f16 aint 65505 ≡ true
  fits_not_at_const : fits_ctor Const f16 aint 65505 ≡ false
  fits_at_exec : fits_ctor Exec f16 aint 65505 ≡ true
  -- 22: "a value of that type, whose length follows from the type"
  room_vector : within 36 0 (Of (Tv 3 f32)) [] ≡ value (Vv f32 (0 ∷ 0 ∷ 0 ∷ []))
  room_vector_not : within 35 0 (Of (Tv 3 f32)) [] ≡ no 22
  room_matrix : within 76 0 (Of (Tm 2 3 f32)) [] ≡ zero_matrix 2 3
  room_matrix_not : within 75 0 (Of (Tm 2 3 f32)) [] ≡ no 22
  room_columns : within 79 0 (Of (Tm 3 2 f32)) [] ≡ zero_matrix 3 2
  room_columns_not : within 78 0 (Of (Tm 3 2 f32)) [] ≡ no 22
  room_array : within 26 0 (Of (Ta 2 (Ts i32))) [] ≡ value (Va (Vs i32 0 ▹ Vs i32 0 ▹ ⟨⟩))
  room_array_not : within 25 0 (Of (Ta 2 (Ts i32))) [] ≡ no 22
  room_struct : within 28 0 (Of (Tu 9 (Ts i32 ▸ Ts f16 ▸ [·]))) [] ≡ value (Vu 9 (Vs i32 0 ▹ Vs f16 0 ▹ ⟨⟩))
  room_struct_not : within 27 0 (Of (Tu 9 (Ts i32 ▸ Ts f16 ▸ [·]))) [] ≡ no 22
  room_type : type_answer (ty_bytes (Tm 2 3 f32)) [] 7 ≡ type (Tm 2 3 f32)
  room_type_not : type_answer (ty_bytes (Tm 2 3 f32)) [] 6 ≡ no 22
  -- "lower-case hex"; "numbers in decimal"
  hex_digits : line (ok (0x01 ∷ 0x9A ∷ 0xBC ∷ 0xF8 ∷ []))
      ≡ 111 ∷ 107 ∷ 32 ∷ 48 ∷ 49 ∷ 57 ∷ 97 ∷ 98 ∷ 99 ∷ 102 ∷ 56 ∷ 10 ∷ []
  decimal_9 : line (miscount 9 10) ≡ 110 ∷ 111 ∷ 32 ∷ 56 ∷ 32 ∷ 57 ∷ 32 ∷ 49 ∷ 48 ∷ 10 ∷ []
  decimal_100 : line (miscount 99 100) ≡ 110 ∷ 111 ∷ 32 ∷ 56 ∷ 32 ∷ 57 ∷ 57 ∷ 32 ∷ 49 ∷ 48 ∷ 48 ∷ 10 ∷ []

ends : Ends
unfolding within builds ctor conv value lit type opened
ends =
    record {
      kind_numbers = refl;
      numbered_kinds = refl;
      kind_ranks = refl;
      most_i32 = refl;
      past_i32 = refl;
      most_f32 = refl;
      past_f32 = refl;
      most_f16 = refl;
      past_f16 = refl;
      most_long = refl;
      past_long = refl;
      smallest_true = refl;
      infinite_true = refl;
      i32_most = refl;
      i32_least = refl;
      i32_below = refl;
      i32_keeps = refl;
      i32_saturates = refl;
      i32_saturates_low = refl;
      i32_infinite_low = refl;
      i32_minus_zero = refl;
      u32_most = refl;
      u32_above = refl;
      u32_below = refl;
      u32_saturates = refl;
      u32_from_f16 = refl;
      least_i32 = refl;
      least_long = refl;
      most_u32 = refl;
      truth_f32 = refl;
      truth_i32 = refl;
      const_infinite = refl;
      exec_plus_infinite = refl;
      exec_minus_infinite = refl;
      infinite_f16 = refl;
      subnormal_f16 = refl;
      f16_afloat = refl;
      f16_afloat_not = refl;
      f16_i32 = refl;
      f16_i32_not = refl;
      f16_u32_not = refl;
      f16_f32_not = refl;
      f16_made_nan = refl;
      conv_i32_most = refl;
      conv_i32_above = refl;
      conv_i32_least = refl;
      conv_i32_below = refl;
      conv_u32_most = refl;
      conv_u32_above = refl;
      conv_u32_zero = refl;
      conv_tie_long = refl;
      conv_minus_zero = refl;
      tests_nan = refl;
      tests_long = refl;
      fits_kinds = refl;
      fits_no_integer = refl;
      fits_no_nan = refl;
      fits_no_infinity = refl;
      fits_by_conversion = refl;
      fits_not_at_const = refl;
      fits_at_exec = refl;
      room_vector = refl;
      room_vector_not = refl;
      room_matrix = refl;
      room_matrix_not = refl;
      room_columns = refl;
      room_columns_not = refl;
      room_array = refl;
      room_array_not = refl;
      room_struct = refl;
      room_struct_not = refl;
      room_type = refl;
      room_type_not = refl;
      hex_digits = refl;
      decimal_9 = refl;
      decimal_100 = refl;
    }
