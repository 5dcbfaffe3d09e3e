-- Worked cases of document 01 beyond P1 to P12, computed from the definitions: the order of refusals, the stages, the
-- ranks, the limits, the buffer. A row is one sentence of the document.
use mathlib.Core.Path.{◌≡◌, refl}
use mathlib.Core.List.{[], ◌∷◌, ◌++◌}
use Prim.Native.Nat.{ℕ, zero, suc, ◌-◌, ◌^◌}
use lib.ListN.{replicate}
use Rattle.meaning.specs.Kinds.{bool, aint, afloat, i32, u32, f32, f16}
use Rattle.meaning.specs.Trees.{Ty, Ts, Tv, Tm, Ta, Tu, [·], ◌▸◌, Val, Vs, Vv, Vm, Va, Vu, ⟨⟩, ◌▹◌, Of, Tr, Qa, Qv, Qm}
use Rattle.meaning.specs.Answers.{ok, no, miscount}
use Rattle.meaning.specs.Records.{ty_bytes, val_bytes, target_bytes}
use Rattle.meaning.specs.Entries.{build_answer, type_answer, convert_answer, rank_answer, laid, run_ctor}
use Rattle.meaning.proofs.Calls.{within, builds, types, converts, ranks, ctor, conv, value, lit, type}
use Rattle.meaning.proofs.Opened.{opened}

one : Val
one = Vs f32 0x3F800000

two : Val
two = Vv f32 (0 ∷ 0x3F800000 ∷ [])

three : Val
three = Vv f32 (0 ∷ 0 ∷ 0 ∷ [])

four : Val
four = Vm 2 2 f32 (0 ∷ 0 ∷ 0 ∷ 0 ∷ [])

nan64 : ℕ
nan64 = 0x7FF8000000000000

-- n structs of one member around a type
deep : ℕ → Ty → Ty
deep zero t = t
deep (suc n) t = Tu 0 (deep n t ▸ [·])

record Cases : Type 0 where
  -- order: 3, 1, 2, then the rules, then 22
  stage_first : build_answer 3 [] (1 ∷ []) 0 ≡ no 3
  target_next : build_answer 2 (0x54 ∷ []) (1 ∷ []) 0 ≡ no 1
  then_arguments : build_answer 0 (ty_bytes (Ts f32)) (1 ∷ []) 0 ≡ no 2
  rules_before_room : within 0 0 (Of (Ts f32)) (Vs afloat nan64 ∷ []) ≡ no 21
  room_last : within 10 0 (Of (Ts f32)) (one ∷ []) ≡ no 22
  room_enough : within 11 0 (Of (Ts f32)) (one ∷ []) ≡ value one
  -- the buffer at exit
  laid_front : laid (within 12 0 (Of (Ts bool)) (Vs bool 1 ∷ [])) (replicate 12 7) ≡ val_bytes (Vs bool 1) ++ (7 ∷ [])
  laid_not : laid (within 12 0 (Of (Ts bool)) (four ∷ [])) (replicate 12 7) ≡ replicate 12 7
  -- stages; "at Override, f32 and f16 now give 21 wherever Const does" (document 02, request 03)
  const_not : ctor 0 f32 afloat 0x7FEFFFFFFFFFFFFF ≡ no 21
  override_not : ctor 1 f32 afloat 0x7FEFFFFFFFFFFFFF ≡ no 21
  exec_infinite : ctor 2 f32 afloat 0x7FEFFFFFFFFFFFFF ≡ lit f32 0x7F800000
  override_half : ctor 1 f16 aint 65505 ≡ no 21
  override_nan : ctor 1 f16 f32 0x7FC00000 ≡ no 21
  override_vector : builds 1 (Of (Tv 2 f32)) (Vv afloat (0 ∷ 0x7FEFFFFFFFFFFFFF ∷ []) ∷ []) ≡ no 21
  exec_vector : builds 2 (Of (Tv 2 f32)) (Vv afloat (0 ∷ 0x7FEFFFFFFFFFFFFF ∷ []) ∷ []) ≡ value (Vv f32 (0 ∷ 0x7F800000 ∷ []))
  override_matrix : builds 1 (Of (Tm 2 2 f16)) (Vm 2 2 f32 (0 ∷ 0 ∷ 0 ∷ 0x47800000 ∷ []) ∷ []) ≡ no 21
  exec_matrix : builds 2 (Of (Tm 2 2 f16)) (Vm 2 2 f32 (0 ∷ 0 ∷ 0 ∷ 0x47800000 ∷ []) ∷ []) ≡ value (Vm 2 2 f16 (0 ∷ 0 ∷ 0 ∷ 0x7C00 ∷ []))
  largest_passes : ctor 0 f16 aint 65504 ≡ lit f16 0x7BFF
  override_largest : ctor 1 f16 aint 65504 ≡ lit f16 0x7BFF
  stage_free : ctor 2 i32 aint (2 ^ 31) ≡ no 15
  -- scalar constructors
  keeps_bits_lem : ctor 0 u32 i32 (2 ^ 32 - 1) ≡ lit u32 (2 ^ 32 - 1)
  toward_zero : ctor 0 i32 afloat 0xBFFFFFFFFFFFFFFF ≡ lit i32 (2 ^ 32 - 1)
  negative_is_zero : ctor 0 u32 f16 0xBC00 ≡ lit u32 0
  low_end : ctor 0 i32 f16 0xFC00 ≡ lit i32 (2 ^ 32 - 65504)
  nan_is_zero : ctor 0 i32 afloat nan64 ≡ lit i32 0
  made_nan : ctor 2 f32 afloat 0xFFF0000000000001 ≡ lit f32 0x7FC00000
  kept_nan : ctor 0 f16 f16 0xFFFF ≡ lit f16 0xFFFF
  truth : ctor 0 f16 bool 1 ≡ lit f16 0x3C00
  not_scalar : builds 0 (Of (Ts f32)) (two ∷ []) ≡ no 6
  two_of_them : builds 0 (Of (Ts f32)) (one ∷ one ∷ []) ≡ no 5
  abstract_first : builds 0 (Of (Ts aint)) (one ∷ one ∷ []) ≡ no 4
  -- conversion: ties to even, both ways, and what does not fit
  tie_down : conv f32 aint 16777217 ≡ lit f32 0x4B800000
  tie_up : conv f32 aint 16777219 ≡ lit f32 0x4B800002
  tie_subnormal : conv f32 afloat 0x3690000000000000 ≡ lit f32 0
  past_the_tie : conv f32 afloat 0x3690000000000001 ≡ lit f32 1
  nan_does_not_fit : conv f32 afloat nan64 ≡ no 9
  overflow_does_not : conv f32 afloat 0x47EFFFFFF0000000 ≡ no 9
  integer_range : conv u32 aint (2 ^ 64 - 1) ≡ no 9
  -- ranks
  rank_self : ranks (Of (Ts i32)) (Ts i32) ≡ ok 0
  rank_1 : ranks (Of (Ts f32)) (Ts afloat) ≡ ok 1
  rank_2 : ranks (Of (Tv 2 f16)) (Tv 2 afloat) ≡ ok 2
  rank_3 : ranks (Of (Ts i32)) (Ts aint) ≡ ok 3
  rank_4 : ranks (Of (Ta 9 (Ts u32))) (Ta 9 (Ts aint)) ≡ ok 4
  rank_5 : ranks (Of (Ts afloat)) (Ts aint) ≡ ok 5
  rank_6 : ranks (Of (Ts f32)) (Ts aint) ≡ ok 6
  rank_7 : ranks (Of (Ts f16)) (Ts aint) ≡ ok 7
  rank_none : ranks (Of (Ts f32)) (Ts i32) ≡ no 9
  rank_shape : rank_answer (target_bytes Qa) (ty_bytes (Ts i32)) ≡ no 1
  rank_runtime : ranks (Tr (Ts i32)) (Ta 1 (Ts i32)) ≡ no 9
  convert_shape : convert_answer (target_bytes (Qv 2)) [] 99 ≡ no 1
  convert_none : convert_answer (ty_bytes (Ts f32)) [] 99 ≡ no 2
  convert_runtime : converts (Tr (Ts f32)) (Va (Vs aint 1 ▹ ⟨⟩)) ≡ value (Va (one ▹ ⟨⟩))
  -- vectors
  repeated : builds 0 (Of (Tv 2 f32)) (Vs aint 1 ∷ []) ≡ value (Vv f32 (0x3F800000 ∷ 0x3F800000 ∷ []))
  repeated_not : builds 0 (Of (Tv 2 i32)) (Vs afloat 0 ∷ []) ≡ no 9
  equal_n : builds 0 (Of (Tv 2 f16)) (three ∷ []) ≡ no 7
  through_ctor : builds 0 (Of (Tv 2 bool)) (two ∷ []) ≡ value (Vv bool (0 ∷ 1 ∷ []))
  abstract_vector : builds 0 (Of (Tv 2 aint)) (two ∷ []) ≡ no 12
  flattened_count : builds 0 (Of (Tv 4 i32)) (one ∷ three ∷ two ∷ []) ≡ miscount 4 6
  flattened_then_9 : builds 0 (Of (Tv 4 i32)) (one ∷ three ∷ []) ≡ no 9
  qv_zero : builds 0 (Qv 2) [] ≡ value (Vv aint (0 ∷ 0 ∷ []))
  qv_count_first : builds 0 (Qv 2) (Vs i32 1 ∷ Vs afloat 0 ∷ one ∷ []) ≡ miscount 2 3
  qv_scalars_last : builds 0 (Qv 2) (four ∷ four ∷ []) ≡ no 12
  qv_common_first : builds 0 (Qv 2) (four ∷ one ∷ []) ≡ no 10
  type_single : types (Of (Tv 2 f32)) (Ts i32 ∷ []) ≡ no 7
  type_several : types (Of (Tv 2 f32)) (Ts i32 ∷ Ts f32 ∷ []) ≡ no 12
  type_number : types (Of (Tv 2 f32)) (Tv 2 f32 ∷ Tv 2 f32 ∷ []) ≡ miscount 2 2
  type_abstract : types (Of (Tv 2 afloat)) [] ≡ no 16
  type_qv_one_lem : types (Qv 2) (Tv 3 f32 ∷ []) ≡ no 12
  -- arrays and structs
  conversion_before_count : builds 0 (Of (Ta 3 (Ts i32))) (Vs i32 1 ∷ one ∷ []) ≡ no 9
  runtime_counts : builds 0 (Of (Ta 2 (Ts f32))) (one ∷ one ∷ []) ≡ builds 0 (Tr (Ts f32)) (one ∷ one ∷ [])
  runtime_none : builds 0 (Tr (Ts f32)) [] ≡ no 4
  runtime_typing : types (Tr (Ts f32)) [] ≡ no 16
  qa_none : builds 0 Qa [] ≡ no 11
  qa_typing_none : types Qa [] ≡ no 10
  qa_common : builds 0 Qa (Vs aint 1 ∷ one ∷ []) ≡ value (Va (one ▹ one ▹ ⟨⟩))
  qa_not : builds 0 Qa (Vs i32 1 ∷ one ∷ []) ≡ no 10
  struct_count_first : builds 0 (Of (Tu 5 (Ts i32 ▸ Ts f32 ▸ [·]))) (one ∷ []) ≡ miscount 2 1
  struct_then_9 : builds 0 (Of (Tu 5 (Ts i32 ▸ Ts f32 ▸ [·]))) (one ∷ one ∷ []) ≡ no 9
  struct_equal_only : builds 0 (Of (Ta 1 (Tu 5 (Ts f32 ▸ [·])))) (Vu 5 (Vs aint 1 ▹ ⟨⟩) ∷ []) ≡ no 9
  type_element : types (Of (Ta 3 (Ts i32))) (Ts f32 ∷ []) ≡ no 7
  type_member : types (Of (Tu 5 (Ts i32 ▸ [·]))) (Ts f32 ∷ []) ≡ no 9
  type_struct_lem : types (Of (Tu 5 (Ts f32 ▸ [·]))) (Ts aint ∷ []) ≡ type (Tu 5 (Ts f32 ▸ [·]))
  -- matrices
  mat_size : builds 0 (Of (Tm 2 3 f32)) (four ∷ []) ≡ no 7
  mat_abstract : builds 0 (Of (Tm 2 2 afloat)) (four ∷ []) ≡ no 13
  mat_first : builds 0 (Of (Tm 2 2 f32)) (Vs i32 1 ∷ one ∷ []) ≡ no 7
  mat_all : builds 0 (Of (Tm 2 2 f32)) (one ∷ Vs i32 1 ∷ []) ≡ no 10
  mat_rows_first : builds 0 (Of (Tm 2 2 f32)) (three ∷ three ∷ three ∷ []) ≡ no 14
  mat_columns : builds 0 (Of (Tm 2 2 f32)) (two ∷ two ∷ two ∷ []) ≡ miscount 2 3
  mat_scalars : builds 0 (Of (Tm 2 2 f32)) (one ∷ one ∷ []) ≡ miscount 4 2
  mat_else : builds 0 (Of (Tm 2 2 f32)) (four ∷ four ∷ []) ≡ no 13
  qm_none : builds 0 (Qm 2 2) [] ≡ no 11
  qm_float : builds 0 (Qm 2 2) (Vs i32 1 ∷ []) ≡ no 13
  qm_rows_first : builds 0 (Qm 2 2) (three ∷ three ∷ three ∷ []) ≡ no 14
  qm_abstract : builds 0 (Qm 2 2) (Vv aint (1 ∷ 0 ∷ []) ∷ Vv aint (0 ∷ 1 ∷ []) ∷ [])
      ≡ value (Vm 2 2 afloat (0x3FF0000000000000 ∷ 0 ∷ 0 ∷ 0x3FF0000000000000 ∷ []))
  type_rows_first : types (Qm 2 2) (Tv 3 f32 ∷ Tv 3 f32 ∷ Tv 3 f32 ∷ []) ≡ no 14
  -- limits
  depth_15 : types (Of (deep 15 (Ts f32))) [] ≡ type (deep 15 (Ts f32))
  depth_16 : types (Of (deep 16 (Ts f32))) [] ≡ no 1
  matrix_15 : types (Of (deep 13 (Tm 2 2 f32))) [] ≡ type (deep 13 (Tm 2 2 f32))
  matrix_16 : types (Of (deep 14 (Tm 2 2 f32))) [] ≡ no 1
  runtime_15 : builds 0 (Tr (deep 14 (Ts f32))) [] ≡ no 4
  runtime_16 : builds 0 (Tr (deep 15 (Ts f32))) [] ≡ no 1
  depth_qa_14 : types Qa (deep 12 (Tm 2 2 f32) ∷ []) ≡ type (Ta 1 (deep 12 (Tm 2 2 f32)))
  depth_qa_15 : types Qa (deep 13 (Tm 2 2 f32) ∷ []) ≡ no 2
  bool_2 : builds 0 (Of (Ts bool)) (Vs bool 2 ∷ []) ≡ no 2
  high_bytes : builds 0 (Of (Ts u32)) (Vs u32 (2 ^ 32) ∷ []) ≡ no 2
  count_0 : types (Of (Ta 0 (Ts f32))) [] ≡ no 1
  members_0 : types (Of (Tu 0 [·])) [] ≡ no 1
  side_5 : types (Of (Tv 5 f32)) [] ≡ no 1
  matrix_kind : types (Of (Tm 2 2 i32)) [] ≡ no 1
  runtime_inside : type_answer (0x54 ∷ 0x61 ∷ 1 ∷ 0 ∷ target_bytes (Tr (Ts f32))) [] 99 ≡ no 1
  one_type : builds 0 Qa (Va (one ▹ Vs i32 1 ▹ ⟨⟩) ∷ []) ≡ no 2
  -- the program's input
  input_short : run_ctor (9 ∷ 1 ∷ 0 ∷ []) ≡ 110 ∷ 111 ∷ 32 ∷ 49 ∷ 10 ∷ []
  input_stage : run_ctor (9 ∷ 0 ∷ 0 ∷ []) ≡ 110 ∷ 111 ∷ 32 ∷ 51 ∷ 10 ∷ []
  prints_8 : run_ctor (0 ∷ 7 ∷ 0 ∷ ty_bytes (Ta 300 (Ts f32)) ++ val_bytes one) ≡ 110 ∷ 111 ∷ 32 ∷ 56 ∷ 32 ∷ 51 ∷ 48 ∷ 48 ∷ 32 ∷ 49 ∷ 10 ∷ []

cases : Cases
unfolding one two three four nan64 deep within builds types converts ranks ctor conv value lit type build_answer
    type_answer convert_answer rank_answer laid run_ctor ty_bytes val_bytes target_bytes opened
cases =
    record {
      stage_first = refl;
      target_next = refl;
      then_arguments = refl;
      rules_before_room = refl;
      room_last = refl;
      room_enough = refl;
      laid_front = refl;
      laid_not = refl;
      const_not = refl;
      override_not = refl;
      exec_infinite = refl;
      override_half = refl;
      override_nan = refl;
      override_vector = refl;
      exec_vector = refl;
      override_matrix = refl;
      exec_matrix = refl;
      largest_passes = refl;
      override_largest = refl;
      stage_free = refl;
      keeps_bits_lem = refl;
      toward_zero = refl;
      negative_is_zero = refl;
      low_end = refl;
      nan_is_zero = refl;
      made_nan = refl;
      kept_nan = refl;
      truth = refl;
      not_scalar = refl;
      two_of_them = refl;
      abstract_first = refl;
      tie_down = refl;
      tie_up = refl;
      tie_subnormal = refl;
      past_the_tie = refl;
      nan_does_not_fit = refl;
      overflow_does_not = refl;
      integer_range = refl;
      rank_self = refl;
      rank_1 = refl;
      rank_2 = refl;
      rank_3 = refl;
      rank_4 = refl;
      rank_5 = refl;
      rank_6 = refl;
      rank_7 = refl;
      rank_none = refl;
      rank_shape = refl;
      rank_runtime = refl;
      convert_shape = refl;
      convert_none = refl;
      convert_runtime = refl;
      repeated = refl;
      repeated_not = refl;
      equal_n = refl;
      through_ctor = refl;
      abstract_vector = refl;
      flattened_count = refl;
      flattened_then_9 = refl;
      qv_zero = refl;
      qv_count_first = refl;
      qv_scalars_last = refl;
      qv_common_first = refl;
      type_single = refl;
      type_several = refl;
      type_number = refl;
      type_abstract = refl;
      type_qv_one_lem = refl;
      conversion_before_count = refl;
      runtime_counts = refl;
      runtime_none = refl;
      runtime_typing = refl;
      qa_none = refl;
      qa_typing_none = refl;
      qa_common = refl;
      qa_not = refl;
      struct_count_first = refl;
      struct_then_9 = refl;
      struct_equal_only = refl;
      type_element = refl;
      type_member = refl;
      type_struct_lem = refl;
      mat_size = refl;
      mat_abstract = refl;
      mat_first = refl;
      mat_all = refl;
      mat_rows_first = refl;
      mat_columns = refl;
      mat_scalars = refl;
      mat_else = refl;
      qm_none = refl;
      qm_float = refl;
      qm_rows_first = refl;
      qm_abstract = refl;
      type_rows_first = refl;
      depth_15 = refl;
      depth_16 = refl;
      matrix_15 = refl;
      matrix_16 = refl;
      runtime_15 = refl;
      runtime_16 = refl;
      depth_qa_14 = refl;
      depth_qa_15 = refl;
      bool_2 = refl;
      high_bytes = refl;
      count_0 = refl;
      members_0 = refl;
      side_5 = refl;
      matrix_kind = refl;
      runtime_inside = refl;
      one_type = refl;
      input_short = refl;
      input_stage = refl;
      prints_8 = refl;
    }
