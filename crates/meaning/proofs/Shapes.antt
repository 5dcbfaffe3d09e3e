-- Worked cases of document 01 for each shape of type and value, computed from the definitions: the bytes of records, equal types, and what
-- each entry answers by the shape of an argument. A row is one sentence of the document.
use mathlib.Core.Path.{◌≡◌, refl}
use mathlib.Core.List.{List, [], ◌∷◌, ◌++◌, map}
use mathlib.Core.Bool.{cond}
use Prim.Native.Nat.{ℕ, ◌-◌, ◌^◌}
use lib.ListN.{replicate}
use Rattle.meaning.specs.Kinds.{Kind, bool, aint, afloat, i32, u32, f32, f16}
use Rattle.meaning.specs.Trees.{Ty, Ts, Tv, Tm, Ta, Tu, [·], ◌▸◌, Val, Vs, Vv, Vm, Va, Vu, ⟨⟩, ◌▹◌, same_ty}
use Rattle.meaning.specs.Trees.{Target, Of, Tr, Qa, Qv, Qm}
use Rattle.meaning.specs.Answers.{Answer, no, miscount, refusal_of}
use Rattle.meaning.specs.Records.{ty_bytes, val_bytes, target_bytes}
use Rattle.meaning.specs.Entries.{convert_answer, conv_one, rank_answer, rank_one}
use Rattle.meaning.specs.Build.{mat_shape}
use Rattle.meaning.specs.Typing.{part_count}
use Rattle.meaning.proofs.Calls.{builds, types, converts, value, type}
use Rattle.meaning.proofs.Opened.{opened}

abbrev kinds : List Kind
kinds = bool ∷ aint ∷ afloat ∷ i32 ∷ u32 ∷ f32 ∷ f16 ∷ []

abbrev one : Val
one = Vs f32 0x3F800000

abbrev two : Val
two = Vv f32 (0 ∷ 0x3F800000 ∷ [])

abbrev three : Val
three = Vv f32 (0 ∷ 0 ∷ 0 ∷ [])

abbrev four : Val
four = Vm 2 2 f32 (0 ∷ 0 ∷ 0 ∷ 0 ∷ [])

abbrev array : Val
array = Va (one ▹ one ▹ ⟨⟩)

abbrev struct : Val
struct = Vu 5 (one ▹ ⟨⟩)

-- values that are neither scalars nor vectors, and their types
abbrev others : List Val
others = four ∷ array ∷ struct ∷ []

abbrev other_tys : List Ty
other_tys = Tm 2 2 f32 ∷ Ta 2 (Ts f32) ∷ Tu 5 (Ts f32 ▸ [·]) ∷ []

-- the record of an F16 of a small payload
abbrev half : ℕ → List ℕ
half b = 86 ∷ 115 ∷ 6 ∷ b ∷ replicate 7 0

-- types that differ in one number, one kind, one part or their shape
abbrev different : List Ty
different =
    Ts f32
    ∷ Ts i32
    ∷ Tv 2 f32
    ∷ Tv 3 f32
    ∷ Tv 2 i32
    ∷ Tm 2 2 f32
    ∷ Tm 2 3 f32
    ∷ Tm 3 2 f32
    ∷ Tm 2 2 f16
    ∷ Ta 2 (Ts f32)
    ∷ Ta 3 (Ts f32)
    ∷ Ta 2 (Ts i32)
    ∷ Tu 2 (Ts f32 ▸ [·])
    ∷ Tu 3 (Ts f32 ▸ [·])
    ∷ Tu 2 (Ts i32 ▸ [·])
    ∷ Tu 2 (Ts f32 ▸ Ts f32 ▸ [·])
    ∷ []

-- the types of a list that are equal to one
abbrev equals : Ty → List Ty → List Ty
equals t [] = []
equals t (u ∷ l) = cond (same_ty t u) (u ∷ equals t l) (equals t l)

-- one argument, and the same before a scalar
abbrev built : Target → Val → Answer
built g v = builds 0 g (v ∷ [])

abbrev typed_one : Target → Ty → Answer
typed_one g t = types g (t ∷ [])

abbrev typed_two : Target → Ty → Answer
typed_two g t = types g (t ∷ Ts f32 ∷ [])

-- one literal to a target, its rank
abbrev converted : Target → Answer
converted g = convert_answer (target_bytes g) (val_bytes one) 99

record Shapes : Type 0 where
  -- "Each begins with a two-byte ASCII mark. Numbers are little-endian; u16 is 2 bytes."
  type_bytes : map ty_bytes (Ts f16 ∷ Tv 3 i32 ∷ Tm 2 3 f32 ∷ Ta 300 (Ts u32) ∷ Tu 513 (Ts bool ▸ Ts aint ▸ [·]) ∷ [])
      ≡ (84 ∷ 115 ∷ 6 ∷ [])
      ∷ (84 ∷ 118 ∷ 3 ∷ 84 ∷ 115 ∷ 3 ∷ [])
      ∷ (84 ∷ 109 ∷ 2 ∷ 3 ∷ 84 ∷ 115 ∷ 5 ∷ [])
      ∷ (84 ∷ 97 ∷ 44 ∷ 1 ∷ 84 ∷ 115 ∷ 4 ∷ [])
      ∷ (84 ∷ 117 ∷ 1 ∷ 2 ∷ 2 ∷ 0 ∷ 84 ∷ 115 ∷ 0 ∷ 84 ∷ 115 ∷ 1 ∷ [])
      ∷ []
  target_bytes_lem : map target_bytes (Tr (Ts f32) ∷ Qa ∷ Qv 4 ∷ Qm 2 3 ∷ [])
      ≡ (84 ∷ 114 ∷ 84 ∷ 115 ∷ 5 ∷ []) ∷ (81 ∷ 97 ∷ []) ∷ (81 ∷ 118 ∷ 4 ∷ []) ∷ (81 ∷ 109 ∷ 2 ∷ 3 ∷ []) ∷ []
  literal_bytes : val_bytes (Vs i32 (2 ^ 32 - 2)) ≡ 86 ∷ 115 ∷ 3 ∷ 254 ∷ 255 ∷ 255 ∷ 255 ∷ 0 ∷ 0 ∷ 0 ∷ 0 ∷ []
  vector_bytes : val_bytes (Vv f16 (1 ∷ 2 ∷ [])) ≡ 86 ∷ 118 ∷ 2 ∷ half 1 ++ half 2
  matrix_bytes : val_bytes (Vm 2 3 f16 (1 ∷ 2 ∷ 3 ∷ 4 ∷ 5 ∷ 6 ∷ []))
      ≡ 86 ∷ 109 ∷ 2 ∷ 3 ∷ 86 ∷ 118 ∷ 3 ∷ half 1 ++ (half 2 ++ (half 3 ++ (86 ∷ 118 ∷ 3 ∷ half 4 ++ (half 5 ++ half 6))))
  array_bytes : val_bytes (Va (Vs f16 1 ▹ Vs f16 2 ▹ ⟨⟩)) ≡ 86 ∷ 97 ∷ 2 ∷ 0 ∷ half 1 ++ half 2
  struct_bytes : val_bytes (Vu 513 (Vs f16 7 ▹ ⟨⟩)) ≡ 86 ∷ 117 ∷ 1 ∷ 2 ∷ 1 ∷ 0 ∷ half 7
  -- "Two types are equal exactly when their bytes are"
  equal_to_itself : map (λ t. equals t different) different ≡ map (λ t. t ∷ []) different
  -- scalars: "6 scalar given a non-scalar", 4 first for an abstract one; typing: 5 "also one non-scalar", 4 "typing of an abstract scalar"
  scalar_else : map (built (Of (Ts f32))) others ≡ replicate 3 (no 6)
  scalar_kinds : map (λ k. built (Of (Ts k)) two) kinds ≡ no 6 ∷ no 4 ∷ no 4 ∷ no 6 ∷ no 6 ∷ no 6 ∷ no 6 ∷ []
  scalar_abstract : built (Of (Ts aint)) (Vs aint 1) ≡ no 4
  type_scalar_lem : typed_one (Of (Ts f32)) (Ts bool) ≡ type (Ts f32)
  type_scalar_vector : typed_one (Of (Ts f32)) (Tv 2 f32) ≡ no 5
  type_scalar_else : map (typed_one (Of (Ts f32))) other_tys ≡ replicate 3 (no 5)
  type_scalar_two : typed_two (Of (Ts f32)) (Ts f32) ≡ no 5
  type_scalar_kinds : map (λ k. typed_one (Of (Ts k)) (Tv 2 f32)) kinds ≡ no 5 ∷ no 4 ∷ no 4 ∷ no 5 ∷ no 5 ∷ no 5 ∷ no 5 ∷ []
  -- vector types: "else vectors are flattened, count (8)"; "one vector into an abstract vector type" is 12
  vector_else : map (built (Of (Tv 2 f32))) others ≡ replicate 3 (miscount 2 1)
  vector_abstract : built (Of (Tv 2 afloat)) two ≡ no 12
  -- typing: "a single argument that a vector type can't take is 7"; "among several .. neither scalar nor vector .. is 12", before the
  -- count, to which it brings nothing
  part_counts : map part_count (Ts f32 ∷ Tv 3 f32 ∷ other_tys) ≡ 1 ∷ 3 ∷ 0 ∷ 0 ∷ 0 ∷ []
  type_vector_n : typed_one (Of (Tv 2 f32)) (Tv 3 f32) ≡ no 7
  type_vector_else : map (typed_one (Of (Tv 2 f32))) other_tys ≡ replicate 3 (no 7)
  type_vector_ctor : typed_one (Of (Tv 2 f32)) (Tv 2 i32) ≡ type (Tv 2 f32)
  type_vector_parts : map (typed_two (Of (Tv 2 f32))) other_tys ≡ replicate 3 (no 12)
  type_vector_flat : types (Of (Tv 4 f32)) (Ts aint ∷ Tv 3 f32 ∷ []) ≡ type (Tv 4 f32)
  -- `Qv`: "one literal repeated; one vector of n kept (7); else flattened count (8), common type (10)", also where one doesn't fit it
  qv_repeats : built (Qv 3) (Vs bool 1) ≡ value (Vv bool (1 ∷ 1 ∷ 1 ∷ []))
  qv_keeps : built (Qv 2) two ≡ value two
  qv_other_n : built (Qv 2) three ≡ no 7
  qv_else : map (built (Qv 2)) others ≡ replicate 3 (miscount 2 1)
  qv_does_not_fit : builds 0 (Qv 2) (Vs i32 0 ∷ Vs aint (2 ^ 31) ∷ []) ≡ no 10
  -- typing of `Qv`: "so is a single argument that `Qv` can't take" (12); "`Qv` without arguments: AbstractInt zeros"
  type_qv_none : types (Qv 2) [] ≡ type (Tv 2 aint)
  type_qv_repeats : typed_one (Qv 2) (Ts bool) ≡ type (Tv 2 bool)
  type_qv_else : map (typed_one (Qv 2)) other_tys ≡ replicate 3 (no 12)
  type_qv_parts : map (typed_two (Qv 2)) other_tys ≡ replicate 3 (no 12)
  type_qv_count : typed_two (Qv 2) (Tv 2 f32) ≡ miscount 2 2
  type_qv_flat : typed_two (Qv 3) (Tv 2 aint) ≡ type (Tv 3 f32)
  -- `Qa`: "11, then 10", for a literal that doesn't fit too
  qa_does_not_fit : builds 0 Qa (Vs i32 0 ∷ Vs aint (2 ^ 31) ∷ []) ≡ no 10
  type_qa_lem : types Qa (Ts aint ∷ Ts f16 ∷ []) ≡ type (Ta 2 (Ts f16))
  type_qa_not : types Qa (Ts i32 ∷ Ts f16 ∷ []) ≡ no 10
  -- matrix types: neither columns nor scalars is 13; "a struct never does" (7); typing asks for the common type (10) first
  matrix_columns : builds 0 (Of (Tm 2 3 f32)) (three ∷ three ∷ []) ≡ value (Vm 2 3 f32 (replicate 6 0))
  matrix_shapes : map (λ t. mat_shape 2 2 t 1) other_tys ≡ replicate 3 (no 13)
  matrix_array : built (Of (Tm 2 2 f32)) array ≡ no 13
  matrix_struct : built (Of (Tm 2 2 f32)) struct ≡ no 7
  type_matrix : types (Of (Tm 2 3 f32)) (Tv 3 afloat ∷ Tv 3 f32 ∷ []) ≡ type (Tm 2 3 f32)
  type_matrix_ctor : typed_one (Of (Tm 2 3 f16)) (Tm 2 3 f32) ≡ type (Tm 2 3 f16)
  type_matrix_size : typed_one (Of (Tm 2 3 f32)) (Tm 2 2 f32) ≡ no 7
  type_matrix_common : typed_two (Of (Tm 2 2 f32)) (Ts i32) ≡ no 10
  type_matrix_inner : typed_one (Of (Tm 2 2 f32)) (Ts i32) ≡ no 7
  type_matrix_array : typed_one (Of (Tm 2 2 f32)) (Ta 2 (Ts f32)) ≡ no 13
  type_matrix_struct : typed_one (Of (Tm 2 2 f32)) (Tu 5 (Ts f32 ▸ [·])) ≡ no 7
  -- `Qm`: "one matrix of equal size kept (7); 11; common type (10); float .. (13); conversion (10); rows (14); count (8); 13"
  qm_keeps : built (Qm 2 2) four ≡ value four
  qm_other_size : built (Qm 2 3) four ≡ no 7
  qm_common : builds 0 (Qm 2 2) (one ∷ Vs i32 1 ∷ []) ≡ no 10
  qm_does_not_fit : builds 0 (Qm 2 2) (Vs f16 0 ∷ Vs aint 65520 ∷ []) ≡ no 10
  qm_count : built (Qm 2 3) three ≡ miscount 2 1
  qm_scalars : built (Qm 2 3) one ≡ miscount 6 1
  qm_else : map (built (Qm 2 2)) (array ∷ struct ∷ []) ≡ replicate 2 (no 13)
  type_qm_none : types (Qm 2 2) [] ≡ no 11
  type_qm_keeps : typed_one (Qm 2 2) (Tm 2 2 f16) ≡ type (Tm 2 2 f16)
  type_qm_other_size : typed_one (Qm 2 3) (Tm 2 2 f32) ≡ no 7
  type_qm_common : typed_two (Qm 2 2) (Ts i32) ≡ no 10
  type_qm_float : typed_one (Qm 2 2) (Ts i32) ≡ no 13
  type_qm_abstract : types (Qm 2 2) (Tv 2 aint ∷ Tv 2 aint ∷ []) ≡ type (Tm 2 2 afloat)
  -- conversion: "These entries take a target record, not a shape (1), and one argument .. (another number of them is 2). Where nothing
  -- converts they refuse with 9"
  convert_shapes : map converted (Qa ∷ Qv 2 ∷ Qm 2 3 ∷ []) ≡ replicate 3 (no 1)
  convert_one : map (λ g. conv_one g one) (Qa ∷ Qv 2 ∷ Qm 2 3 ∷ []) ≡ replicate 3 (no 1)
  convert_target : convert_answer (84 ∷ []) (val_bytes one) 99 ≡ no 1
  convert_argument : convert_answer (ty_bytes (Ts f32)) (86 ∷ []) 99 ≡ no 2
  convert_two : convert_answer (ty_bytes (Ts f32)) (val_bytes one ++ val_bytes one) 99 ≡ no 2
  convert_room : convert_answer (ty_bytes (Ts f32)) (val_bytes one) 10 ≡ no 22
  convert_runtime_not : converts (Tr (Ts i32)) array ≡ no 9
  convert_runtime_else : map (converts (Tr (Ts f32))) (one ∷ two ∷ four ∷ struct ∷ []) ≡ replicate 4 (no 9)
  rank_shapes : map (λ g. rank_answer (target_bytes g) (ty_bytes (Ts f32))) (Qa ∷ Qv 2 ∷ Qm 2 3 ∷ []) ≡ replicate 3 (no 1)
  rank_one_lem : map (λ g. rank_one g (Ts f32)) (Qa ∷ Qv 2 ∷ Qm 2 3 ∷ []) ≡ replicate 3 (no 1)
  rank_target : rank_answer (84 ∷ []) (ty_bytes (Ts f32)) ≡ no 1
  rank_argument : rank_answer (ty_bytes (Ts f32)) (84 ∷ []) ≡ no 2
  rank_of_none : rank_answer (ty_bytes (Ts f32)) [] ≡ no 2
  rank_of_two : rank_answer (ty_bytes (Ts f32)) (ty_bytes (Ts f32) ++ ty_bytes (Ts f32)) ≡ no 2
  -- "Only 8 carries more: wanted and given"; the number alone, 0 where there is no refusal
  refusal_none : refusal_of (value one) ≡ 0
  refusal_other : refusal_of (built (Qv 2) three) ≡ 7
  refusal_count : refusal_of (builds 0 (Of (Tv 4 i32)) (one ∷ two ∷ [])) ≡ 8

shapes : Shapes
unfolding refusal_of builds types converts value type opened
shapes =
    record {
      type_bytes = refl;
      target_bytes_lem = refl;
      literal_bytes = refl;
      vector_bytes = refl;
      matrix_bytes = refl;
      array_bytes = refl;
      struct_bytes = refl;
      equal_to_itself = refl;
      scalar_else = refl;
      scalar_kinds = refl;
      scalar_abstract = refl;
      type_scalar_lem = refl;
      type_scalar_vector = refl;
      type_scalar_else = refl;
      type_scalar_two = refl;
      type_scalar_kinds = refl;
      vector_else = refl;
      vector_abstract = refl;
      part_counts = refl;
      type_vector_n = refl;
      type_vector_else = refl;
      type_vector_ctor = refl;
      type_vector_parts = refl;
      type_vector_flat = refl;
      qv_repeats = refl;
      qv_keeps = refl;
      qv_other_n = refl;
      qv_else = refl;
      qv_does_not_fit = refl;
      type_qv_none = refl;
      type_qv_repeats = refl;
      type_qv_else = refl;
      type_qv_parts = refl;
      type_qv_count = refl;
      type_qv_flat = refl;
      qa_does_not_fit = refl;
      type_qa_lem = refl;
      type_qa_not = refl;
      matrix_columns = refl;
      matrix_shapes = refl;
      matrix_array = refl;
      matrix_struct = refl;
      type_matrix = refl;
      type_matrix_ctor = refl;
      type_matrix_size = refl;
      type_matrix_common = refl;
      type_matrix_inner = refl;
      type_matrix_array = refl;
      type_matrix_struct = refl;
      qm_keeps = refl;
      qm_other_size = refl;
      qm_common = refl;
      qm_does_not_fit = refl;
      qm_count = refl;
      qm_scalars = refl;
      qm_else = refl;
      type_qm_none = refl;
      type_qm_keeps = refl;
      type_qm_other_size = refl;
      type_qm_common = refl;
      type_qm_float = refl;
      type_qm_abstract = refl;
      convert_shapes = refl;
      convert_one = refl;
      convert_target = refl;
      convert_argument = refl;
      convert_two = refl;
      convert_room = refl;
      convert_runtime_not = refl;
      convert_runtime_else = refl;
      rank_shapes = refl;
      rank_one_lem = refl;
      rank_target = refl;
      rank_argument = refl;
      rank_of_none = refl;
      rank_of_two = refl;
      refusal_none = refl;
      refusal_other = refl;
      refusal_count = refl;
    }
