-- Worked cases of document 01 at its limits, computed from the definitions: sides, counts, depth, lengths of types, the
-- number of arguments, the program's input and its result. A row is one sentence of the document; most stand in pairs, on
-- either side of a limit. The lists are long, so they stand here and not with the other tables in `crates/meaning/proofs`,
-- which every edit of a definition computes.
use mathlib.Core.Path.{◌≡◌, refl}
use mathlib.Core.List.{List, [], ◌∷◌, map}
use mathlib.Core.Bool.{true, false}
use Prim.Native.Nat.{ℕ, zero, suc}
use lib.ListN.{replicate, take}
use Rattle.meaning.specs.Kinds.{Kind, bool, aint, afloat, i32, u32, f32, f16}
use Rattle.meaning.specs.Trees.{Ty, Ts, Tv, Tm, Ta, Tu, Tys, [·], ◌▸◌, Val, Vs, Vu, ⟨⟩, ◌▹◌, Of, Tr, Qa, Qv, Qm, tys_of}
use Rattle.meaning.specs.Answers.{Answer, ok, no}
use Rattle.meaning.specs.Records.{ty_bytes, target_bytes, good_ty, good_tys, all_same}
use Rattle.meaning.specs.Entries.{run_ctor}
use Rattle.meaning.proofs.Calls.{builds, types, converts, ranks, value, type}
use Rattle.meaning.proofs.Opened.{opened}

abbrev kinds : List Kind
kinds = bool ∷ aint ∷ afloat ∷ i32 ∷ u32 ∷ f32 ∷ f16 ∷ []

-- typing of a type without arguments: the type, or 1 where it is malformed
abbrev alone : Ty → Answer
alone t = types (Of t) []

-- n structs of one member around a type, and around a value
abbrev deep : ℕ → Ty → Ty
deep zero t = t
deep (suc n) t = Tu 0 (deep n t ▸ [·])

abbrev deep_val : ℕ → Val → Val
deep_val zero v = v
deep_val (suc n) v = Vu 0 (deep_val n v ▹ ⟨⟩)

-- a struct of n members of 6 bytes behind some others: 6 bytes, the others', and 6 n
abbrev long : (Tys → Tys) → ℕ → Ty
long others n = Tu 0 (others (tys_of (replicate n (Tv 2 f32))))

abbrev members : ℕ → Ty
members n = Tu 0 (tys_of (replicate n (Ts f32)))

abbrev bytes_4092 : Ty
bytes_4092 = long (λ m. m) 681

abbrev bytes_4093 : Ty
bytes_4093 = long (λ m. Tm 2 2 f32 ▸ m) 680

abbrev bytes_4096 : Ty
bytes_4096 = long (λ m. Tm 2 2 f32 ▸ Ts f32 ▸ m) 680

abbrev bytes_4097 : Ty
bytes_4097 = long (λ m. Tm 2 2 f32 ▸ Tm 2 2 f32 ▸ Ts f32 ▸ m) 679

-- the words of the program's line
abbrev said : ℕ → List ℕ → List ℕ
said n s = take n (run_ctor s)

record Limits : Type 0 where
  -- "n is 2, 3 or 4"; "c columns and r rows, each 2 to 4"; a matrix is "of kind 2, 5 or 6"
  side_1 : map alone (Tv 1 f32 ∷ Tm 1 2 f32 ∷ Tm 2 1 f32 ∷ []) ≡ replicate 3 (no 1)
  side_2 : map alone (Tv 2 f32 ∷ Tm 2 4 f32 ∷ Tm 4 2 f32 ∷ []) ≡ map type (Tv 2 f32 ∷ Tm 2 4 f32 ∷ Tm 4 2 f32 ∷ [])
  side_4 : alone (Tv 4 f32) ≡ type (Tv 4 f32)
  side_past : map alone (Tm 5 2 f32 ∷ Tm 2 5 f32 ∷ []) ≡ replicate 2 (no 1)
  shape_sides : map (λ g. types g []) (Qv 1 ∷ Qv 5 ∷ Qm 1 2 ∷ Qm 2 5 ∷ []) ≡ replicate 4 (no 1)
  matrix_kinds : map (λ k. alone (Tm 2 2 k)) kinds
      ≡ no 1 ∷ no 1 ∷ type (Tm 2 2 afloat) ∷ no 1 ∷ no 1 ∷ type (Tm 2 2 f32) ∷ type (Tm 2 2 f16) ∷ []
  -- "`Ta` count (u16, 1 to 65,535)"; "`Tu` identity (u16), member count (u16, 1 to 1,023)"
  count_most : alone (Ta 65535 (Ts f32)) ≡ type (Ta 65535 (Ts f32))
  count_past : good_ty (Ta 65536 (Ts f32)) ≡ false
  identity_most : alone (Tu 65535 (Ts f32 ▸ [·])) ≡ type (Tu 65535 (Ts f32 ▸ [·]))
  identity_past : good_ty (Tu 65536 (Ts f32 ▸ [·])) ≡ false
  members_most : alone (members 1023) ≡ type (members 1023)
  members_past : alone (members 1024) ≡ no 1
  -- "Depth: scalar 0, vector 1, ..; depth 15 passes, 16 is malformed", of targets and of arguments
  vector_15 : alone (deep 14 (Tv 2 f32)) ≡ type (deep 14 (Tv 2 f32))
  vector_16 : alone (deep 15 (Tv 2 f32)) ≡ no 1
  argument_15 : ranks (Of (deep 15 (Ts f32))) (deep 15 (Ts f32)) ≡ ok 0
  argument_16 : ranks (Of (Ts f32)) (deep 16 (Ts f32)) ≡ no 2
  value_15 : converts (Of (deep 15 (Ts f32))) (deep_val 15 (Vs f32 1)) ≡ value (deep_val 15 (Vs f32 1))
  value_16 : converts (Of (Ts f32)) (deep_val 16 (Vs f32 1)) ≡ no 2
  -- "Length is at most 4,096 bytes"; `Tr` "at most 4,094 bytes"; "for `Qa` each argument's type has .. at most 4,092 bytes"
  type_4096 : alone bytes_4096 ≡ type bytes_4096
  type_4097 : alone bytes_4097 ≡ no 1
  runtime_4094 : builds 0 (Tr bytes_4092) [] ≡ no 4
  runtime_4095 : builds 0 (Tr bytes_4093) [] ≡ no 1
  argument_4092 : types Qa (bytes_4092 ∷ []) ≡ type (Ta 1 bytes_4092)
  argument_4093 : types Qa (bytes_4093 ∷ []) ≡ no 2
  -- "elements of one equal type": one that has no other beside it, or none at all, differs from nothing
  one_element : map all_same ([·] ∷ (Ts f32 ▸ [·]) ∷ (Ts f32 ▸ Ts f32 ▸ [·]) ∷ []) ≡ replicate 3 true
  two_elements : all_same (Ts f32 ▸ Ts i32 ▸ [·]) ≡ false
  -- "Arguments are value records one after another, at most 65,535"
  arguments_most : good_tys Qa (replicate 65535 (Ts f32)) ≡ true
  arguments_past : good_tys Qa (replicate 65536 (Ts f32)) ≡ false
  -- the program's input: "a stage byte, a u16 target length, the target, then arguments (64 KiB in all)"; one "that is longer .. prints
  -- `no 1`, also where its stage is over 2"
  target_308 : run_ctor (0 ∷ 52 ∷ 1 ∷ target_bytes (Tr (members 100))) ≡ 110 ∷ 111 ∷ 32 ∷ 52 ∷ 10 ∷ []
  input_most : run_ctor (3 ∷ 0 ∷ 0 ∷ replicate 65533 0) ≡ 110 ∷ 111 ∷ 32 ∷ 51 ∷ 10 ∷ []
  input_past : run_ctor (3 ∷ 0 ∷ 0 ∷ replicate 65534 0) ≡ 110 ∷ 111 ∷ 32 ∷ 49 ∷ 10 ∷ []
  -- "Its result buffer is 65,536 bytes": records of that length, and of one byte more
  result_most : said 3 (0 ∷ 20 ∷ 0 ∷ ty_bytes (Tu 0 (Ta 5952 (Ts f32) ▸ Tm 2 2 f32 ▸ [·]))) ≡ 111 ∷ 107 ∷ 32 ∷ []
  result_past : said 9 (0 ∷ 13 ∷ 0 ∷ ty_bytes (Tu 0 (Ta 5957 (Ts f32) ▸ [·]))) ≡ 110 ∷ 111 ∷ 32 ∷ 50 ∷ 50 ∷ 10 ∷ []

limits : Limits
unfolding builds types converts ranks value type opened
limits =
    record {
      side_1 = refl;
      side_2 = refl;
      side_4 = refl;
      side_past = refl;
      shape_sides = refl;
      matrix_kinds = refl;
      count_most = refl;
      count_past = refl;
      identity_most = refl;
      identity_past = refl;
      members_most = refl;
      members_past = refl;
      vector_15 = refl;
      vector_16 = refl;
      argument_15 = refl;
      argument_16 = refl;
      value_15 = refl;
      value_16 = refl;
      type_4096 = refl;
      type_4097 = refl;
      runtime_4094 = refl;
      runtime_4095 = refl;
      argument_4092 = refl;
      argument_4093 = refl;
      one_element = refl;
      two_elements = refl;
      arguments_most = refl;
      arguments_past = refl;
      target_308 = refl;
      input_most = refl;
      input_past = refl;
      result_most = refl;
      result_past = refl;
    }
