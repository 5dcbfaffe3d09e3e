-- P1 to P12 and the printed case of document 01, computed from the definitions.
use mathlib.Core.Path.{◌≡◌, refl}
use mathlib.Core.List.{[], ◌∷◌}
use Rattle.meaning.specs.Kinds.{bool, aint, afloat, i32, u32, f32, f16}
use Rattle.meaning.specs.Trees.{Ts, Tv, Ta, Val, Vs, Vv, Of, Qv, Qm}
use Rattle.meaning.specs.Answers.{no, miscount}
use Rattle.meaning.specs.Entries.{run_ctor}
use Rattle.meaning.proofs.Calls.{builds, types, ctor, conv, lit, type}
use Rattle.meaning.proofs.Opened.{opened}

three : Val
three = Vv f32 (0 ∷ 0 ∷ 0 ∷ [])

record Table : Type 0 where
  p1 : ctor 0 i32 f32 0x4F000000 ≡ lit i32 2147483520
  p2 : ctor 0 u32 f32 0x4F800000 ≡ lit u32 4294967040
  p3 : ctor 0 i32 f16 0x7C00 ≡ lit i32 65504
  p4 : ctor 0 f32 aint 16777217 ≡ lit f32 0x4B800000
  p5_ctor : ctor 2 f16 afloat 0x3FF0020000001000 ≡ lit f16 0x3C00
  p5_conv : conv f16 afloat 0x3FF0020000001000 ≡ lit f16 0x3C01
  p6_fits : conv f16 aint 65519 ≡ lit f16 0x7BFF
  p6_not : conv f16 aint 65520 ≡ no 9
  p7_const : ctor 0 f16 aint 65505 ≡ no 21
  p7_exec : ctor 2 f16 aint 65505 ≡ lit f16 0x7BFF
  p8_ctor : ctor 0 f32 afloat 0x47EFFFFFE8000000 ≡ no 21
  p8_conv : conv f32 afloat 0x47EFFFFFE8000000 ≡ lit f32 0x7F7FFFFF
  p9_nan : ctor 0 bool f32 0x7FC00000 ≡ lit bool 1
  p9_zero : ctor 0 bool f32 0x80000000 ≡ lit bool 0
  p10_build : builds 0 (Qv 2) (Vs i32 1 ∷ Vs afloat 0 ∷ []) ≡ no 10
  p10_type : types (Qv 2) (Ts i32 ∷ Ts afloat ∷ []) ≡ no 10
  p11_build : builds 0 (Qm 2 2) (three ∷ three ∷ []) ≡ no 14
  p11_type : types (Qm 2 2) (Tv 3 f32 ∷ Tv 3 f32 ∷ []) ≡ no 14
  p12_build : builds 0 (Of (Ta 3 (Ts i32))) (Vs i32 1 ∷ Vs i32 2 ∷ []) ≡ miscount 3 2
  p12_type : types (Of (Ta 3 (Ts i32))) (Ts i32 ∷ Ts i32 ∷ []) ≡ type (Ta 3 (Ts i32))

table : Table
unfolding ctor conv lit type builds types three
table =
    record {
      p1 = refl;
      p2 = refl;
      p3 = refl;
      p4 = refl;
      p5_ctor = refl;
      p5_conv = refl;
      p6_fits = refl;
      p6_not = refl;
      p7_const = refl;
      p7_exec = refl;
      p8_ctor = refl;
      p8_conv = refl;
      p9_nan = refl;
      p9_zero = refl;
      p10_build = refl;
      p10_type = refl;
      p11_build = refl;
      p11_type = refl;
      p12_build = refl;
      p12_type = refl;
    }

-- input 00 0600 547602547305 56730101 and seven zero bytes prints `ok 5676025673050000803f000000005673050000803f00000000`
printed : run_ctor (0 ∷ 6 ∷ 0 ∷ 0x54 ∷ 0x76 ∷ 2 ∷ 0x54 ∷ 0x73 ∷ 5 ∷ 0x56 ∷ 0x73 ∷ 1 ∷ 1 ∷ 0 ∷ 0 ∷ 0 ∷ 0 ∷ 0 ∷ 0 ∷ 0 ∷ [])
    ≡ 111 ∷ 107 ∷ 32 ∷ 0x35 ∷ 0x36 ∷ 0x37 ∷ 0x36 ∷ 0x30 ∷ 0x32 ∷ 0x35 ∷ 0x36 ∷ 0x37 ∷ 0x33 ∷ 0x30 ∷ 0x35
    ∷ 0x30 ∷ 0x30 ∷ 0x30 ∷ 0x30 ∷ 0x38 ∷ 0x30 ∷ 0x33 ∷ 0x66 ∷ 0x30 ∷ 0x30 ∷ 0x30 ∷ 0x30 ∷ 0x30 ∷ 0x30 ∷ 0x30 ∷ 0x30
    ∷ 0x35 ∷ 0x36 ∷ 0x37 ∷ 0x33 ∷ 0x30 ∷ 0x35
    ∷ 0x30 ∷ 0x30 ∷ 0x30 ∷ 0x30 ∷ 0x38 ∷ 0x30 ∷ 0x33 ∷ 0x66 ∷ 0x30 ∷ 0x30 ∷ 0x30 ∷ 0x30 ∷ 0x30 ∷ 0x30 ∷ 0x30 ∷ 0x30 ∷ 10 ∷ []
unfolding run_ctor opened
printed = refl
