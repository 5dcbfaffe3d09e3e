-- One literal: a kind and a payload. The number that it is, its conversion without a constructor, and the scalar constructors.
use Rattle.std.proofs.Math.Option.{Option, none, some}
use Rattle.std.specs.Prelude.{Bool, true, false, not, ◌&&◌, ◌||◌, cond, ℕ, ◌-◌, ◌*◌, ◌/◌, ◌%◌, ◌^◌, min, leb, ltb, eqb}
use Rattle.meaning.specs.Kinds.{Kind, bool, aint, afloat, i32, u32, f32, f16, payloads, same_kind, kind_rank}
use Rattle.meaning.specs.Floats.{binary16, binary32, binary64, Num, nan, inf, fin, integer, value, bits, finite, outside}

-- Stage: 0 Const, 1 Override, 2 Exec
pub data Stage : Type 0 where
  Const Override Exec : Stage

-- the stages at which f32 and f16 refuse a number outside the float's range (21): Const, and "at Override .. wherever
-- Const does" (document 02, request 03)
unfoldable pub checked : Stage → Bool
checked Const = true
checked Override = true
checked Exec = false

-- ---- the number that a payload stands for

-- two's complement, of m patterns
unfoldable pub twos : ℕ → ℕ → Num
twos m p = cond (ltb p (m / 2)) (integer false p) (integer true (m - p))

unfoldable pub number : Kind → ℕ → Num
number bool p = integer false p
number aint p = twos (payloads aint) p
number afloat p = binary64 value p
number i32 p = twos (payloads i32) p
number u32 p = integer false p
number f32 p = binary32 value p
number f16 p = binary16 value p

-- the whole number n, negative where s is true, as a payload of i32 or u32
unfoldable pub wrap : Bool → ℕ → ℕ
wrap s n = cond s ((2 ^ 32 - n) % 2 ^ 32) n

-- toward zero, held within -lo and hi; a NaN gives 0
unfoldable pub toward : ℕ → ℕ → Num → ℕ
toward lo hi nan = 0
toward lo hi (inf s) = wrap s (cond s lo hi)
toward lo hi (fin s n) = wrap s (min (n / 2 ^ 1074) (cond s lo hi))

-- whether a number lies within -lo and hi
unfoldable pub within : ℕ → ℕ → Num → Bool
within lo hi nan = false
within lo hi (inf s) = false
within lo hi (fin s n) = leb n (cond s lo hi * 2 ^ 1074)

-- ---- conversion without a constructor

-- "each literal fits: an integer within the target's range, a float result finite"; a NaN is not finite
unfoldable pub conv_fits : Kind → Num → Bool
conv_fits bool x = false
conv_fits aint x = false
conv_fits afloat x = binary64 finite (binary64 bits x)
conv_fits i32 x = within (2 ^ 31) (2 ^ 31 - 1) x
conv_fits u32 x = within 0 (2 ^ 32 - 1) x
conv_fits f32 x = binary32 finite (binary32 bits x)
conv_fits f16 x = binary16 finite (binary16 bits x)

-- "one rounding to nearest, ties to even, from the exact number"
unfoldable pub conv_bits : Kind → Num → ℕ
conv_bits bool x = 0
conv_bits aint x = 0
conv_bits afloat x = binary64 bits x
conv_bits i32 x = toward (2 ^ 31) (2 ^ 31 - 1) x
conv_bits u32 x = toward 0 (2 ^ 32 - 1) x
conv_bits f32 x = binary32 bits x
conv_bits f16 x = binary16 bits x

unfoldable pub some? : {A : Type 0} → Option A → Bool
some? none = false
some? (some a) = true

-- whether the literal p of kind j fits the kind k by conversion; one whose kind stays always does
unfoldable pub fits_conv : Kind → Kind → ℕ → Bool
fits_conv k j p = same_kind j k || conv_fits k (number j p)

-- the literal p of kind j as a literal of kind k; an unchanged kind keeps its bits
unfoldable pub conv : Kind → Kind → ℕ → Option ℕ
conv k j p = cond (same_kind j k) (some p) (cond (some? (kind_rank j k) && conv_fits k (number j p)) (some (conv_bits k (number j p))) none)

-- ---- the scalar constructors

-- where i32 and u32 saturate, by the kind that they are given: at hi above, which `single` is for F32, and at -lo below in i32
unfoldable pub hi_of : ℕ → ℕ → Kind → ℕ
hi_of whole single j = cond (same_kind j f32) single (cond (same_kind j f16) 65504 whole)

unfoldable pub lo_of : Kind → ℕ
lo_of j = cond (same_kind j f16) 65504 (2 ^ 31)

-- "U32 keeps its bits" in i32, "I32 keeps its bits" in u32
unfoldable pub keeps_bits : Kind → Bool
keeps_bits j = same_kind j i32 || same_kind j u32

-- "false for zero of either sign, else true, NaN too"
unfoldable pub nonzero : Num → Bool
nonzero nan = true
nonzero (inf s) = true
nonzero (fin s n) = ltb 0 n

-- the number that f16 rounds: "AbstractFloat and integers are rounded to f32 first, then to f16: two roundings"
unfoldable pub before_f16 : Kind → Num → Num
before_f16 j x = cond (same_kind j f32) x (binary32 value (binary32 bits x))

-- the payload that the constructor of kind k makes of the literal p of another kind j
unfoldable pub ctor_bits : Kind → Kind → ℕ → ℕ
ctor_bits bool j p = cond (nonzero (number j p)) 1 0
ctor_bits aint j p = 0
ctor_bits afloat j p = 0
ctor_bits i32 j p = cond (keeps_bits j) p (toward (lo_of j) (hi_of (2 ^ 31 - 1) 2147483520 j) (number j p))
ctor_bits u32 j p = cond (keeps_bits j) p (toward 0 (hi_of (2 ^ 32 - 1) 4294967040 j) (number j p))
ctor_bits f32 j p = binary32 bits (number j p)
ctor_bits f16 j p = binary16 bits (before_f16 j (number j p))

-- the number of its refusal, 0 where it takes the literal
unfoldable pub ctor_test : Stage → Kind → Kind → ℕ → ℕ
ctor_test s bool j p = 0
ctor_test s aint j p = 0
ctor_test s afloat j p = 0
ctor_test s i32 j p = cond (same_kind j aint && not (within (2 ^ 31) (2 ^ 31 - 1) (number j p))) 15 0
ctor_test s u32 j p = cond (same_kind j aint && not (within 0 (2 ^ 32 - 1) (number j p))) 15 0
ctor_test s f32 j p = cond (checked s && same_kind j afloat && binary32 outside (number j p)) 21 0
ctor_test s f16 j p = cond (checked s && not (same_kind j bool) && binary16 outside (number j p)) 21 0

-- whether the constructor of kind k takes the literal p of kind j
unfoldable pub fits_ctor : Stage → Kind → Kind → ℕ → Bool
fits_ctor s k j p = same_kind j k || eqb (ctor_test s k j p) 0
