-- Binary floating point as IEEE 754 has it, for every format at once: the value of a pattern, and the pattern of the nearest value.
-- A format is two numbers: p, the digits of a significand with its leading one, and emax, the exponent of the largest values.
-- Every finite value of binary16, binary32 and binary64, and every integer, is a whole multiple of 2 ^ -1074; so an
-- exact number is a sign and a magnitude counted in that unit.
use Rattle.std.specs.Prelude.{Bool, true, cond, leb, ltb, eqb}
use Prim.Native.Nat.{ℕ, zero, suc, ◌+◌, ◌-◌, ◌*◌, ◌/◌, ◌%◌, ◌^◌, min, compare}
use Rattle.std.specs.Float.Ieee.{size, nearest}

-- the three formats: `binary32 value b` is the value of the pattern b of binary32
abbrev pub binary16 : {A : Type 0} → (ℕ → ℕ → A) → A
binary16 f = f 11 15

abbrev pub binary32 : {A : Type 0} → (ℕ → ℕ → A) → A
binary32 f = f 24 127

abbrev pub binary64 : {A : Type 0} → (ℕ → ℕ → A) → A
binary64 f = f 53 1023

-- an exact number: `fin s n` is n * 2 ^ -1074, negative where s is true
pub data Num : Type 0 where
  nan : Num
  inf : Bool → Num
  fin : Bool → ℕ → Num

-- the whole number n, negative where s is true
unfoldable pub integer : Bool → ℕ → Num
integer s n = fin s (n * 2 ^ 1074)

-- the format's smallest positive value is 2 ^ unit in our unit: 1050, 925 and 0
abbrev pub unit : ℕ → ℕ → ℕ
unit p emax = 1076 - (emax + p)

-- the weight of the exponent's field, the field's largest value, and the weight of the sign
abbrev pub hid : ℕ → ℕ
hid p = 2 ^ (p - 1)

abbrev pub ones : ℕ → ℕ
ones emax = 2 * emax + 1

abbrev pub top : ℕ → ℕ → ℕ
top p emax = hid p * (2 * emax + 2)

-- ---- the value of a pattern

-- of its sign, the exponent's field and the fraction: 0 in the field is a subnormal number, the largest field an infinity or a NaN
unfoldable pub of_fields : ℕ → ℕ → Bool → ℕ → ℕ → Num
of_fields p emax s zero t = fin s (t * 2 ^ unit p emax)
of_fields p emax s (suc x) t = cond (eqb (suc x) (ones emax)) (cond (eqb t 0) (inf s) nan) (fin s ((hid p + t) * 2 ^ (x + unit p emax)))

unfoldable pub value : ℕ → ℕ → ℕ → Num
value p emax b = of_fields p emax (leb (top p emax) b) (b / hid p % (2 * emax + 2)) (b % hid p)

-- ---- one rounding to nearest, ties to even, from the exact number

-- a / b to the nearest whole number, a tie to the even one
abbrev pub closest : ℕ → ℕ → ℕ
closest a b = nearest (a / b) (compare (a % b * 2) b)

-- how many places the format drops of n: it keeps p digits, and none below its smallest value; the place of the leading one gives it
unfoldable pub dropped : ℕ → ℕ → ℕ → ℕ
dropped p emax n = size (n / 2 ^ unit p emax) - p

-- The pattern, without its sign, of the value nearest to n. Of the digits kept the leading one adds one to the field; a
-- carry goes into the field too, as it should. From the infinity's pattern on it is the infinity.
unfoldable pub packed : ℕ → ℕ → ℕ → ℕ
packed p emax n =
    let k = dropped p emax n in
    min (k * hid p + closest n (2 ^ (unit p emax + k))) (ones emax * hid p)

-- the pattern of the value nearest to a number; the NaN that a conversion makes is 0x7E00, 0x7FC00000 or 0x7FF8000000000000
unfoldable pub bits : ℕ → ℕ → Num → ℕ
bits p emax nan = ones emax * hid p + hid p / 2
bits p emax (inf s) = cond s (top p emax) 0 + ones emax * hid p
bits p emax (fin s n) = cond s (top p emax) 0 + packed p emax n

-- ---- ranges

-- whether a pattern is a finite number's: no infinity and no NaN
unfoldable pub finite : ℕ → ℕ → ℕ → Bool
finite p emax b = ltb (b % top p emax) (ones emax * hid p)

-- the largest finite value, a whole number in each of the three formats
unfoldable pub largest : ℕ → ℕ → ℕ
largest p emax = (2 ^ p - 1) * 2 ^ (emax + 1 - p)

-- outside the finite range, or no number
unfoldable pub outside : ℕ → ℕ → Num → Bool
outside p emax nan = true
outside p emax (inf s) = true
outside p emax (fin s n) = ltb (largest p emax * 2 ^ 1074) n
