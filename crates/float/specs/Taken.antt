-- What the parts of a number stand for, and what the code asks of a format.
use Rattle.std.specs.Prelude.{◌≡◌, ℕ, ◌+◌, ◌*◌, ◌^◌, ◌≤◌, ◌<◌}
use Rattle.std.proofs.Common.{rules}
use Rattle.meaning.specs.Floats.{Num, nan, inf, fin}
use Rattle.laws.proofs.Digits.{Format}
use Rattle.float.specs.declared.Magnitude.{Magnitude}
use Rattle.float.specs.declared.Parts.{Parts}
use Rattle.float.specs.declared.Parts.TheVariants.{Nan, Inf, Fin}

abbrev pub size : Magnitude → ℕ
size x = x.significand * 2 ^ x.exponent

-- `Fin s x` is x * 2 ^ -1074, negative where s is true
abbrev pub meaning : Parts → Num
meaning Nan = nan
meaning (Inf s) = inf s
meaning (Fin s x) = fin s (size x)

abbrev pub exponent : Parts → ℕ
exponent Nan = 0
exponent (Inf s) = 0
exponent (Fin s x) = x.exponent

-- the parts are those of the number x, with no larger an exponent than binary64 and whole numbers have
pub record Stands (x : Num) (r : Parts) : Type 0 where
  pub means : x ≡ meaning r
  pub small : exponent r < 2100

-- a format whose exponent's field has w bits
pub record Layout (p emax w : ℕ) : Type 0 where
  pub format : Format p emax
  pub few_bits : w ≤ 11
  pub power : 2 ^ w ≡ 2 * emax + 2

pub binary16_is : Layout 11 15 5
binary16_is = search rules

pub binary32_is : Layout 24 127 8
binary32_is = search rules

pub binary64_is : Layout 53 1023 11
binary64_is = search rules
