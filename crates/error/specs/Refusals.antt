-- The refusals, by the numbers of documents 01 and 02, and what a function of the code answers: something, or a refusal.
use Rattle.std.specs.Prelude.{ℕ}
use Rattle.std.specs.declared.result.Result.{Result as Outcome}
use Rattle.std.specs.declared.result.Result.TheVariants.{Ok, Err}
use Rattle.meaning.specs.Answers.{Result, ok, no, miscount}
use Rattle.error.specs.declared.Refusal.{Refusal}
use Rattle.error.specs.declared.Refusal.TheVariants.{BadTarget, BadArgument, NoStage, NotConstructible, SeveralForScalar, NotAScalar, Mismatch, Count, NoConversion, NoCommonType, ArgumentsNeeded, VectorPart, FloatsNeeded, ColumnLength, IntegerRange, NotTyped, FloatRange, NoRoom, TooManyJobs, PartOutside, NoLayout, MemorySize}

-- "Refusal numbers"
abbrev pub number : Refusal → ℕ
number BadTarget = 1
number BadArgument = 2
number NoStage = 3
number NotConstructible = 4
number SeveralForScalar = 5
number NotAScalar = 6
number Mismatch = 7
number (Count w g) = 8
number NoConversion = 9
number NoCommonType = 10
number ArgumentsNeeded = 11
number VectorPart = 12
number FloatsNeeded = 13
number ColumnLength = 14
number IntegerRange = 15
number NotTyped = 16
number FloatRange = 21
number NoRoom = 22
number TooManyJobs = 23
number PartOutside = 24
number NoLayout = 25
number MemorySize = 26

-- the definitions' answer for each: "only 8 carries more: wanted and given"
abbrev pub refusal : {A : Type 0} → Refusal → Result A
refusal BadTarget = no 1
refusal BadArgument = no 2
refusal NoStage = no 3
refusal NotConstructible = no 4
refusal SeveralForScalar = no 5
refusal NotAScalar = no 6
refusal Mismatch = no 7
refusal (Count w g) = miscount w g
refusal NoConversion = no 9
refusal NoCommonType = no 10
refusal ArgumentsNeeded = no 11
refusal VectorPart = no 12
refusal FloatsNeeded = no 13
refusal ColumnLength = no 14
refusal IntegerRange = no 15
refusal NotTyped = no 16
refusal FloatRange = no 21
refusal NoRoom = no 22
refusal TooManyJobs = no 23
refusal PartOutside = no 24
refusal NoLayout = no 25
refusal MemorySize = no 26

-- something, or a refusal
abbrev pub Refusing : Type 0 → Type 0
Refusing A = Outcome A Refusal

-- the paper's number and values for each case
unfoldable pub paper : {A : Type 0} → Refusing A → Result A
paper (Ok a) = ok a
paper (Err x) = refusal x
