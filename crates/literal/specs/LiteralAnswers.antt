-- What the answers of one literal stand for, and what they are to be for any numbers of kinds, by the rules of a stage.
use Rattle.std.specs.Prelude.{◌≡◌, Bool, not, ℕ, ◌^◌, ◌≤◌, ◌<◌, eqb}
use Rattle.std.proofs.Math.Option.{Option as Maybe, none, some}
use Rattle.meaning.specs.Kinds.{Kind, kind_of, is_abstract}
use Rattle.meaning.specs.Floats.{Num, nan}
use Rattle.meaning.specs.Scalars.{Stage, number, within, toward, conv, checked}
use Rattle.meaning.specs.Answers.{Result, ok, no, need, ◌>>◌}
use Rattle.meaning.specs.Build.{ctor_lit}
use Rattle.kind.specs.Ends.{of_kind, of_kinds, numbered, low, high}
use Rattle.literal.specs.declared.Unmade.{Unmade}
use Rattle.literal.specs.declared.Unmade.TheVariants.{NoTarget, NoArgument, Abstract, Integer, Float}
use Rattle.error.specs.declared.Refusal.{Refusal}
use Rattle.error.specs.declared.Refusal.TheVariants.{BadTarget, BadArgument, NoStage, NotConstructible, IntegerRange, FloatRange}
use Rattle.error.specs.Refusals.{refusal, Refusing}
use Rattle.std.specs.declared.result.Result.{Result as Outcome}
use Rattle.std.specs.declared.result.Result.TheVariants.{Ok, Err}
use Rattle.literal.specs.declared.Rules.{Rules}
use Rattle.std.specs.declared.option.Option.{Option}
use Rattle.std.specs.declared.option.Option.TheVariants.{None, Some}

-- ---- the range of a kind, by its number

-- it lies within 32 bits
abbrev pub Short : ℕ → Type 0
Short n = (numbered low n ≤ 2 ^ 32) × (numbered high n < 2 ^ 32)

-- whether a number lies in it, and the number held there
abbrev pub in_range : ℕ → Num → Bool
in_range n x = within (numbered low n) (numbered high n) x

abbrev pub held_in : ℕ → Num → ℕ
held_in n x = toward (numbered low n) (numbered high n) x

-- ---- conversion without a constructor

-- the code's answer for a payload, and for none
unfoldable pub converted_of : Maybe ℕ → Option ℕ
converted_of none = None
converted_of (some p) = Some p

-- the literal p of the kind j as one of another, by that one's number
unfoldable pub conv_from : Kind → ℕ → ℕ → Maybe ℕ
conv_from j to p = of_kind none (λ k. conv k j p) (kind_of to)

-- the literal p of one kind as one of another, by their numbers; a number that is no kind's takes and gives nothing
unfoldable pub conv_between : ℕ → ℕ → ℕ → Maybe ℕ
conv_between to from p = of_kinds none (λ j k. conv k j p) (kind_of from) (kind_of to)

-- ---- the number of a literal, by its kind's number; a number that is no kind's has a NaN

unfoldable pub number_of : ℕ → ℕ → Num
number_of n p = of_kind nan (λ k. number k p) (kind_of n)

-- ---- the stage

-- what a stage decides
unfoldable pub rules_of : Stage → Rules
rules_of s = record { checked = checked s }

-- the rules are those of some stage
pub record SomeStage (rules : Rules) : Type 0 where
  pub stage : Stage
  pub ruled : rules ≡ rules_of stage

-- the code's answer for a stage, and for none
unfoldable pub staged_of : Maybe Stage → Refusing Rules
staged_of none = Err NoStage
staged_of (some s) = Ok (rules_of s)

-- ---- the scalar constructors

-- a payload, or why there is none
abbrev pub Made : Type 0
Made = Outcome ℕ Unmade

-- which refusal each is: 1, 2, 4, 15 and 21
abbrev pub refusal_for : Unmade → Refusal
refusal_for NoTarget = BadTarget
refusal_for NoArgument = BadArgument
refusal_for Abstract = NotConstructible
refusal_for Integer = IntegerRange
refusal_for Float = FloatRange

-- the paper's number for each answer
unfoldable pub paper : Made → Result ℕ
paper (Ok p) = ok p
paper (Err u) = refusal (refusal_for u)

-- a payload, or a refusal of the number n; 0 refuses nothing
abbrev pub tried : ℕ → ℕ → Result ℕ
tried n p = need (eqb n 0) n >> ok p

-- the constructor of the kind k, given a literal of a kind by its number: one that is no kind's is 2, and before the abstract kind's 4
unfoldable pub ctor_from : Stage → Kind → ℕ → ℕ → Result ℕ
ctor_from s k from p = of_kind (no 2) (λ j. need (not (is_abstract k)) 4 >> ctor_lit s k j p) (kind_of from)

-- the constructor of a kind by its number: one that is no kind's is 1
unfoldable pub ctor_to : Stage → ℕ → ℕ → ℕ → Result ℕ
ctor_to s to from p = of_kind (no 1) (λ k. ctor_from s k from p) (kind_of to)

-- the answer r is that of the constructor at every stage; at every stage that has the rules; and so by the number of the constructor's kind
abbrev pub Always : Kind → ℕ → ℕ → Made → Type 0
Always k from p r = (s : Stage) → paper r ≡ ctor_from s k from p

abbrev pub When : Rules → Kind → ℕ → ℕ → Made → Type 0
When rules k from p r = (s : Stage) → rules ≡ rules_of s → paper r ≡ ctor_from s k from p

abbrev pub WhenTo : Rules → ℕ → ℕ → ℕ → Made → Type 0
WhenTo rules to from p r = (s : Stage) → rules ≡ rules_of s → paper r ≡ ctor_to s to from p

-- what an abstract kind answers
unfoldable pub no_ctor : ℕ → Result ℕ
no_ctor from = of_kind (no 2) (λ j. no 4) (kind_of from)
