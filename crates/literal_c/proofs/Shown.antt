-- What the answers of one literal say of the definitions.
use mathlib.Core.Path.{◌≡◌, refl, sym}
use mathlib.Core.Option.{Option as Maybe, none, some}
use Prim.Native.Nat.{ℕ}
use Rattle.meaning.specs.Entries.{stage_of}
use Rattle.literal.specs.LiteralAnswers.{converted_of, staged_of, Made, paper, WhenTo}
use Rattle.literal.specs.declared.Rules.{Rules}
use Rattle.error.specs.declared.Refusal.{Refusal}
use Rattle.error.specs.Refusals.{Refusing}
use Rattle.error.specs.Refusals as refusals
use Rattle.std.specs.declared.result.Result.TheVariants.{Ok, Err}
use Rattle.literal.proofs.Stages.{staged_at, staged_never}
use Rattle.literal_c.specs.LiteralNumbers.{or_zero, payload_of, ctor_between}
use Rattle.std.specs.Option.{unwrap_or}
use Rattle.std.specs.Result.{result_unwrap_or}
use Rattle.error.specs.Refusals.{refusal}
use Rattle.error.proofs.Refusals.{Told, plain, counted, told}
use Rattle.std.specs.declared.option.Option.{Option}

-- 0 where there is nothing
pub nothing_0 : (o : Maybe ℕ) {r : Option ℕ} → r ≡ converted_of o → unwrap_or r 0 ≡ or_zero o
unfolding converted_of or_zero
nothing_0 none e = rw e refl
nothing_0 (some p) e = rw e refl

pub refused_0 : (r : Refusing ℕ) → result_unwrap_or r 0 ≡ payload_of (refusals.paper r)
unfolding refusals.paper payload_of
refused_0 (Ok p) = refl
refused_0 (Err x) = sym (no_payload x)
  where
    go : (y : Refusal) → Told y → payload_of (refusal y) ≡ 0
    go y (plain e) = rw (e ℕ) refl
    go _ (counted w g) = refl

    no_payload : (y : Refusal) → payload_of (refusal y) ≡ 0
    no_payload y = go y (told y)

-- the constructor's answer by the rules is that of the stage's number
module _ (stage to from p : ℕ) {r : Refusing Rules} (e : r ≡ staged_of (stage_of stage)) where
  pub built : {rules : Rules} (m : Made) → r ≡ Ok rules → WhenTo rules to from p m → paper m ≡ ctor_between stage to from p
  unfolding ctor_between
  built m g w = let a = staged_at (stage_of stage) e g in rw a.1 (w a.0.stage a.0.ruled)

  pub no_stage : {x : Refusal} → r ≡ Err x → refusals.paper {A = ℕ} (Err x) ≡ ctor_between stage to from p
  unfolding ctor_between refusals.paper
  no_stage g = let n = staged_never (stage_of stage) e g in rw (n.0, n.1) refl
