-- For callers: what the rules that a number has say of the stage.
use mathlib.Core.Path.{◌≡◌, refl}
use mathlib.Core.Option.{Option, none, some}
use Prim.Native.Nat.{ℕ}
use native.Mathlib.Omega.{arith}
use mathlib.Core.Bool.{Bool, true, false}
use Rattle.meaning.specs.Scalars.{Stage, Const, Exec, checked}
use Rattle.literal.specs.LiteralAnswers.{rules_of, staged_of, SomeStage}
use Rattle.literal.specs.declared.Rules.{Rules}
use Rattle.error.specs.declared.Refusal.{Refusal}
use Rattle.error.specs.Refusals.{Refusing}
use Rattle.error.specs.declared.Refusal.TheVariants.{NoStage}
use Rattle.std.specs.declared.result.Result.TheVariants.{Ok, Err}

-- any rules are those of some stage: of Const, or of Exec
of_checked : (b : Bool) → SomeStage (record { checked = b })
unfolding rules_of checked
of_checked true = record { stage = Const; ruled = refl }
of_checked false = record { stage = Exec; ruled = refl }

pub some_stage : (rules : Rules) → SomeStage rules
some_stage rules = of_checked rules.checked

-- rules are those of the stage that the number has
pub staged_at : (o : Option Stage) {r : Refusing Rules} {rules : Rules} → r ≡ staged_of o → r ≡ Ok rules → (x : SomeStage rules)
    × (o ≡ some x.stage)
unfolding staged_of
staged_at none e g = absurd (let z : ◌≡◌ {A = ℕ} 0 1 = cc in omega arith)
staged_at (some s) e g = (record { stage = s; ruled = cc }, refl)

pub staged_never : (o : Option Stage) {r : Refusing Rules} {x : Refusal} → r ≡ staged_of o → r ≡ Err x → (o ≡ none) × (x ≡ NoStage)
unfolding staged_of
staged_never none e g = (refl, cc)
staged_never (some s) e g = absurd (let z : ◌≡◌ {A = ℕ} 0 1 = cc in omega arith)
