-- A refusal is told by the paper's number and values.
use mathlib.Core.Path.{◌≡◌, refl, sym, ap, ◌∙◌}
use mathlib.Core.Bool.{cond}
use Prim.Native.Nat.{ℕ}
use lib.Dec.{eqb}
use native.Mathlib.Omega.{arith}
use Rattle.std.specs.Option.{ok_or}
use Rattle.std.specs.declared.option.Option.{Option}
use Rattle.std.specs.declared.option.Option.TheVariants.{None, Some}
use Rattle.std.specs.Result.{IsErrAnd}
use Rattle.std.proofs.lemmas.Result.{err_from_is_err_and}
use Rattle.std.specs.declared.result.Result.{Result as Outcome}
use Rattle.std.specs.declared.result.Result.TheVariants.{Ok, Err}
use Rattle.meaning.specs.Answers.{Result, ok, no, miscount, ◌>>=◌, ◌>>◌, refusal_of}
use Rattle.error.specs.Refusals.{number, refusal, Refusing, paper}
use Rattle.error.specs.declared.Refusal.{Refusal}
use Rattle.error.specs.declared.Refusal.TheVariants.{BadTarget, BadArgument, NoStage, NotConstructible, SeveralForScalar, NotAScalar, Mismatch, Count, NoConversion, NoCommonType, ArgumentsNeeded, VectorPart, FloatsNeeded, ColumnLength, IntegerRange, NotTyped, FloatRange, NoRoom, TooManyJobs, PartOutside, NoLayout, MemorySize}

-- ---- a number alone, or 8 with its counts

pub data Told : Refusal → Type 1 where
  plain : {x : Refusal} → ((A : Type 0) → refusal {A = A} x ≡ no (number x)) → Told x
  counted : (w g : ℕ) → Told (Count w g)

pub told : (x : Refusal) → Told x
told BadTarget = plain (λ A. refl)
told BadArgument = plain (λ A. refl)
told NoStage = plain (λ A. refl)
told NotConstructible = plain (λ A. refl)
told SeveralForScalar = plain (λ A. refl)
told NotAScalar = plain (λ A. refl)
told Mismatch = plain (λ A. refl)
told (Count w g) = counted w g
told NoConversion = plain (λ A. refl)
told NoCommonType = plain (λ A. refl)
told ArgumentsNeeded = plain (λ A. refl)
told VectorPart = plain (λ A. refl)
told FloatsNeeded = plain (λ A. refl)
told ColumnLength = plain (λ A. refl)
told IntegerRange = plain (λ A. refl)
told NotTyped = plain (λ A. refl)
told FloatRange = plain (λ A. refl)
told NoRoom = plain (λ A. refl)
told TooManyJobs = plain (λ A. refl)
told PartOutside = plain (λ A. refl)
told NoLayout = plain (λ A. refl)
told MemorySize = plain (λ A. refl)

-- nothing goes on behind a refusal
pub no_more : {A B : Type 0} (f : A → Result B) (x : Refusal) → (refusal x >>= f) ≡ refusal x
no_more {A} {B} f x = go x (told x)
  where
    go : (y : Refusal) → Told y → (refusal y >>= f) ≡ refusal y
    go y (plain e) = rw (e A, e B) refl
    go _ (counted w g) = refl

pub no_after : (A : Type 0) {B : Type 0} (x : Refusal) (b : Result B) → (refusal {A = A} x >> b) ≡ refusal x
no_after A {B} x b = go x (told x)
  where
    go : (y : Refusal) → Told y → (refusal {A = A} y >> b) ≡ refusal y
    go y (plain e) = rw (e A, e B) refl
    go _ (counted w g) = refl

pub number_of : (A : Type 0) (x : Refusal) → number x ≡ refusal_of (refusal {A = A} x)
unfolding refusal_of
number_of A x = go x (told x)
  where
    go : (y : Refusal) → Told y → number y ≡ refusal_of (refusal {A = A} y)
    go y (plain e) = rw (e A) refl
    go _ (counted w g) = refl

-- ---- from the number and the values back

by_number : ℕ → Refusal
by_number n = cond (eqb n 2) BadArgument
    (cond (eqb n 3) NoStage
    (cond (eqb n 4) NotConstructible
    (cond (eqb n 5) SeveralForScalar
    (cond (eqb n 6) NotAScalar
    (cond (eqb n 7) Mismatch
    (cond (eqb n 9) NoConversion
    (cond (eqb n 10) NoCommonType
    (cond (eqb n 11) ArgumentsNeeded
    (cond (eqb n 12) VectorPart
    (cond (eqb n 13) FloatsNeeded
    (cond (eqb n 14) ColumnLength
    (cond (eqb n 15) IntegerRange
    (cond (eqb n 16) NotTyped
    (cond (eqb n 21) FloatRange
    (cond (eqb n 22) NoRoom
    (cond (eqb n 23) TooManyJobs
    (cond (eqb n 24) PartOutside
    (cond (eqb n 25) NoLayout
    (cond (eqb n 26) MemorySize
    BadTarget)))))))))))))))))))

back : {A : Type 0} → Result A → Refusing A
back (ok a) = Ok a
back (no n) = Err (by_number n)
back (miscount w g) = Err (Count w g)

back_refusal : {A : Type 0} (x : Refusal) → back (refusal {A = A} x) ≡ Err x
unfolding back by_number
back_refusal BadTarget = refl
back_refusal BadArgument = refl
back_refusal NoStage = refl
back_refusal NotConstructible = refl
back_refusal SeveralForScalar = refl
back_refusal NotAScalar = refl
back_refusal Mismatch = refl
back_refusal (Count w g) = refl
back_refusal NoConversion = refl
back_refusal NoCommonType = refl
back_refusal ArgumentsNeeded = refl
back_refusal VectorPart = refl
back_refusal FloatsNeeded = refl
back_refusal ColumnLength = refl
back_refusal IntegerRange = refl
back_refusal NotTyped = refl
back_refusal FloatRange = refl
back_refusal NoRoom = refl
back_refusal TooManyJobs = refl
back_refusal PartOutside = refl
back_refusal NoLayout = refl
back_refusal MemorySize = refl

back_paper : {A : Type 0} (r : Refusing A) → back (paper r) ≡ r
unfolding paper back
back_paper (Ok a) = refl
back_paper (Err x) = back_refusal x

-- the case and its values follow from the paper's
pub same_paper : {A : Type 0} (r q : Refusing A) → paper q ≡ paper r → q ≡ r
same_paper r q e = sym (back_paper q) ∙ (ap back e ∙ back_paper r)

pub is_ok : {A : Type 0} (r : Refusing A) {a : A} → paper r ≡ ok a → r ≡ Ok a
unfolding back
is_ok r e = sym (back_paper r) ∙ ap back e

-- ---- what the exit of a `?` returns

pub passed_on : {A E : Type 0} (r : Outcome A E) {x : E} → IsErrAnd r (λ y. y ≡ x) → r ≡ Err x
passed_on r h = let p = err_from_is_err_and r h in p.1 ∙ ap Err p.2

-- ---- what `ok_or` makes of an option

pub missing : {A E : Type 0} (r : Option A) (e : E) {x : E} {q : Outcome A E} → q ≡ ok_or r e → q ≡ Err x → (r ≡ None) × (x ≡ e)
missing None e f g = (refl, cc)
missing (Some a) e f g = absurd (let z : ◌≡◌ {A = ℕ} 0 1 = cc in omega arith)

pub present : {A E : Type 0} (r : Option A) (e : E) {a : A} {q : Outcome A E} → q ≡ ok_or r e → q ≡ Ok a → r ≡ Some a
present None e f g = absurd (let z : ◌≡◌ {A = ℕ} 0 1 = cc in omega arith)
present (Some b) e f g = cc
