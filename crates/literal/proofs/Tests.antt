-- What the tests of the code tell of the rules for one literal.
use mathlib.Core.Path.{◌≡◌, refl, sym, ap, ◌∙◌}
use mathlib.Core.Logic.{◌⊎◌, inl, inr}
use mathlib.Core.Option.{Option, none, some}
use mathlib.Core.Bool.{Bool, true, false, not, ◌&&◌, cond}
use Prim.Native.Nat.{ℕ, zero, suc, ◌+◌, ◌-◌, ◌*◌, ◌^◌, ◌≤◌, ◌<◌}
use native.Mathlib.Nat.{le_trans, le_of_eq, lt_of_lt_of_le, mul-le-mul_right}
use native.Mathlib.Omega.{arith}
use lib.Dec.{ltb, eqb}
use lib.Pow.{pow_pos, pow_mono, pow-add, shl_lt}
use borrow.Author.Tests.{lt-ltb, le-ltb}
use Rattle.meaning.specs.Kinds.{Kind, aint, payloads, kind_no, kind_of, same_kind, is_abstract, kind_rank, from_same}
use Rattle.meaning.specs.Floats.{integer, bits, finite}
use Rattle.meaning.specs.Scalars.{Stage, checked, twos, number, conv, conv_fits, conv_bits, some?}
use Rattle.meaning.specs.Answers.{ok, no, need, ◌>>◌}
use Rattle.meaning.specs.Build.{ctor_lit}
use Rattle.meaning.specs.Entries.{stage_of}
use Rattle.laws.proofs.Digits.{le_or_lt, Format}
use Rattle.laws.proofs.Rounding.{threshold, right}
use Rattle.laws.proofs.AgreeLit.{kind_back}
use Rattle.kind.specs.Ends.{of_kind, known}
use Rattle.kind.proofs.Numbers.{Others, over, same}
use Rattle.literal.specs.LiteralAnswers.{converted_of, conv_between, tried, ctor_from, rules_of}
use Rattle.literal.specs.declared.Rules.{Rules}
use Rattle.std.specs.declared.option.Option.TheVariants.{None, Some}

-- ---- conversion between kinds

-- a kind that has a rank to itself alone
abbrev pub Alone : Kind → Type 0
Alone j = (k : Kind) → kind_rank j k ≡ from_same j k

only_same : (b c : Bool) (p q : ℕ) → cond b (some p) none ≡ cond b (some p) (cond (some? {A = ℕ} (cond b (some 0) none) && c) (some q) none)
unfolding some?
only_same true c p q = refl
only_same false c p q = refl

-- a payload is answered where the test says so
pub fits_where : {r : Bool} (b : Bool) (q : ℕ) → r ≡ b → r ≡ some? (cond b (some q) none)
unfolding some?
fits_where true q e = e
fits_where false q e = e

-- the two answers for such a kind, by its number
module _ (j : Kind) (h : Alone j) (to from p : ℕ) (e : from ≡ kind_no j) where
  own : (k : Kind) → cond (same_kind j k) (some p) none ≡ conv k j p
  unfolding conv from_same
  own k = rw (h k) (only_same (same_kind j k) (conv_fits k (number j p)) p (conv_bits k (number j p)))

  pub kept : cond (eqb from to) (some p) none ≡ conv_between to from p
  unfolding conv_between of_kind
  kept = rw (e, kind_back j) (same j p (λ k. conv k j p) own to (kind_of to) refl)

  pub kept_fits : eqb from to ≡ some? (conv_between to from p)
  kept_fits = fits_where (eqb from to) p refl ∙ ap some? kept

-- every whole number of 64 bits is finite in a format whose exponents reach past 64
module _ (p emax : ℕ) (F : Format p emax) (P : (2 ≤ p) × (65 ≤ emax)) where
  below : (m : ℕ) → m ≤ 2 ^ 64 → m * 2 ^ 1074 < threshold p emax
  unfolding threshold
  below m h =
      let j = 1074 + emax - p in
      let l : m < 2 ^ 65 = omega arith in
      let a : 65 + 1074 ≤ p + j = omega arith in
      let b : 2 ^ p ≤ 2 ^ (p + 1) - 1 = omega (arith, pow-add 2 p 1, pow_pos p) in
      lt_of_lt_of_le (shl_lt 65 1074 l) (le_trans (pow_mono a) (le_trans (le_of_eq (pow-add 2 p j)) (mul-le-mul_right (2 ^ j) b)))

  whole : (s : Bool) (m : ℕ) → m ≤ 2 ^ 64 → true ≡ finite p emax (bits p emax (integer s m))
  unfolding integer
  whole s m h = sym ((right p emax F P.0 (omega arith)).below_finite s (m * 2 ^ 1074) (below m h))

  pub aint_finite : (b : ℕ) → true ≡ finite p emax (bits p emax (number aint b))
  unfolding number twos payloads
  aint_finite b = go (le_or_lt (2 ^ 63) b)
    where
      go : (2 ^ 63 ≤ b) ⊎ (b < 2 ^ 63) → true ≡ finite p emax
          (bits p emax (cond (ltb b (2 ^ 63)) (integer false b) (integer true (2 ^ 64 - b))))
      go (inl h) = rw (le-ltb b (2 ^ 63) h) (whole true (2 ^ 64 - b) (omega arith))
      go (inr h) = rw (lt-ltb b (2 ^ 63) h) (whole false b (omega arith))

-- ---- the refusals of the constructors

-- 15, by what a conversion answers
pub fits : (w : Bool) (p q : ℕ) → converted_of (cond w (some p) none) ≡ Some q → ok q ≡ tried (cond (not w) 15 0) p
unfolding converted_of
fits true p q e = cc
fits false p q e = absurd (let z : ◌≡◌ {A = ℕ} 0 1 = cc in omega arith)

pub unfit : (w : Bool) (p : ℕ) → converted_of (cond w (some p) none) ≡ None → no 15 ≡ tried (cond (not w) 15 0) p
unfolding converted_of
unfit true p e = absurd (let z : ◌≡◌ {A = ℕ} 0 1 = cc in omega arith)
unfit false p e = refl

-- ---- numbers that are no kind's and no stage's

pub a_kind : {A : Type 0} (y z : A) (o : Option Kind) → of_kind false known o ≡ true → z ≡ of_kind y (λ j. z) o
unfolding of_kind
a_kind y z none e = absurd (let z : ◌≡◌ {A = ℕ} 0 1 = cc in omega arith)
a_kind y z (some k) e = refl

pub not_a_kind : {A : Type 0} (y z : A) (o : Option Kind) → of_kind false known o ≡ false → y ≡ of_kind y (λ j. z) o
unfolding of_kind known
not_a_kind y z none e = refl
not_a_kind y z (some k) e = absurd (let z : ◌≡◌ {A = ℕ} 0 1 = cc in omega arith)

-- a stage is checked as its rules say
pub ruled : {rules : Rules} (s : Stage) → rules ≡ rules_of s → rules.checked ≡ checked s
unfolding rules_of
ruled s e = rw e

pub no_argument : (s : Stage) (k : Kind) (p n : ℕ) → Others n → no 2 ≡ ctor_from s k n p
unfolding ctor_from
no_argument s k p n h = over (no 2) (λ j. need (not (is_abstract k)) 4 >> ctor_lit s k j p) n h

pub no_stage : (n : ℕ) → (n ≡ 0 → ⊥) → (n ≡ 1 → ⊥) → (n ≡ 2 → ⊥) → stage_of n ≡ none
unfolding stage_of
no_stage zero a b c = absurd (a refl)
no_stage (suc zero) a b c = absurd (b refl)
no_stage (suc (suc zero)) a b c = absurd (c refl)
no_stage (suc (suc (suc n))) a b c = refl
