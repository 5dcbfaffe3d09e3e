-- A number's decimal digits, the highest first.
use mathlib.Core.Path.{◌≡◌, refl, sym, ap, ◌∙◌, subst}
use mathlib.Core.Logic.{⊎_elim}
use mathlib.Core.List.{List, [], ◌∷◌, ◌++◌, append_assoc, append-nil}
use Prim.Native.Nat.{ℕ, zero, suc, ◌+◌, ◌-◌, ◌*◌, ◌/◌, ◌%◌, ◌^◌, ◌≤◌, ◌<◌}
use native.Mathlib.Nat.{pow-succ', pow-le-pow_right, div-div-eq-div-mul}
use native.Mathlib.Omega.{arith}
use borrow.Author.Tests.{lt-ltb, le-ltb}
use lib.ListN.{length}
use Rattle.meaning.specs.Entries.{decimal, decimal_from}
use Rattle.laws.proofs.Digits.{le_or_lt}
use Rattle.record.specs.Bytes.{Takes, Put}
use Rattle.record.proofs.Left.{Left, left_all, left_room, left_on, left_end}
use Rattle.ctor_line.specs.Digits.{Leads}

-- the d lowest digits of n
unfoldable pub digits : ℕ → ℕ → List ℕ
digits zero n = []
digits (suc d) n = (48 + n / 10 ^ d % 10) ∷ digits d n

digits_length : (d n : ℕ) → length (digits d n) ≡ d
unfolding digits
digits_length zero n = refl
digits_length (suc d) n = ap suc (digits_length d n)

-- the lowest digit is the last
digits_last : (d n : ℕ) → digits (suc d) n ≡ digits d (n / 10) ++ ((48 + n % 10) ∷ [])
unfolding digits
digits_last zero n = let z : n / 1 ≡ n = omega arith in rw z
digits_last (suc d) n =
    let q : n / 10 ^ suc d ≡ n / 10 / 10 ^ d = rw (pow-succ' 10 d) (sym (div-div-eq-div-mul n 10 (10 ^ d))) in
    rw (q, ← digits_last d n)

pow_more : (d : ℕ) → d < 10 ^ d
pow_more zero = omega arith
pow_more (suc d) = omega (arith, pow_more d, pow-succ' 10 d)

from_digits : (d f n : ℕ) (s : List ℕ) → d < f → 10 ^ d ≤ n + (1 - n) → n < 10 ^ suc d → decimal_from f n s ≡ digits (suc d) n ++ s
unfolding decimal_from digits
from_digits d zero n s h l u = absurd (omega arith)
from_digits zero (suc f) n s h l u =
    let v : n < 10 = omega arith in
    let z : n / 1 % 10 ≡ n = omega arith in
    rw (lt-ltb n 10 v, z)
from_digits (suc d) (suc f) n s h l u =
    let p : 10 ^ suc d ≡ 10 * 10 ^ d = pow-succ' 10 d in
    let q : 10 ^ suc (suc d) ≡ 10 * 10 ^ suc d = pow-succ' 10 (suc d) in
    let m : d < 10 ^ d = pow_more d in
    let v : 10 ≤ n = omega arith in
    rw (le-ltb n 10 v)
    (from_digits d f (n / 10) ((48 + n % 10) ∷ s) (omega arith) (omega arith) (omega arith)
    ∙ (sym (append_assoc (digits (suc d) (n / 10)) ((48 + n % 10) ∷ []) s) ∙ ap (◌++ s) (sym (digits_last (suc d) n))))

-- ---- the first digit's power

module _ {n p : ℕ} (l : Leads n p) where
  next : 10 ^ suc l.place ≡ 10 * p
  next = pow-succ' 10 l.place ∙ ap (10 *◌) (sym l.power)

  -- the definition's digits are as many as the powers of ten up to the first digit's
  pub decimal_digits : decimal n ≡ digits (suc l.place) n
  unfolding decimal
  decimal_digits =
      let e : p ≡ 10 ^ l.place = l.power in
      from_digits l.place (suc n) n [] (omega (arith, pow_more l.place, l.low)) (omega (arith, l.low))
      (omega (arith, l.high, next)) ∙ append-nil (digits (suc l.place) n)

  -- a 64-bit number has 20 digits at most
  pub decimal_short : n < 18446744073709551616 → length (decimal n) ≤ 20
  decimal_short h =
      let e : length (decimal n) ≡ suc l.place = ap length decimal_digits ∙ digits_length (suc l.place) n in
      ⊎_elim
      (λ (m : 20 ≤ l.place). absurd (let q : 10 ^ 20 ≤ 10 ^ l.place = pow-le-pow_right (omega arith) m in omega
      (arith, l.power, l.low)))
      (λ (m : l.place < 20). omega arith)
      (le_or_lt 20 l.place)

-- ---- what is left: the digits from the power p on, p being 0 after the last

unfoldable pub power_of : ℕ → ℕ
power_of zero = 0
power_of (suc d) = 10 ^ d

pub record DigitsLeft (n : ℕ) (out₀ : List ℕ) (to : ℕ) (out : List ℕ) (p i : ℕ) : Type 0 where
  pub places : ℕ
  pub power : p ≡ power_of places
  pub rest : Left out₀ to (decimal n) out i (digits places n)

pub digits_all : {n p : ℕ} (out : List ℕ) (to : ℕ) → Leads n p → DigitsLeft n out to out p to
unfolding power_of
digits_all {n} out to l = record {
  places = suc l.place;
  power = l.power;
  rest = subst (Left out to (decimal n) out to)
      (decimal_digits l) (left_all out to (decimal n));
}

module _ {n : ℕ} {out₀ : List ℕ} {to : ℕ} {out : List ℕ} {p i : ℕ} (g : DigitsLeft n out₀ to out p i) where
  module _ (h : 0 < p) where
    abbrev one : List ℕ
    one = (48 + n / p % 10) ∷ []

    record First : Type 0 where
      places : ℕ
      is : digits g.places n ≡ one ++ digits places n
      power : p / 10 ≡ power_of places

    first : First
    unfolding power_of digits
    first = go g.places refl g.power
      where
        down : (d : ℕ) → 10 ^ d / 10 ≡ power_of d
        down zero = refl
        down (suc d) = omega (arith, pow-succ' 10 d)

        go : (d : ℕ) → g.places ≡ d → p ≡ power_of d → First
        go zero q e = absurd (omega arith)
        go (suc d) q e = record { places = d; is = rw (q, e); power = ap (◌/ 10) e ∙ down d }

    pub digit_room : Takes out₀ to (decimal n) → i + 1 ≤ length out
    digit_room l = left_room g.rest one (digits first.places n) first.is l

    pub digit_on : {q : ℕ} {out' : List ℕ} → Put out i one q out' → DigitsLeft n out₀ to out' (p / 10) q
    digit_on y = record {
      places = first.places;
      power = first.power;
      rest = left_on g.rest one (digits first.places n) first.is y;
    }

  pub digits_end : p ≤ 0 → Put out₀ to (decimal n) i out
  unfolding power_of digits
  digits_end h = left_end g.rest (none g.places g.power)
    where
      none : (d : ℕ) → p ≡ power_of d → digits d n ≡ []
      none zero e = refl
      none (suc d) e = absurd (omega (arith, pow_more d))
