-- An entry's answer that writes a record, told in numbers.
use mathlib.Core.Path.{◌≡◌, refl, ap, ◌∙◌}
use mathlib.Core.List.{List}
use Prim.Native.Nat.{ℕ}
use lib.ListN.{length}
use Rattle.meaning.specs.Answers.{ok, no, miscount, refusal_of}
use Rattle.meaning.specs.Answers as definition
use Rattle.error.specs.Refusals.{number, paper}
use Rattle.error.specs.declared.Refusal.TheVariants.{Count}
use Rattle.error.proofs.Refusals as refusals
use Rattle.error.specs.Told.{Written, Told, by_length}
use Rattle.error.specs.Numbers.{numbers, refused_numbers, in_numbers, Records, value_of, wanted_of, given_of}
use Rattle.error.specs.declared.Answer.{Answer}
use Rattle.error.specs.declared.Refusal.{Refusal}
use Rattle.std.specs.declared.result.Result.TheVariants.{Ok, Err}

-- a refusal without counts
pub plain_numbers : (x : Refusal) → ((w g : ℕ) → x ≡ Count w g → ⊥) → numbers (number x) 0 0 0 ≡ refused_numbers x
unfolding refusal_of value_of wanted_of given_of
plain_numbers x h = go x (refusals.told x) h
  where
    go : (y : Refusal) → refusals.Told y → ((w g : ℕ) → y ≡ Count w g → ⊥) → numbers (number y) 0 0 0 ≡ refused_numbers y
    go y (refusals.plain e) n = rw (e ℕ) refl
    go _ (refusals.counted w g) n = absurd (n w g refl)

pub counted_numbers : (x : Refusal) (w g : ℕ) → x ≡ Count w g → numbers 8 0 w g ≡ refused_numbers x
unfolding refusal_of value_of wanted_of given_of
counted_numbers x w g e = rw e refl

-- an answer's case in numbers
module _ (x : Written) where
  pub recorded : (n : ℕ) → x ≡ Ok n → numbers 0 n 0 0 ≡ in_numbers (λ n. n) (paper x)
  unfolding paper refusal_of value_of wanted_of given_of
  recorded n g = rw g refl

  pub refused : (y : Refusal) → x ≡ Err y → refused_numbers y ≡ in_numbers (λ n. n) (paper x)
  unfolding paper
  refused y g = rw g refl

-- a record's number is its length
by_length_lem : (a : definition.Answer) → in_numbers (λ n. n) (by_length a) ≡ in_numbers length a
unfolding by_length refusal_of value_of wanted_of given_of
by_length_lem (ok s) = refl
by_length_lem (no n) = refl
by_length_lem (miscount w g) = refl

-- with the buffer
pub told : {a : definition.Answer} {out out' : List ℕ} {x : Written} {r : Answer} → Told a out x out' → r ≡ in_numbers (λ n. n) (paper x)
    → Records a out r out'
told {a} t f = record { numbers = f ∙ ap (in_numbers (λ n. n)) t.says ∙ by_length_lem a; leaves = t.leaves }
