-- An answer is a result, a refusal's number, or 8 with the count wanted and the count given ("only 8 carries more").
use Rattle.std.proofs.Math.Option.{Option, none, some}
use Rattle.std.specs.Prelude.{List, [], ◌∷◌, Bool, true, false, ℕ}

pub data Result (A : Type 0) : Type 0 where
  ok : A → Result A
  no : ℕ → Result A
  miscount : ℕ → ℕ → Result A

abbrev pub Answer : Type 0
Answer = Result (List ℕ)

abbrev pub ◌>>=◌ : {A B : Type 0} → Result A → (A → Result B) → Result B
◌>>=◌ (ok a) f = f a
◌>>=◌ (no n) f = no n
◌>>=◌ (miscount w g) f = miscount w g

abbrev pub ◌>>◌ : {A B : Type 0} → Result A → Result B → Result B
◌>>◌ (ok a) b = b
◌>>◌ (no n) b = no n
◌>>◌ (miscount w g) b = miscount w g

infixl 20 ◌>>=◌
infixl 20 ◌>>◌
-- the result of an option, or the refusal n
abbrev pub or_no : {A : Type 0} → ℕ → Option A → Result A
or_no n none = no n
or_no n (some a) = ok a

-- go on where the test holds, else refuse with n
abbrev pub need : Bool → ℕ → Result (Unit {0})
need true n = ok tt
need false n = no n

-- the same for a count: 8, with the count wanted and the count given
abbrev pub need_count : Bool → ℕ → ℕ → Result (Unit {0})
need_count true w g = ok tt
need_count false w g = miscount w g

-- each element in order, up to the first refusal
unfoldable pub all : {A B : Type 0} → (A → Result B) → List A → Result (List B)
all f [] = ok []
all f (a ∷ l) = do
  b ← f a
  bs ← all f l
  ok (b ∷ bs)

-- each element, if all give something
unfoldable pub all_some : {A B : Type 0} → (A → Option B) → List A → Option (List B)
all_some f [] = some []
all_some f (a ∷ l) = elim (f a) [ none ↦ none | some b ↦ elim (all_some f l) [ none ↦ none | some bs ↦ some (b ∷ bs) ] ]

unfoldable pub map_some : {A B : Type 0} → (A → B) → Option A → Option B
map_some f none = none
map_some f (some a) = some (f a)

-- the number of the refusal, 0 where there is none
unfoldable pub refusal_of : {A : Type 0} → Result A → ℕ
refusal_of (ok a) = 0
refusal_of (no n) = n
refusal_of (miscount w g) = 8
