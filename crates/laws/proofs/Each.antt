-- A list whose elements each give something, or each an answer: the first, the others, and two lists in a row.
use mathlib.Core.Path.{◌≡◌, refl, sym, ap, ◌∙◌}
use mathlib.Core.Option.{Option, none, some}
use mathlib.Core.List.{List, [], ◌∷◌, ◌++◌, append_assoc}
use mathlib.Core.Bool.{Bool, ◌&&◌}
use Prim.Native.Nat.{ℕ, suc, ◌<◌}
use native.Mathlib.Omega.{arith}
use lib.ListN.{length}
use Rattle.meaning.specs.Scalars.{some?}
use Rattle.meaning.specs.Records.{joined, every}
use Rattle.meaning.specs.Answers.{Result, ok, no, miscount, ◌>>=◌, all, all_some, map_some, refusal_of}
use Rattle.laws.proofs.Sound.{on_some, some_inj}
use Rattle.laws.proofs.Named.{bind_ok, ok_inj}

-- ---- options

-- the first in front of the others, if there are both
abbrev pub push : {B : Type 0} → Option B → Option (List B) → Option (List B)
push o x = elim o [ none ↦ none | some b ↦ elim x [ none ↦ none | some bs ↦ some (b ∷ bs) ] ]

some_push : {B : Type 0} (o : Option B) (x : Option (List B)) → some? (push o x) ≡ some? o && some? x
unfolding some?
some_push none x = refl
some_push (some b) none = refl
some_push (some b) (some bs) = refl

-- one after the other, if there are both
unfoldable pub join_some : {A : Type 0} → Option (List A) → Option (List A) → Option (List A)
join_some none y = none
join_some (some a) y = map_some (a ++◌) y

join_nil : {A : Type 0} (y : Option (List A)) → join_some (some []) y ≡ y
unfolding join_some map_some
join_nil none = refl
join_nil (some b) = refl

join_assoc : {A : Type 0} (x y z : Option (List A)) → join_some (join_some x y) z ≡ join_some x (join_some y z)
unfolding join_some map_some
join_assoc none y z = refl
join_assoc (some a) none z = refl
join_assoc (some a) (some b) none = refl
join_assoc (some a) (some b) (some c) = ap some (append_assoc a b c)

module _ {A B : Type 0} (g : A → Option B) where
  pub some_cons : (a : A) (l : List A) → some? (all_some g (a ∷ l)) ≡ some? (g a) && some? (all_some g l)
  unfolding all_some
  some_cons a l = some_push (g a) (all_some g l)

  pub some_every : (l : List A) → some? (all_some g l) ≡ every (λ a. some? (g a)) l
  unfolding all_some every some?
  some_every [] = refl
  some_every (a ∷ l) = some_cons a l ∙ ap (λ (b : Bool). some? (g a) && b) (some_every l)

  -- what the first becomes, and what the others do
  pub record Into (a : A) (l : List A) (m : List B) : Type 0 where
    pub into : B
    pub others : List B
    pub is : m ≡ into ∷ others
    pub head : g a ≡ some into
    pub tail : all_some g l ≡ some others

  pub into_of : (a : A) (l : List A) {m : List B} → all_some g (a ∷ l) ≡ some m → Into a l m
  unfolding all_some
  into_of a l e =
      on_some (g a) _ e λ b h e₁.
      on_some (all_some g l) _ e₁ λ bs h₁ e₂.
      record { into = b; others = bs; is = sym (some_inj e₂); head = h; tail = h₁ }

  pub some_append : (a b : List A) → all_some g (a ++ b) ≡ join_some (all_some g a) (all_some g b)
  unfolding all_some join_some map_some
  some_append [] b = sym (join_nil (all_some g b))
  some_append (a ∷ l) b = go (g a) (all_some g l) (all_some g b) (all_some g (l ++ b)) (some_append l b)
    where
      go : (o : Option B) (x y z : Option (List B)) → z ≡ join_some x y → push o z ≡ join_some (push o x) y
      go none x y z h = refl
      go (some c) none y z h = rw h
      go (some c) (some bs) none z h = rw h
      go (some c) (some bs) (some cs) z h = rw h

  pub some_length : (l : List A) (m : List B) → all_some g l ≡ some m → length m ≡ length l
  unfolding all_some
  some_length [] m e = ap length (sym (some_inj e))
  some_length (a ∷ l) m e = let x = into_of a l e in ap length x.is ∙ ap suc (some_length l x.others x.tail)

  module _ (f : B → List ℕ) where
    -- the writing of the list
    unfoldable pub written : List A → Option (List ℕ)
    written l = map_some (joined f) (all_some g l)

    pub written_cons : (a : A) (l : List A) → written (a ∷ l) ≡ join_some (map_some f (g a)) (written l)
    unfolding written all_some joined join_some map_some
    written_cons a l = go (g a) (all_some g l)
      where
        go : (o : Option B) (x : Option (List B))
            → map_some (joined f) (push o x) ≡ join_some (map_some f o) (map_some (joined f) x)
        go none x = refl
        go (some b) none = refl
        go (some b) (some bs) = refl

    pub written_append : (a b : List A) → written (a ++ b) ≡ join_some (written a) (written b)
    unfolding written all_some joined map_some
    written_append [] b = sym (join_nil (written b))
    written_append (a ∷ l) b =
        written_cons a (l ++ b)
        ∙ (ap (join_some (map_some f (g a))) (written_append l b)
        ∙ (sym (join_assoc (map_some f (g a)) (written l) (written b)) ∙ ap (λ (x : Option (List ℕ)). join_some x (written b))
        (sym (written_cons a l))))

-- ---- an answer that its number tells: it is no miscount, and no refusal has the number 0

abbrev pub Numbered : {A : Type 0} → Result A → Type 0
Numbered (ok a) = Unit {0}
Numbered (no n) = 0 < n
Numbered (miscount w g) = ⊥

module _ {A B : Type 0} where
  pub refusal_map : (x : Result A) (f : A → B) → refusal_of (x >>= λ a. ok (f a)) ≡ refusal_of x
  unfolding refusal_of
  refusal_map (ok a) f = refl
  refusal_map (no n) f = refl
  refusal_map (miscount w g) f = refl

  pub bind_numbered : (x : Result A) (f : A → Result B) → Numbered x → ((a : A) → Numbered (f a)) → Numbered (x >>= f)
  bind_numbered (ok a) f p q = q a
  bind_numbered (no n) f p q = p
  bind_numbered (miscount w g) f p q = p

module _ {A : Type 0} where
  pub number_ok : (x : Result A) → Numbered x → refusal_of x ≡ 0 → (a : A) × (x ≡ ok a)
  unfolding refusal_of
  number_ok (ok a) p e = (a, refl)
  number_ok (no n) p e = absurd (omega arith)
  number_ok (miscount w g) p e = absurd p

  pub number_no : (x : Result A) → Numbered x → (refusal_of x ≡ 0 → ⊥) → x ≡ no (refusal_of x)
  unfolding refusal_of
  number_no (ok a) p e = absurd (e refl)
  number_no (no n) p e = refl
  number_no (miscount w g) p e = absurd p

  -- the first element refuses, or the others decide
  pub first_refuses : (x : Result A) (y : Result (List A)) → (refusal_of x ≡ 0 → ⊥)
      → refusal_of (x >>= λ a. y >>= λ l. ok (a ∷ l)) ≡ refusal_of x
  unfolding refusal_of
  first_refuses (ok a) y e = absurd (e refl)
  first_refuses (no n) y e = refl
  first_refuses (miscount w g) y e = refl

  pub others_decide : (x : Result A) (y : Result (List A)) → Numbered x → refusal_of x ≡ 0
      → refusal_of (x >>= λ a. y >>= λ l. ok (a ∷ l)) ≡ refusal_of y
  unfolding refusal_of
  others_decide (ok a) y p e = refusal_map y (a ∷◌)
  others_decide (no n) y p e = absurd (omega arith)
  others_decide (miscount w g) y p e = absurd p

-- ---- lists of answers

module _ {A B : Type 0} (f : A → Result B) where
  pub all_numbered : ((a : A) → Numbered (f a)) → (l : List A) → Numbered (all f l)
  unfolding all
  all_numbered h [] = tt
  all_numbered h (a ∷ l) = bind_numbered (f a) (λ b. all f l >>= λ bs. ok (b ∷ bs)) (h a)
      (λ b. bind_numbered (all f l) (λ bs. ok (b ∷ bs)) (all_numbered h l) (λ bs. tt))

  -- what the first becomes, and what the others do
  pub record Cons (a : A) (l : List A) (m : List B) : Type 0 where
    pub into : B
    pub others : List B
    pub is : m ≡ into ∷ others
    pub head : f a ≡ ok into
    pub tail : all f l ≡ ok others

  pub all_cons : (a : A) (l : List A) {m : List B} → all f (a ∷ l) ≡ ok m → Cons a l m
  unfolding all
  all_cons a l {m} e =
      let x = bind_ok (f a) (λ b. all f l >>= λ bs. ok (b ∷ bs)) m e in
      let y = bind_ok (all f l) (λ bs. ok (x.0 ∷ bs)) m x.2 in
      record { into = x.0; others = y.0; is = sym (ok_inj y.2); head = x.1; tail = y.1 }

  pub all_length : (l : List A) (m : List B) → all f l ≡ ok m → length m ≡ length l
  unfolding all
  all_length [] m e = ap length (sym (ok_inj e))
  all_length (a ∷ l) m e = let x = all_cons a l e in ap length x.is ∙ ap suc (all_length l x.others x.tail)

  pub all_append : (a b : List A) → all f (a ++ b) ≡ (all f a >>= λ x. all f b >>= λ y. ok (x ++ y))
  unfolding all
  all_append [] b = go (all f b)
    where
      go : (y : Result (List B)) → y ≡ (y >>= λ z. ok z)
      go (ok m) = refl
      go (no n) = refl
      go (miscount w g) = refl
  all_append (a ∷ l) b = go (f a) (all f l) (all f b) (all f (l ++ b)) (all_append l b)
    where
      go : (x : Result B) (y z u : Result (List B)) → u ≡ (y >>= λ c. z >>= λ d. ok (c ++ d))
          → (x >>= λ h. u >>= λ t. ok (h ∷ t)) ≡ ((x >>= λ h. y >>= λ t. ok (h ∷ t)) >>= λ c. z >>= λ d. ok (c ++ d))
      go (ok h) (ok c) (ok d) u e = rw e
      go (ok h) (ok c) (no n) u e = rw e
      go (ok h) (ok c) (miscount w g) u e = rw e
      go (ok h) (no n) z u e = rw e
      go (ok h) (miscount w g) z u e = rw e
      go (no n) y z u e = refl
      go (miscount w g) y z u e = refl
