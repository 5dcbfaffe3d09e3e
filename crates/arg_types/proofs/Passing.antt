-- Each of a list passes a test, or a rule.
use mathlib.Core.Path.{◌≡◌, refl, sym, ap, ◌∙◌, subst}
use mathlib.Core.List.{List, [], ◌∷◌}
use mathlib.Core.Bool.{Bool, true, false}
use Prim.Native.Nat.{ℕ}
use Rattle.meaning.specs.Trees.{Ty}
use Rattle.meaning.specs.Records.{every}
use Rattle.meaning.specs.Answers.{Result, ok, no, all, ◌>>=◌}
use Rattle.arg_types.specs.Components.{Gives, Passes}

module _ (f : Ty → Bool) (t : Ty) (l : List Ty) {b r : Bool} (q : every f (t ∷ l) ≡ b) (p : r ≡ f t) where
  pub every_no : r ≡ false → false ≡ b
  unfolding every
  every_no h = rw (sym p ∙ h) at q

  pub every_on : r ≡ true → every f l ≡ b
  unfolding every
  every_on h = rw (sym p ∙ h) at q

-- ---- each passes a rule

module _ {A B : Type 0} (f : A → Result B) (n : ℕ) (a : A) (l : List A) where
  pub pass_no : {r : Bool} → Passes n (f a) r → r ≡ false → all f (a ∷ l) ≡ no n
  unfolding all
  pass_no p h = let z : f a ≡ no n = subst (Passes n (f a)) h p in rw z

  pub pass_on : {r : Bool} → Passes n (f a) r → r ≡ true → (b : Bool) → Passes n (all f l) b → Passes n (all f (a ∷ l)) b
  unfolding all
  pass_on p h b q = go (subst (Passes n (f a)) h p).value (subst (Passes n (f a)) h p).is b q
    where
      go : (v : B) → f a ≡ ok v → (b : Bool) → Passes n (all f l) b → Passes n (all f (a ∷ l)) b
      go v e true q = record {
        value = v ∷ q.value;
        is = ap (λ (x : Result B). x >>= λ b. all f l >>= λ bs. ok (b ∷ bs)) e
            ∙ ap (λ (x : Result (List B)). x >>= λ bs. ok (v ∷ bs)) q.is;
      }
      go v e false q = ap (λ (x : Result B). x >>= λ b. all f l >>= λ bs. ok (b ∷ bs)) e
          ∙ ap (λ (x : Result (List B)). x >>= λ bs. ok (v ∷ bs)) q

pub pass_end : {A B : Type 0} (f : A → Result B) → Gives (all f [])
unfolding all
pass_end f = record { value = []; is = refl }
