-- How the items that a loop has left are refused says how all are; and what an item goes to, for the writing.
use mathlib.Core.Path.{◌≡◌, sym, ap, ◌∙◌}
use mathlib.Core.Option.{Option}
use mathlib.Core.List.{List}
use Prim.Native.Nat.{ℕ, ◌≤◌, ◌<◌}
use native.Mathlib.Omega.{arith}
use Rattle.std.proofs.lemmas.Result.{IfOk-at_ok}
use Rattle.literal.specs.declared.Unmade.{Unmade}
use Rattle.literal.specs.declared.Unmade.TheVariants.{NoTarget, NoArgument, Abstract, Integer, Float}
use Rattle.std.specs.declared.result.Result.{Result as Outcome}
use Rattle.std.specs.declared.result.Result.TheVariants.{Ok, Err}
use Rattle.error.specs.Refusals.{number}
use Rattle.literal.specs.LiteralAnswers.{refusal_for}
use Rattle.meaning.specs.Kinds.{Kind}
use Rattle.meaning.specs.Scalars.{Stage}
use Rattle.meaning.specs.Answers.{all, refusal_of}
use Rattle.laws.proofs.Each.{first_refuses, others_decide}
use Rattle.literal.specs.declared.Rules.{Rules}
use Rattle.conv.specs.Items.{Item, EndIs}
use Rattle.conv.proofs.Walk.{ItemsLeft, next_less, next_so, next_on, none_next}
use Rattle.scalar.specs.Made.{make_item, make_items, Ctor, ItemMade, number_in}
use Rattle.scalar.proofs.Results.{given, item_numbered}

-- what the constructor makes of an item, if it takes it
abbrev pub made_of : Stage → Kind → Item → Option Item
made_of s j a = given (make_item s j a)

-- no refusal's number is 0
pub some_number : (u : Unmade) → number (refusal_for u) ≡ 0 → ⊥
some_number NoTarget e = omega arith
some_number NoArgument e = omega arith
some_number Abstract e = omega arith
some_number Integer e = omega arith
some_number Float e = omega arith

abbrev pub Undecided : Rules → ℕ → List ℕ → ℕ → ℕ → List Item → Type 0
Undecided rules k src e i l = ItemsLeft src e i (λ m. (s : Stage) (j : Kind) → Ctor rules k s j
    → refusal_of (make_items s j m) ≡ refusal_of (make_items s j l))

module _ {rules : Rules} {k : ℕ} {src : List ℕ} {e i : ℕ} (l : List Item) (g : Undecided rules k src e i l) where
  module _ (h : i < e) {r : Outcome ℕ Unmade} (f : ItemMade rules k src i r) where
    -- the first literal that is refused decides
    pub decide_no : {u : Unmade} → r ≡ Err u → (s : Stage) (j : Kind) → Ctor rules k s j
        → number (refusal_for u) ≡ refusal_of (make_items s j l)
    unfolding all
    decide_no {u} q s j c =
        next_so g h λ a m w x.
        let y : number (refusal_for u) ≡ refusal_of (make_item s j a) = sym (ap number_in q) ∙ f.made s j a c w in
        y ∙ (sym (first_refuses (make_item s j a) (make_items s j m) (λ z. some_number u (y ∙ z))) ∙ x s j c)

    pub decide_on : {n : ℕ} → r ≡ Ok n → Undecided rules k src e n l
    unfolding all
    decide_on {n} q =
        next_on g h (IfOk-at_ok (EndIs src i) q f.ends) λ a m w x s j c.
        sym (others_decide (make_item s j a) (make_items s j m) (item_numbered s j a) (sym (f.made s j a c w) ∙ ap number_in q)) ∙ x s j c

    pub decide_less : {n : ℕ} → r ≡ Ok n → i < n
    decide_less q = next_less g h (IfOk-at_ok (EndIs src i) q f.ends)

  pub decide_end : e ≤ i → (s : Stage) (j : Kind) → Ctor rules k s j → 0 ≡ refusal_of (make_items s j l)
  unfolding all refusal_of
  decide_end h s j c = none_next g h s j c
