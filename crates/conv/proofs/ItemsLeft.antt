-- Whether the items that a loop has left convert says whether all do.
use mathlib.Core.Path.{◌≡◌, sym, ◌∙◌}
use mathlib.Core.List.{List}
use mathlib.Core.Bool.{Bool, true, false}
use Prim.Native.Nat.{ℕ, ◌≤◌, ◌<◌}
use Rattle.meaning.specs.Kinds.{Kind, kind_no}
use Rattle.meaning.specs.Scalars.{some?}
use Rattle.meaning.specs.Answers.{all_some}
use Rattle.laws.proofs.Each.{some_cons}
use Rattle.conv.specs.Items.{Item, conv_item, conv_items, EndIs, ItemFits}
use Rattle.conv.proofs.Walk.{ItemsLeft, next_so, next_on, none_next}

abbrev pub FitLeft : ℕ → List ℕ → ℕ → ℕ → List Item → Type 0
FitLeft k s e i l = ItemsLeft s e i (λ m. (j : Kind) → k ≡ kind_no j → some? (conv_items j m) ≡ some? (conv_items j l))

module _ {k : ℕ} {s : List ℕ} {e i : ℕ} (l : List Item) (g : FitLeft k s e i l) where
  module _ (h : i < e) {r : Bool} (f : ItemFits k s i r) where
    pub fit_no : r ≡ false → (j : Kind) → k ≡ kind_no j → false ≡ some? (conv_items j l)
    fit_no q j n = next_so g h λ a m w x. (rw (sym (f j a n w) ∙ q) at (sym (some_cons (conv_item j) a m) ∙ x j n))

    pub fit_on : {n : ℕ} → r ≡ true → EndIs s i n → FitLeft k s e n l
    fit_on q z = next_on g h z λ a m w x j n. (rw (sym (f j a n w) ∙ q) at (sym (some_cons (conv_item j) a m) ∙ x j n))

  pub fit_end : e ≤ i → (j : Kind) → k ≡ kind_no j → true ≡ some? (conv_items j l)
  unfolding all_some some?
  fit_end h j n = none_next g h j n
