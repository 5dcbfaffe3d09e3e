-- What is left decides: a loop goes from item to item of a row, and what it knows of the items that are left says what holds of all.
use mathlib.Core.Path.{◌≡◌, refl, ap, subst}
use mathlib.Core.List.{List, [], ◌∷◌}
use Prim.Native.Nat.{ℕ, ◌≤◌, ◌<◌}
use native.Mathlib.Omega.{arith}
use lib.ListN.{length, drop, length-drop, length-append}
use Rattle.meaning.specs.Records.{joined}

-- the first of some items, and the others
pub record More {A : Type 0} (l : List A) : Type 0 where
  pub item : A
  pub others : List A
  pub is : l ≡ item ∷ others

-- `R i l` says that the items l stand from i on: another stands before the end n, and none at the end
pub record Walk {A : Type 0} (R : ℕ → List A → Type 0) (n : ℕ) : Type 0 where
  pub next : {i : ℕ} {l : List A} → R i l → i < n → More l
  pub done : {i : ℕ} {l : List A} → R i l → n ≤ i → l ≡ []

-- from i on there are items of which Q holds
pub record Left {A : Type 0} (R : ℕ → List A → Type 0) (i : ℕ) (Q : List A → Type 0) : Type 0 where
  pub items : List A
  pub row : R i items
  pub so : Q items

module _ {A : Type 0} {R : ℕ → List A → Type 0} {n : ℕ} (w : Walk R n) {i : ℕ} {Q : List A → Type 0} (g : Left R i Q) where
  module _ (h : i < n) where
    -- what holds of the next one and the others says what is asked
    pub left_first : {P : Type 0} → ((a : A) (l : List A) → R i (a ∷ l) → Q (a ∷ l) → P) → P
    left_first k = let m = w.next g.row h in k m.item m.others (subst (R i) m.is g.row) (subst Q m.is g.so)

    -- or what holds of the others, which stand from e on
    pub left_on : {e : ℕ} {P : List A → Type 0} → ((a : A) (l : List A) → R i (a ∷ l) → R e l)
        → ((a : A) (l : List A) → R i (a ∷ l) → Q (a ∷ l) → P l) → Left R e P
    left_on f k = left_first λ a l x q. record { items = l; row = f a l x; so = k a l x q }

  pub left_end : n ≤ i → Q []
  left_end h = subst Q (w.done g.row h) g.so

-- records one after another, up to the end of the bytes
module _ {A : Type 0} (write : A → List ℕ) (some_bytes : (a : A) → 1 ≤ length (write a)) (s : List ℕ) where
  next_record : (i : ℕ) (l : List A) → drop i s ≡ joined write l → i < length s → More l
  unfolding joined
  next_record i [] e h = absurd (omega (arith, length-drop i s, ap length e))
  next_record i (a ∷ l) e h = record { item = a; others = l; is = refl }

  no_record : (i : ℕ) (l : List A) → drop i s ≡ joined write l → length s ≤ i → l ≡ []
  unfolding joined
  no_record i [] e h = refl
  no_record i (a ∷ l) e h = absurd (omega (arith, length-drop i s, ap length e, length-append (write a) (joined write l), some_bytes a))

  pub records_walk : {R : ℕ → List A → Type 0} → ((i : ℕ) (l : List A) → R i l → drop i s ≡ joined write l) → Walk R (length s)
  records_walk f = record { next = λ {i} {l} x h. next_record i l (f i l x) h; done = λ {i} {l} x h. no_record i l (f i l x) h }
