-- The walk over the items of a record: what is left decides, and what writes the rest makes the whole. Each item goes
-- to another, or to none, by a function g.
use mathlib.Core.Path.{◌≡◌, refl, sym, ap, ◌∙◌}
use mathlib.Core.Option.{Option, some}
use mathlib.Core.List.{List, [], ◌∷◌, ◌++◌, append_assoc}
use Prim.Native.Nat.{ℕ, ◌≤◌, ◌<◌}
use native.Mathlib.Omega.{arith}
use lib.ListN.{drop, length-append}
use Rattle.meaning.specs.Records.{joined, every}
use Rattle.meaning.specs.Answers.{all_some}
use Rattle.laws.proofs.Back.{and_l, and_r}
use Rattle.laws.proofs.Each.{into_of}
use Rattle.laws.proofs.Left.{More, Walk, Left, left_first, left_on, left_end}
use Rattle.laws.proofs.Sound.{some_inj}
use Rattle.record.specs.Bytes.{Put, Takes}
use Rattle.record.proofs.Left as writing
use Rattle.record.proofs.Places.{past}
use Rattle.conv.specs.Items.{Item, item_bytes, bytes_of, good_item, ItemAt, SomeItem, ItemsAt, EndIs}
use Rattle.conv.proofs.ItemSteps.{item_some}

-- ---- the items from i on

module _ {s : List ℕ} {e : ℕ} where
  next : {i : ℕ} (l : List Item) → ItemsAt s i e l → i < e → More l
  unfolding joined
  next [] w h = absurd (omega (arith, w.size))
  next (a ∷ l) w h = record { item = a; others = l; is = refl }

  none_left : {i : ℕ} (l : List Item) → ItemsAt s i e l → e ≤ i → l ≡ []
  unfolding joined
  none_left [] w h = refl
  none_left (a ∷ l) w h = absurd (omega (arith, w.size, item_some a, length-append (item_bytes a) (bytes_of l)))

  walk : Walk (λ i. ItemsAt s i e) e
  walk = record { next = λ {i} {l} w h. next l w h; done = λ {i} {l} w h. none_left l w h }

  module _ {i : ℕ} {a : Item} {l : List Item} (w : ItemsAt s i e (a ∷ l)) where
    here : drop i s ≡ item_bytes a ++ (bytes_of l ++ drop e s)
    unfolding joined
    here = w.here ∙ append_assoc (item_bytes a) (bytes_of l) (drop e s)

    first : ItemAt s i a
    unfolding every
    first = record { rest = bytes_of l ++ drop e s; here = here; good = and_l (good_item a) (every good_item l) w.good }

    rest : {n : ℕ} → EndIs s i n → ItemsAt s n e l
    unfolding joined every
    rest z =
        let q = z a first in
        record {
          here = rw q (past s (item_bytes a) (bytes_of l ++ drop e s) i here);
          size = omega (arith, w.size, length-append (item_bytes a) (bytes_of l));
          within = w.within;
          good = and_r (good_item a) (every good_item l) w.good;
        }

-- ---- what is left, of which Q holds

-- from i up to e there are items of which Q holds
abbrev pub ItemsLeft : List ℕ → ℕ → ℕ → (List Item → Type 0) → Type 0
ItemsLeft s e i Q = Left (λ i. ItemsAt s i e) i Q

module _ {s : List ℕ} {e i : ℕ} {Q : List Item → Type 0} (g : ItemsLeft s e i Q) where
  module _ (h : i < e) where
    pub next_item : SomeItem s i
    next_item = left_first walk g h λ a l w q. record { item = a; stands = first w }

    pub next_less : {n : ℕ} → EndIs s i n → i < n
    next_less z = left_first walk g h λ a l w q. omega (arith, z a (first w), item_some a)

    -- what holds of the next one and the others says what is asked
    pub next_so : {P : Type 0} → ((a : Item) (l : List Item) → ItemAt s i a → Q (a ∷ l) → P) → P
    next_so k = left_first walk g h λ a l w q. k a l (first w) q

    pub next_on : {n : ℕ} {P : List Item → Type 0} → EndIs s i n → ((a : Item) (l : List Item) → ItemAt s i a → Q (a ∷ l) → P l)
        → ItemsLeft s e n P
    next_on z k = left_on walk g h (λ a l w. rest w z) (λ a l w q. k a l (first w) q)

  pub none_next : e ≤ i → Q []
  none_next h = left_end walk g h

-- ---- the writing

-- the items go to others, whose bytes are what is left to write of those of m
pub record Goes (g : Item → Option Item) (out₀ : List ℕ) (to : ℕ) (m : List Item) (out : List ℕ) (p : ℕ) (items : List Item) : Type 0 where
  pub intos : List Item
  pub goes : all_some g items ≡ some intos
  pub rest : writing.Left out₀ to (bytes_of m) out p (bytes_of intos)

abbrev pub Writing : (Item → Option Item) → List ℕ → ℕ → List ℕ → ℕ → List Item → ℕ → ℕ → List ℕ → Type 0
Writing g s e out₀ to m i p out = ItemsLeft s e i (Goes g out₀ to m out p)

pub write_all : (g : Item → Option Item) {s : List ℕ} {from e : ℕ} (out : List ℕ) (to : ℕ) {l m : List Item} → ItemsAt s from e l
    → all_some g l ≡ some m
    → Writing g s e out to m from to out
write_all g out to {l} {m} w h = record {
  items = l;
  row = w;
  so = record { intos = m; goes = h; rest = writing.left_all out to (bytes_of m) };
}

module _ {g : Item → Option Item} {s : List ℕ} {e : ℕ} {out₀ : List ℕ} {to : ℕ} {m : List Item} {i p : ℕ} {out : List ℕ}
    (x : Writing g s e out₀ to m i p out) where
  module _ (h : i < e) where
    -- the next one and what it goes to, for which there is room
    pub write_room : {P : Type 0} → Takes out₀ to (bytes_of m) → ((a b : Item) → ItemAt s i a → g a ≡ some b → Takes out p (item_bytes b) → P)
        → P
    unfolding joined
    write_room t k =
        next_so x h λ a l w q.
        let y = into_of g a l q.goes in
        k a y.into w y.head (writing.left_room q.rest (item_bytes y.into) (bytes_of y.others) (ap bytes_of y.is) t)

    pub write_on : {q n : ℕ} {out' : List ℕ} → EndIs s i n → ((a b : Item) → ItemAt s i a → g a ≡ some b → Put out p (item_bytes b) q out')
        → Writing g s e out₀ to m n q out'
    unfolding joined
    write_on z f =
        next_on x h z λ a l w q.
        let y = into_of g a l q.goes in
        record {
          intos = y.others;
          goes = y.tail;
          rest = writing.left_on q.rest (item_bytes y.into) (bytes_of y.others)
              (ap bytes_of y.is) (f a y.into w y.head);
        }

  pub write_end : e ≤ i → Put out₀ to (bytes_of m) p out
  unfolding joined all_some
  write_end h = let q = none_next x h in writing.left_end q.rest (ap bytes_of (sym (some_inj q.goes)))
