-- A value's record as a list of items: literals, and marks with their counts. A value converts to a kind item by item,
-- whatever the items are parts of.
use Rattle.std.specs.Prelude.{◌≡◌, List, [], ◌∷◌, ◌++◌, map, Bool, true, ℕ, ◌+◌, ◌≤◌, T, length, get_or, drop}
use Rattle.std.proofs.Math.Option.{Option as Maybe, some}
use Rattle.meaning.specs.Kinds.{Kind, kind_no}
use Rattle.meaning.specs.Scalars.{conv, some?}
use Rattle.meaning.specs.Trees.{Val, Vs, Vv, Vm, Va, Vu, Vals, ⟨⟩, ◌▹◌, count_vals}
use Rattle.meaning.specs.Records.{‘V’, ‘v’, ‘m’, ‘a’, le, lit_bytes, joined, columns, every, good_lit}
use Rattle.meaning.specs.Answers.{all_some, map_some}
use Rattle.literal.specs.LiteralAnswers.{converted_of, conv_between}
use Rattle.record.specs.Bytes.{Put, number_at}
use Rattle.record.specs.Literals.{width_of}
use Rattle.std.specs.declared.option.Option.{Option}

-- `Vs` kind and payload; `Vv` n; `Vm` c r; `Va` count
pub data Item : Type 0 where
  Literal : Kind → ℕ → Item
  Vector : ℕ → Item
  Matrix : ℕ → ℕ → Item
  Array : ℕ → Item

unfoldable pub item_bytes : Item → List ℕ
item_bytes (Literal k p) = lit_bytes k p
item_bytes (Vector n) = ‘V’ ∷ ‘v’ ∷ n ∷ []
item_bytes (Matrix c r) = ‘V’ ∷ ‘m’ ∷ c ∷ r ∷ []
item_bytes (Array n) = ‘V’ ∷ ‘a’ ∷ le 2 n

abbrev pub bytes_of : List Item → List ℕ
bytes_of l = joined item_bytes l

unfoldable pub good_item : Item → Bool
good_item (Literal k p) = good_lit k p
good_item (Vector n) = true
good_item (Matrix c r) = true
good_item (Array n) = true

-- a literal converts to the kind k; a mark stays
unfoldable pub conv_item : Kind → Item → Maybe Item
conv_item k (Literal j p) = map_some (Literal k) (conv k j p)
conv_item k (Vector n) = some (Vector n)
conv_item k (Matrix c r) = some (Matrix c r)
conv_item k (Array n) = some (Array n)

abbrev pub conv_items : Kind → List Item → Maybe (List Item)
conv_items k l = all_some (conv_item k) l

-- ---- the items of values; a struct has none, and is not scanned

unfoldable pub column_items : Kind → List (List ℕ) → List Item
column_items k [] = []
column_items k (c ∷ l) = Vector (length c) ∷ (map (Literal k) c ++ column_items k l)

unfoldable mutual
  pub items_of : Val → List Item
  items_of (Vs k p) = Literal k p ∷ []
  items_of (Vv k ps) = Vector (length ps) ∷ map (Literal k) ps
  items_of (Vm c r k ps) = Matrix c r ∷ column_items k (columns c r ps)
  items_of (Va l) = Array (count_vals l) ∷ items_all l
  items_of (Vu i l) = []

  pub items_all : Vals → List Item
  items_all ⟨⟩ = []
  items_all (v ▹ l) = items_of v ++ items_all l

-- ---- where they stand

-- the item a stands in s at i
pub record ItemAt (s : List ℕ) (i : ℕ) (a : Item) : Type 0 where
  pub rest : List ℕ
  pub here : drop i s ≡ item_bytes a ++ rest
  pub good : T (good_item a)

pub record SomeItem (s : List ℕ) (i : ℕ) : Type 0 where
  pub item : Item
  pub stands : ItemAt s i item

-- the items l stand in s from `from` up to e
pub record ItemsAt (s : List ℕ) (from e : ℕ) (l : List Item) : Type 0 where
  pub here : drop from s ≡ bytes_of l ++ drop e s
  pub size : e ≡ from + length (bytes_of l)
  pub within : e ≤ length s
  pub good : T (every good_item l)

pub record SomeItems (s : List ℕ) (from e : ℕ) : Type 0 where
  pub items : List Item
  pub stands : ItemsAt s from e items

-- ---- one item

-- the literal whose record stands at i, converted to the kind whose number k is; by the numbers in the record
abbrev pub literal_as : ℕ → List ℕ → ℕ → Maybe ℕ
literal_as k s i = let j = get_or s (i + 2) 0 in conv_between k j (number_at s (i + 3) (width_of j))

abbrev pub literal_to : ℕ → List ℕ → ℕ → Option ℕ
literal_to k s i = converted_of (literal_as k s i)

abbrev pub EndIs : List ℕ → ℕ → ℕ → Type 0
EndIs s i r = (a : Item) → ItemAt s i a → r ≡ i + length (item_bytes a)

abbrev pub ItemFits : ℕ → List ℕ → ℕ → Bool → Type 0
ItemFits k s i r = (j : Kind) (a : Item) → k ≡ kind_no j → ItemAt s i a → r ≡ some? (conv_item j a)

pub record ItemRoom (k : ℕ) (s : List ℕ) (i : ℕ) (out : List ℕ) (to : ℕ) : Type 0 where
  pub kind : Kind
  pub no : k ≡ kind_no kind
  pub item : Item
  pub into : Item
  pub stands : ItemAt s i item
  pub goes : conv_item kind item ≡ some into
  pub room : to + length (item_bytes into) ≤ length out

abbrev pub ItemPut : ℕ → List ℕ → ℕ → List ℕ → ℕ → ℕ → List ℕ → Type 0
ItemPut k s i out to r out' = (j : Kind) (a b : Item) → k ≡ kind_no j → ItemAt s i a → conv_item j a ≡ some b
    → Put out to (item_bytes b) r out'

-- ---- several

abbrev pub Fits : ℕ → List ℕ → ℕ → ℕ → Bool → Type 0
Fits k s from e r = (j : Kind) (l : List Item) → k ≡ kind_no j → ItemsAt s from e l → r ≡ some? (conv_items j l)

pub record Convertible (k : ℕ) (s : List ℕ) (from e : ℕ) (out : List ℕ) (to : ℕ) : Type 0 where
  pub kind : Kind
  pub no : k ≡ kind_no kind
  pub items : List Item
  pub intos : List Item
  pub stands : ItemsAt s from e items
  pub goes : conv_items kind items ≡ some intos
  pub room : to + length (bytes_of intos) ≤ length out

abbrev pub Converts : ℕ → List ℕ → ℕ → ℕ → List ℕ → ℕ → ℕ → List ℕ → Type 0
Converts k s from e out to r out' = (j : Kind) (l m : List Item) → k ≡ kind_no j → ItemsAt s from e l → conv_items j l ≡ some m
    → Put out to (bytes_of m) r out'
