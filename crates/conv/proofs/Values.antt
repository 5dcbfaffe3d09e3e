-- The items of a value, where its record stands; converting them and writing them down writes the converted value.
use mathlib.Core.Path.{◌≡◌, refl, sym, ap, ap₂, ◌∙◌, subst}
use mathlib.Core.Option.{Option, none, some}
use mathlib.Core.List.{List, [], ◌∷◌, ◌++◌, map, append_assoc, append-nil}
use mathlib.Core.Bool.{Bool, true}
use Prim.Native.Nat.{ℕ, zero, suc, ◌+◌, ◌*◌, ◌≤◌}
use native.Mathlib.Omega.{arith}
use native.Mathlib.Nat.{zero-mul}
use lib.Dec.{T, eqb, eqb→eq}
use lib.ListN.{length, take, drop, take-append-drop}
use lib.Seq.{take_at, drop_at}
use Rattle.meaning.specs.Kinds.{Kind, kind_no}
use Rattle.meaning.specs.Scalars.{conv, some?}
use Rattle.meaning.specs.Trees.{Val, Vs, Vv, Vm, Va, Vu, Vals, ⟨⟩, ◌▹◌, types_of, count_vals, vals_of}
use Rattle.meaning.specs.Records.{‘V’, ‘v’, ‘m’, ‘a’, le, lit_bytes, vec_bytes, columns, joined, val_bytes, vals_bytes, every, good_lit}
use Rattle.meaning.specs.Records.{all_same, shaped_val, shaped_vals}
use Rattle.meaning.specs.Answers.{all_some, map_some}
use Rattle.meaning.specs.Convert.{conv_lits, conv_all}
use Rattle.laws.proofs.AgreeConv.{every_append}
use Rattle.laws.proofs.Back.{and_l, and_r}
use Rattle.laws.proofs.BackVal.{drop_len, take_len, every_take, every_drop}
use Rattle.laws.proofs.Same.{both}
use Rattle.laws.proofs.SoundVal.{joined_vals}
use Rattle.laws.proofs.Sound.{on_some, some_inj}
use Rattle.record.specs.Bytes.{Put}
use Rattle.conv.specs.Items.{Item, Literal, Vector, Matrix, Array, item_bytes, bytes_of, good_item, conv_item, conv_items, column_items}
use Rattle.conv.specs.Items.{items_of, items_all, ItemsAt, SomeItems, Fits, Convertible, Converts}
use Rattle.record.specs.Values.{BytesAt, HasVal}
use Rattle.conv.specs.Values.{plain, plains}
use Rattle.laws.proofs.Each.{join_some, some_append, some_length, written, written_cons, written_append}

-- ---- a record is its items'

pub joined_append : {A : Type 0} (f : A → List ℕ) (a b : List A) → joined f (a ++ b) ≡ joined f a ++ joined f b
unfolding joined
joined_append f [] b = refl
joined_append f (x ∷ a) b = (rw (joined_append f a b)) ∙ sym (append_assoc (f x) (joined f a) (joined f b))

lits_bytes : (k : Kind) (ps : List ℕ) → joined (lit_bytes k) ps ≡ bytes_of (map (Literal k) ps)
unfolding joined item_bytes
lits_bytes k [] = refl
lits_bytes k (p ∷ ps) = ap (λ (l : List ℕ). lit_bytes k p ++ l) (lits_bytes k ps)

columns_bytes : (k : Kind) (cs : List (List ℕ)) → joined (vec_bytes k) cs ≡ bytes_of (column_items k cs)
unfolding joined item_bytes column_items vec_bytes
columns_bytes k [] = refl
columns_bytes k (c ∷ cs) = rw (joined_append item_bytes (map (Literal k) c) (column_items k cs), ← lits_bytes k c, ← columns_bytes k cs)

mutual
  unfolding joined item_bytes items_of plain val_bytes vec_bytes

  pub items_bytes : (v : Val) → T (plain v) → val_bytes v ≡ bytes_of (items_of v)
  items_bytes (Vs k p) h = sym (append-nil (lit_bytes k p))
  items_bytes (Vv k ps) h = ap (λ (x : List ℕ). ‘V’ ∷ ‘v’ ∷ length ps ∷ x) (lits_bytes k ps)
  items_bytes (Vm c r k ps) h = ap (λ (x : List ℕ). ‘V’ ∷ ‘m’ ∷ c ∷ r ∷ x) (columns_bytes k (columns c r ps))
  items_bytes (Va l) h = ap (λ (x : List ℕ). ‘V’ ∷ ‘a’ ∷ le 2 (count_vals l) ++ x) (all_bytes l h)
  items_bytes (Vu i l) h = absurd h

  all_bytes : (l : Vals) → T (plains l) → vals_bytes l ≡ bytes_of (items_all l)
  all_bytes ⟨⟩ h = refl
  all_bytes (v ▹ l) h =
      ap₂ ◌++◌ (items_bytes v (and_l (plain v) (plains l) h)) (all_bytes l (and_r (plain v) (plains l) h))
      ∙ sym (joined_append item_bytes (items_of v) (items_all l))

-- ---- the payloads are in range

lits_good : (k : Kind) (ps : List ℕ) → T (every (good_lit k) ps) → T (every good_item (map (Literal k) ps))
unfolding every good_item
lits_good k [] g = tt
lits_good k (p ∷ ps) g =
    both (good_lit k p) (every good_item (map (Literal k) ps)) (and_l (good_lit k p) (every (good_lit k) ps) g)
    (lits_good k ps (and_r (good_lit k p) (every (good_lit k) ps) g))

append_good : (a b : List Item) → T (every good_item a) → T (every good_item b) → T (every good_item (a ++ b))
append_good a b g h = rw (every_append good_item a b) (both (every good_item a) (every good_item b) g h)

columns_good : (k : Kind) (c r : ℕ) (ps : List ℕ) → T (every (good_lit k) ps) → T (every good_item (column_items k (columns c r ps)))
unfolding columns column_items every good_item
columns_good k zero r ps g = tt
columns_good k (suc c) r ps g =
    append_good (map (Literal k) (take r ps)) (column_items k (columns c r (drop r ps)))
    (lits_good k (take r ps) (every_take (good_lit k) r ps g))
    (columns_good k c r (drop r ps) (every_drop (good_lit k) r ps g))

mutual
  unfolding items_of shaped_val every good_item

  pub items_good : (v : Val) → T (shaped_val v) → T (every good_item (items_of v))
  items_good (Vs k p) g = both (good_lit k p) true g tt
  items_good (Vv k ps) g = lits_good k ps g
  items_good (Vm c r k ps) g = columns_good k c r ps (and_l (every (good_lit k) ps) (eqb (length ps) (c * r)) g)
  items_good (Va l) g = all_good l (and_r (all_same (types_of l)) (shaped_vals l) g)
  items_good (Vu i l) g = tt

  all_good : (l : Vals) → T (shaped_vals l) → T (every good_item (items_all l))
  all_good ⟨⟩ g = tt
  all_good (v ▹ l) g = append_good (items_of v) (items_all l) (items_good v (and_l (shaped_val v) (shaped_vals l) g))
      (all_good l (and_r (shaped_val v) (shaped_vals l) g))

-- ---- the items converted and written are the value converted and written

abbrev conv_bytes : Kind → List Item → Option (List ℕ)
conv_bytes k l = written (conv_item k) item_bytes l

lit_written : (k j : Kind) (p : ℕ) → map_some item_bytes (conv_item k (Literal j p)) ≡ map_some (lit_bytes k) (conv k j p)
unfolding conv_item map_some item_bytes
lit_written k j p = go (conv k j p)
  where
    go : (o : Option ℕ) → map_some item_bytes (map_some (Literal k) o) ≡ map_some (lit_bytes k) o
    go none = refl
    go (some q) = refl

lits_written : (k j : Kind) (ps : List ℕ) → conv_bytes k (map (Literal j) ps) ≡ written (conv k j) (lit_bytes k) ps
unfolding written all_some map_some joined
lits_written k j [] = refl
lits_written k j (p ∷ ps) =
    written_cons (conv_item k) item_bytes (Literal j p) (map (Literal j) ps)
    ∙ (ap₂ join_some (lit_written k j p) (lits_written k j ps) ∙ sym (written_cons (conv k j) (lit_bytes k) p ps))

-- the columns, where there are c of r payloads
cols : Kind → ℕ → ℕ → List ℕ → List ℕ
cols k c r qs = joined (vec_bytes k) (columns c r qs)

column_written : (k : Kind) (c r n : ℕ) (x y : Option (List ℕ)) → n ≡ r → ((qs : List ℕ) → x ≡ some qs → length qs ≡ r)
    → map_some ((‘V’ ∷ ‘v’ ∷ n ∷ []) ++◌) (join_some (map_some (joined (lit_bytes k)) x) (map_some (cols k c r) y)) ≡ map_some (cols k (suc c) r)
    (join_some x y)
unfolding map_some join_some cols joined columns vec_bytes
column_written k c r n none y e l = refl
column_written k c r n (some a) none e l = refl
column_written k c r n (some a) (some b) e l = let z : length a ≡ r = l a refl in rw (take_at a b r z, drop_at a b r z, z, e)

mark_written : (k : Kind) (a : Item) (l : List Item) → conv_item k a ≡ some a
    → conv_bytes k (a ∷ l) ≡ map_some (item_bytes a ++◌) (conv_bytes k l)
unfolding join_some map_some
mark_written k a l h = written_cons (conv_item k) item_bytes a l ∙ ap (λ (o : Option Item). join_some (map_some item_bytes o) (conv_bytes k l)) h

columns_written : (k j : Kind) (c r : ℕ) (ps : List ℕ) → length ps ≡ c * r
    → conv_bytes k (column_items j (columns c r ps)) ≡ map_some (cols k c r) (all_some (conv k j) ps)
unfolding column_items columns written all_some map_some joined cols item_bytes conv_item
columns_written k j zero r [] h = refl
columns_written k j zero r (p ∷ ps) h = absurd (omega (arith, zero-mul r))
columns_written k j (suc c) r ps h =
    let n : length (take r ps) ≡ r = take_len c r ps h in
    let a = map (Literal j) (take r ps) in
    let b = column_items j (columns c r (drop r ps)) in
    mark_written k (Vector (length (take r ps))) (a ++ b) refl
    ∙ (ap (map_some ((‘V’ ∷ ‘v’ ∷ length (take r ps) ∷ []) ++◌))
    (written_append (conv_item k) item_bytes a b ∙ ap₂ join_some (lits_written k j (take r ps))
    (columns_written k j c r (drop r ps) (drop_len c r ps h)))
    ∙ (column_written k c r (length (take r ps)) (all_some (conv k j) (take r ps)) (all_some (conv k j) (drop r ps)) n
    (λ qs e. some_length (conv k j) (take r ps) qs e ∙ n)
    ∙ ap (map_some (cols k (suc c) r)) (sym (some_append (conv k j) (take r ps) (drop r ps))
    ∙ ap (all_some (conv k j)) (take-append-drop r ps))))

count_kept : (k : Kind) (l m : Vals) → conv_all k l ≡ some m → count_vals m ≡ count_vals l
unfolding conv_all count_vals map_some
count_kept k ⟨⟩ m e = ap count_vals (sym (some_inj e))
count_kept k (v ▹ l) m e = on_some (conv_lits k v) _ e λ w h e₁. go w (conv_all k l) (count_kept k l) refl e₁
  where
    go : (w : Val) (o : Option Vals) → ((m : Vals) → conv_all k l ≡ some m → count_vals m ≡ count_vals l) → conv_all k l ≡ o
        → map_some (w ▹◌) o ≡ some m → count_vals m ≡ suc (count_vals l)
    go w none f q u = absurd (let z : ◌≡◌ {A = ℕ} 0 1 = cc in omega arith)
    go w (some x) f q u = ap count_vals (sym (some_inj u)) ∙ ap suc (f x q)

-- a record of counted parts: its mark and count, and then the parts, as many as there were
parts_written : {A B : Type 0} (o : Option A) (front : ℕ → List ℕ) (write : A → List ℕ) (make : A → B) (whole : B → List ℕ) (size : A → ℕ)
    (n : ℕ)
    → ((a : A) → whole (make a) ≡ front (size a) ++ write a) → ((a : A) → o ≡ some a → size a ≡ n)
    → map_some (front n ++◌) (map_some write o) ≡ map_some whole (map_some make o)
unfolding map_some
parts_written none front write make whole size n f g = refl
parts_written (some a) front write make whole size n f g = ap some (ap (λ (m : ℕ). front m ++ write a) (sym (g a refl)) ∙ sym (f a))

one_written : (k : Kind) (o : Option ℕ) → join_some (map_some (lit_bytes k) o) (some []) ≡ map_some val_bytes (map_some (Vs k) o)
unfolding map_some join_some val_bytes
one_written k none = refl
one_written k (some q) = ap some (append-nil (lit_bytes k q))

cons_written : (x : Option Val) (y : Option Vals) → join_some (map_some val_bytes x) (map_some vals_bytes y)
    ≡ map_some vals_bytes (let r : Option Vals = elim x [ none ↦ none | some w ↦ map_some (w ▹◌) y ] in r)
unfolding map_some join_some val_bytes
cons_written none y = refl
cons_written (some w) none = refl
cons_written (some w) (some m) = refl

mutual
  unfolding items_of plain shaped_val conv_lits item_bytes conv_item val_bytes vec_bytes written all_some map_some joined cols

  val_written : (k : Kind) (v : Val) → T (plain v) → T (shaped_val v) → conv_bytes k (items_of v) ≡ map_some val_bytes (conv_lits k v)
  val_written k (Vs j p) h g =
      written_cons (conv_item k) item_bytes (Literal j p) [] ∙
      (ap (λ (o : Option (List ℕ)). join_some o (some [])) (lit_written k j p) ∙ one_written k (conv k j p))
  val_written k (Vv j ps) h g =
      mark_written k (Vector (length ps)) (map (Literal j) ps) refl
      ∙ (ap (map_some ((‘V’ ∷ ‘v’ ∷ length ps ∷ []) ++◌)) (lits_written k j ps)
      ∙ parts_written (all_some (conv k j) ps) (λ n. ‘V’ ∷ ‘v’ ∷ n ∷ []) (joined (lit_bytes k)) (Vv k) val_bytes length (length ps)
      (λ qs. refl) (some_length (conv k j) ps))
  val_written k (Vm c r j ps) h g =
      mark_written k (Matrix c r) (column_items j (columns c r ps)) refl
      ∙ (ap (map_some ((‘V’ ∷ ‘m’ ∷ c ∷ r ∷ []) ++◌))
      (columns_written k j c r ps (eqb→eq (length ps) (c * r) (and_r (every (good_lit j) ps) (eqb (length ps) (c * r)) g)))
      ∙ parts_written (all_some (conv k j) ps) (λ n. ‘V’ ∷ ‘m’ ∷ c ∷ r ∷ []) (cols k c r) (Vm c r k) val_bytes length (length ps)
      (λ qs. refl) (some_length (conv k j) ps))
  val_written k (Va l) h g =
      mark_written k (Array (count_vals l)) (items_all l) refl
      ∙ (ap (map_some ((‘V’ ∷ ‘a’ ∷ le 2 (count_vals l)) ++◌)) (vals_written k l h (and_r (all_same (types_of l)) (shaped_vals l) g))
      ∙ parts_written (conv_all k l) (λ n. ‘V’ ∷ ‘a’ ∷ le 2 n) vals_bytes Va val_bytes count_vals (count_vals l) (λ m. refl) (count_kept k l))
  val_written k (Vu i l) h g = absurd h

  vals_written : (k : Kind) (l : Vals) → T (plains l) → T (shaped_vals l) → conv_bytes k (items_all l) ≡ map_some vals_bytes (conv_all k l)
  vals_written k ⟨⟩ h g = refl
  vals_written k (v ▹ l) h g =
      written_append (conv_item k) item_bytes (items_of v) (items_all l)
      ∙ (ap₂ join_some (val_written k v (and_l (plain v) (plains l) h) (and_l (shaped_val v) (shaped_vals l) g))
      (vals_written k l (and_r (plain v) (plains l) h) (and_r (shaped_val v) (shaped_vals l) g))
      ∙ cons_written (conv_lits k v) (conv_all k l))

-- the same for a list of values
list_written : (k : Kind) (l : List Val) → map_some vals_bytes (conv_all k (vals_of l)) ≡ written (conv_lits k) val_bytes l
unfolding written all_some map_some joined vals_of conv_all val_bytes
list_written k [] = refl
list_written k (v ∷ l) =
    sym (cons_written (conv_lits k v) (conv_all k (vals_of l))) ∙
    (ap (join_some (map_some val_bytes (conv_lits k v))) (list_written k l) ∙ sym (written_cons (conv_lits k) val_bytes v l))

-- ---- for callers: what is scanned, and what the scan comes to

-- items stand in s from `from` up to e, and written with their literals of the kind k they are o
pub record Scan (k : Kind) (s : List ℕ) (from e : ℕ) (o : Option (List ℕ)) : Type 0 where
  pub items : List Item
  pub stands : ItemsAt s from e items
  pub writes : conv_bytes k items ≡ o

pub items_at : {s : List ℕ} {from e : ℕ} {bs : List ℕ} (l : List Item) → BytesAt s from e bs → bs ≡ bytes_of l → T (every good_item l)
    → ItemsAt s from e l
items_at {s} {from} {e} l w q g = let z = subst (BytesAt s from e) q w in
    record { here = z.here; size = z.size; within = z.within; good = g }

module _ {s : List ℕ} {from e : ℕ} (k : Kind) where
  -- a value
  pub val_scan : (v : Val) → HasVal s from e v → T (plain v) → Scan k s from e (map_some val_bytes (conv_lits k v))
  val_scan v w h =
      record {
        items = items_of v;
        stands = items_at (items_of v) w.bytes (items_bytes v h) (items_good v w.shaped);
        writes = val_written k v h w.shaped;
      }

  -- several values in a row: the arguments of an array, or the columns of a matrix
  pub vals_scan : (l : Vals) → BytesAt s from e (vals_bytes l) → T (shaped_vals l) → T (plains l)
      → Scan k s from e (map_some vals_bytes (conv_all k l))
  vals_scan l w g h = record {
    items = items_all l;
    stands = items_at (items_all l) w (all_bytes l h) (all_good l g);
    writes = vals_written k
        l h g;
  }

  -- the same for a list of values
  pub list_scan : (l : List Val) → BytesAt s from e (joined val_bytes l) → T (shaped_vals (vals_of l)) → T (plains (vals_of l))
      → Scan k s from e (map_some (joined val_bytes) (all_some (conv_lits k) l))
  unfolding written
  list_scan l w g h = subst (Scan k s from e) (list_written k l)
      (vals_scan (vals_of l) (subst (BytesAt s from e) (sym (joined_vals l).0) w) g h)

  -- literals in a row: the components of a vector
  pub lits_scan : (j : Kind) (ps : List ℕ) → BytesAt s from e (joined (lit_bytes j) ps) → T (every (good_lit j) ps)
      → Scan k s from e (map_some (joined (lit_bytes k)) (all_some (conv k j) ps))
  unfolding written
  lits_scan j ps w g = record {
    items = map (Literal j) ps;
    stands = items_at (map (Literal j) ps) w (lits_bytes j ps) (lits_good j ps g);
    writes = lits_written k j ps;
  }

pub some_map : {A B : Type 0} (f : A → B) (x : Option A) → some? (map_some f x) ≡ some? x
unfolding map_some some?
some_map f none = refl
some_map f (some a) = refl

on_map : {A B : Type 0} (f : A → B) (x : Option A) {b : B} → map_some f x ≡ some b → (a : A) × (x ≡ some a) × (f a ≡ b)
unfolding map_some
on_map f none e = absurd (let z : ◌≡◌ {A = ℕ} 0 1 = cc in omega arith)
on_map f (some a) e = (a, refl, some_inj e)

module _ {k : Kind} {s : List ℕ} {from e : ℕ} {o : Option (List ℕ)} (x : Scan k s from e o) where
  pub scan_items : SomeItems s from e
  scan_items = record { items = x.items; stands = x.stands }

  module _ {c : ℕ} (n : c ≡ kind_no k) where
    pub scan_fits : {r : Bool} → Fits c s from e r → r ≡ some? o
    unfolding written
    scan_fits f = f k x.items n x.stands ∙ (sym (some_map (joined item_bytes) (conv_items k x.items)) ∙ ap some? x.writes)

    module _ {bs : List ℕ} (q : o ≡ some bs) where
      into : (m : List Item) × (conv_items k x.items ≡ some m) × (bytes_of m ≡ bs)
      unfolding written
      into = on_map (joined item_bytes) (conv_items k x.items) (x.writes ∙ q)

      pub scan_room : {out : List ℕ} {to : ℕ} → to + length bs ≤ length out → Convertible c s from e out to
      scan_room h = let y = into in record {
        kind = k;
        no = n;
        items = x.items;
        intos = y.0;
        stands = x.stands;
        goes = y.1;
        room = rw y.2 h;
      }

      pub scan_put : {out : List ℕ} {to r : ℕ} {out' : List ℕ} → Converts c s from e out to r out' → Put out to bs r out'
      scan_put f = let y = into in rw y.2 at (f k x.items y.0 n x.stands y.1)
