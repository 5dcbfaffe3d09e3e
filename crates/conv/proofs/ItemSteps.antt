-- One item where it stands.
use mathlib.Core.Path.{◌≡◌, refl, sym, ap, ap₂, ◌∙◌, subst}
use mathlib.Core.Option.{Option as Maybe, none, some}
use mathlib.Core.List.{List, [], ◌∷◌, ◌++◌}
use mathlib.Core.Bool.{Bool, true}
use Prim.Native.Nat.{ℕ, ◌+◌, ◌-◌, ◌≤◌}
use native.Mathlib.Omega.{arith}
use lib.Dec.{T}
use lib.ListN.{length, get_or, take, drop, length-append, length-drop}
use lib.Seq.{take_at}
use Rattle.meaning.specs.Kinds.{Kind, kind_no, pay_width}
use Rattle.meaning.specs.Scalars.{conv, some?}
use Rattle.meaning.specs.Trees.{lit_len}
use Rattle.meaning.specs.Records.{‘s’, ‘v’, ‘m’, ‘a’, le, lit_bytes}
use Rattle.meaning.specs.Answers.{map_some}
use Rattle.laws.proofs.AgreeLit.{kind_back}
use Rattle.laws.proofs.BackVal.{lit_fits_lem}
use Rattle.laws.proofs.Length.{le_len, lit_len_lem}
use Rattle.laws.proofs.Sound.{some_inj, no_some}
use Rattle.kind.specs.Ends.{of_kind}
use Rattle.literal.specs.LiteralAnswers.{converted_of, conv_between}
use Rattle.record.specs.Literals.{Sized, most_lit, width_of, literal_of}
use Rattle.record.proofs.Places.{at_of, past}
use Rattle.record.specs.Bytes.{Put, number_at}
use Rattle.record.proofs.Numbers.{number_of}
use Rattle.conv.specs.Items.{Item, Literal, Vector, Matrix, Array, item_bytes, good_item, conv_item, ItemAt, literal_as, literal_to}
use Rattle.record.proofs.Literals.{width_of_lem, literal_bytes}
use Rattle.std.specs.declared.option.Option.{Option}
use Rattle.std.specs.declared.option.Option.TheVariants.{None, Some}

-- ---- one item

mark_of_lem : Item → ℕ
mark_of_lem (Literal k p) = ‘s’
mark_of_lem (Vector n) = ‘v’
mark_of_lem (Matrix c r) = ‘m’
mark_of_lem (Array n) = ‘a’

mark_of : (s rest : List ℕ) (i : ℕ) (a : Item) → drop i s ≡ item_bytes a ++ rest → get_or s (i + 1) 0 ≡ mark_of_lem a
unfolding item_bytes lit_bytes mark_of_lem
mark_of s rest i (Literal k p) h = at_of s _ i h 1
mark_of s rest i (Vector n) h = at_of s _ i h 1
mark_of s rest i (Matrix c r) h = at_of s _ i h 1
mark_of s rest i (Array n) h = at_of s _ i h 1

pub item_some : (a : Item) → 3 ≤ length (item_bytes a)
unfolding item_bytes lit_bytes le
item_some (Literal k p) = omega arith
item_some (Vector n) = omega arith
item_some (Matrix c r) = omega arith
item_some (Array n) = omega arith

-- a literal by the numbers in its record
pub record LiteralIs (s : List ℕ) (i : ℕ) (a : Item) : Type 0 where
  pub kind : Kind
  pub pay : ℕ
  pub is : a ≡ Literal kind pay
  pub no : get_or s (i + 2) 0 ≡ kind_no kind
  pub num : number_at s (i + 3) (pay_width kind) ≡ pay
  pub size : length (item_bytes a) ≡ 3 + pay_width kind

literal_is : (s rest : List ℕ) (i : ℕ) (a : Item) → drop i s ≡ item_bytes a ++ rest → T (good_item a) → get_or s (i + 1) 0 ≡ ‘s’
    → LiteralIs s i a
unfolding item_bytes lit_bytes mark_of_lem good_item
literal_is s rest i (Literal k p) h g m =
    record {
      kind = k;
      pay = p;
      is = refl;
      no = at_of s _ i h 2;
      num = number_of s rest (i + 3) (pay_width k) p (past s (86 ∷ 115 ∷ kind_no k ∷ []) (le (pay_width k) p ++ rest) i h) (lit_fits_lem k p g);
      size = omega (arith, le_len (pay_width k) p);
    }
literal_is s rest i (Vector n) h g m = absurd (omega (arith, mark_of s rest i (Vector n) h))
literal_is s rest i (Matrix c r) h g m = absurd (omega (arith, mark_of s rest i (Matrix c r) h))
literal_is s rest i (Array n) h g m = absurd (omega (arith, mark_of s rest i (Array n) h))

-- converted by those numbers
literal_as_lem : {s : List ℕ} {i : ℕ} {a : Item} (x : LiteralIs s i a) {k : ℕ} (j : Kind) → k ≡ kind_no j
    → literal_as k s i ≡ conv j x.kind x.pay
unfolding conv_between of_kind
literal_as_lem x j n = rw (x.no, width_of_lem x.kind, x.num, n, kind_back x.kind, kind_back j)

vector_size : (a : Item) → mark_of_lem a ≡ ‘v’ → length (item_bytes a) ≡ 3
unfolding item_bytes mark_of_lem
vector_size (Literal k p) m = absurd (omega arith)
vector_size (Vector n) m = refl
vector_size (Matrix c r) m = absurd (omega arith)
vector_size (Array n) m = absurd (omega arith)

other_size : (a : Item) → (mark_of_lem a ≡ ‘s’ → ⊥) → (mark_of_lem a ≡ ‘v’ → ⊥) → length (item_bytes a) ≡ 4
unfolding item_bytes mark_of_lem le
other_size (Literal k p) m n = absurd (m refl)
other_size (Vector n) m n' = absurd (n' refl)
other_size (Matrix c r) m n = refl
other_size (Array n) m n' = refl

stays : (a : Item) (k : Kind) → (mark_of_lem a ≡ ‘s’ → ⊥) → conv_item k a ≡ some a
unfolding mark_of_lem conv_item
stays (Literal j p) k m = absurd (m refl)
stays (Vector n) k m = refl
stays (Matrix c r) k m = refl
stays (Array n) k m = refl

module _ {s : List ℕ} {i : ℕ} {a : Item} (w : ItemAt s i a) where
  mark_is : get_or s (i + 1) 0 ≡ mark_of_lem a
  mark_is = mark_of s w.rest i a w.here

  pub item_within : i + length (item_bytes a) ≤ length s
  item_within = omega (arith, length-drop i s, ap length w.here, length-append (item_bytes a) w.rest, item_some a)

  pub item_front : i + 3 ≤ length s
  item_front = omega (arith, item_within, item_some a)

  pub literal_here : get_or s (i + 1) 0 ≡ ‘s’ → LiteralIs s i a
  literal_here m = literal_is s w.rest i a w.here w.good m

  -- ---- where it ends

  pub literal_end : get_or s (i + 1) 0 ≡ ‘s’ → {r : ℕ} → Sized (get_or s (i + 2) 0) lit_len most_lit r → i + r ≡ i + length (item_bytes a)
  unfolding lit_len
  literal_end m z = let x = literal_here m in omega (arith, z.is x.kind x.no, x.size)

  pub vector_end : get_or s (i + 1) 0 ≡ ‘v’ → i + 3 ≡ i + length (item_bytes a)
  vector_end m = omega (arith, vector_size a (sym mark_is ∙ m))

  pub other_end : (get_or s (i + 1) 0 ≡ ‘s’ → ⊥) → (get_or s (i + 1) 0 ≡ ‘v’ → ⊥) → i + 4 ≡ i + length (item_bytes a)
  other_end m n = omega (arith, other_size a (λ e. m (mark_is ∙ e)) (λ e. n (mark_is ∙ e)))

  -- ---- a mark stays as it is

  module _ (m : get_or s (i + 1) 0 ≡ ‘s’ → ⊥) where
    pub mark_stays : (k : Kind) → conv_item k a ≡ some a
    mark_stays k = stays a k (λ e. m (mark_is ∙ e))

    pub mark_fits : (k : Kind) → true ≡ some? (conv_item k a)
    unfolding some?
    mark_fits k = rw (mark_stays k)

    pub mark_room : (k : Kind) {b : Item} {n : ℕ} → conv_item k a ≡ some b → n ≡ i + length (item_bytes a) → n - i ≡ length (item_bytes b)
    mark_room k {b} g e = let q : b ≡ a = some_inj (sym g ∙ mark_stays k) in rw q (omega arith)

    pub mark_put : {out out' : List ℕ} {to r n : ℕ} (k : Kind) {b : Item} → conv_item k a ≡ some b → n ≡ i + length (item_bytes a)
        → Put out to (take (n - i) (drop i s)) r out' → Put out to (item_bytes b) r out'
    mark_put {out} {out'} {to} {r} {n} k {b} g e y =
        let q : b ≡ a = some_inj (sym g ∙ mark_stays k) in
        let z : n - i ≡ length (item_bytes a) = omega arith in
        let t : take (n - i) (drop i s) ≡ item_bytes b = (rw (z, w.here) (take_at (item_bytes a) w.rest (length (item_bytes a)) refl))
        ∙ sym (ap item_bytes q) in
        subst (λ (l : List ℕ). Put out to l r out') t y

  -- ---- a literal is converted

  module _ (m : get_or s (i + 1) 0 ≡ ‘s’) where
    pub literal_within : i + (3 + width_of (get_or s (i + 2) 0)) ≤ length s
    literal_within = let x = literal_here m in rw (x.no, width_of_lem x.kind) (omega (arith, item_within, x.size))

    module _ {k : ℕ} (j : Kind) (n : k ≡ kind_no j) where
      literal_goes : conv_item j a ≡ map_some (Literal j) (literal_as k s i)
      unfolding conv_item
      literal_goes = let x = literal_here m in ap (conv_item j) x.is ∙ ap (map_some (Literal j)) (sym (literal_as_lem x j n))

      pub literal_fits : {r : Bool} → r ≡ some? (literal_as k s i) → r ≡ some? (conv_item j a)
      unfolding map_some some?
      literal_fits e = e ∙ (go (literal_as k s i) ∙ ap some? (sym literal_goes))
        where
          go : (o : Maybe ℕ) → some? o ≡ some? (map_some (Literal j) o)
          go none = refl
          go (some q) = refl

      module _ {r : Option ℕ} (c : r ≡ literal_to k s i) {b : Item} (g : conv_item j a ≡ some b) where
        pub literal_into : {p : ℕ} → r ≡ Some p → b ≡ Literal j p
        unfolding converted_of map_some
        literal_into {p} e = go (literal_as k s i) (sym e ∙ c) (sym literal_goes ∙ g)
          where
            go : (o : Maybe ℕ) → Some p ≡ converted_of o → map_some (Literal j) o ≡ some b → b ≡ Literal j p
            go none h u = absurd (let z : ◌≡◌ {A = ℕ} 0 1 = cc in omega arith)
            go (some q) h u = cc

        pub literal_never : r ≡ None → ⊥
        unfolding converted_of map_some
        literal_never e = go (literal_as k s i) (sym e ∙ c) (sym literal_goes ∙ g)
          where
            go : (o : Maybe ℕ) → None ≡ converted_of o → map_some (Literal j) o ≡ some b → ⊥
            go none h u = no_some u
            go (some q) h u = absurd (let z : ◌≡◌ {A = ℕ} 0 1 = cc in omega arith)

        pub literal_room : {p : ℕ} (to : ℕ) {most : ℕ} → r ≡ Some p → to + length (item_bytes b) ≤ most → to + (3 + width_of k) ≤ most
        unfolding item_bytes lit_len
        literal_room {p} to e h = rw (n, width_of_lem j) (omega (arith, lit_len_lem j p, ap (λ (x : Item). length (item_bytes x)) (literal_into e)))

        pub literal_put : {out out' : List ℕ} {to t p : ℕ} → r ≡ Some p → Put out to (literal_of k p) t out' → Put out to (item_bytes b) t out'
        unfolding item_bytes
        literal_put {out} {out'} {to} {t} {p} e y =
            subst (λ (l : List ℕ). Put out to l t out') (ap (λ (z : ℕ). literal_of z p) n
            ∙ (literal_bytes j p ∙ ap item_bytes (sym (literal_into e)))) y

-- a literal that is known, converted by the numbers in its record
pub literal_of_lem : {s : List ℕ} {i : ℕ} {h : Kind} {p : ℕ} → ItemAt s i (Literal h p) → {k : ℕ} (j : Kind) → k ≡ kind_no j
    → literal_as k s i ≡ conv j h p
unfolding mark_of_lem
literal_of_lem w j n =
    let x = literal_here w (mark_is w) in
    literal_as_lem x j n ∙ ap₂ (conv j) (cc x.is) (cc x.is)
