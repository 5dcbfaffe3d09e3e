-- The payloads of a matrix in columns: its columns are the vectors that they were, or the next r of its scalars.
use mathlib.Core.Path.{◌≡◌, refl, sym, ap, ap₂, ◌∙◌, subst}
use mathlib.Core.Option.{Option, none, some}
use mathlib.Core.List.{List, [], ◌∷◌, ◌++◌, map, map-append, append_assoc}
use Prim.Native.Nat.{ℕ, zero, suc, ◌+◌, ◌-◌, ◌*◌, ◌≤◌, ◌<◌}
use native.Mathlib.Omega.{arith}
use lib.Dec.{T}
use lib.ListN.{length, take, drop, length-append, length-map}
use lib.Seq.{take_at, drop_at}
use Rattle.meaning.specs.Kinds.{Kind, kind_no}
use Rattle.meaning.specs.Trees.{Ts, Tv, Val, Vs, Vv, Vm, Va, Vu, Vals, type_of, vals_of}
use Rattle.meaning.specs.Records.{‘V’, ‘v’, lit_bytes, vec_bytes, columns, joined, val_bytes, shaped_val, shaped_vals}
use Rattle.meaning.specs.Answers.{all_some, map_some}
use Rattle.meaning.specs.Convert.{conv_lits, conv_all}
use Rattle.meaning.specs.Build.{payloads_of, payloads_of_all}
use Rattle.laws.proofs.AgreeConv.{AllTy}
use Rattle.laws.proofs.BackVal.{drop_len, take_len}
use Rattle.laws.proofs.Same.{both}
use Rattle.laws.proofs.Sound.{on_some, some_inj}
use Rattle.ty.proofs.Lens.{times_more}
use Rattle.record.specs.Bytes.{Takes, Put}
use Rattle.conv.specs.Values.{plain, plains}
use Rattle.record.proofs.Puts.{put_put}
use Rattle.record.proofs.Left.{Left, one_less, left_room, left_on, left_end, left_same}
use Rattle.conv.proofs.Values.{Scan, list_scan}
use Rattle.conv.proofs.Slices.{part, scan_part}
use Rattle.laws.proofs.Each.{some_length}
use Rattle.args.specs.Row.{Row, SomeArg, NextIs, Skips}
use Rattle.args.proofs.ArgumentRows.{row_shaped}
use Rattle.columns.specs.Columns.{Skipped, SomeFront, SkipsTo, Column, ColumnRoom, ColumnPut}

-- ---- vectors are the columns

-- a value of a vector's type
record VectorOf (n : ℕ) (k : Kind) (w : Val) : Type 0 where
  pays : List ℕ
  is : w ≡ Vv k pays
  long : length pays ≡ n

vector_of_lem : (n : ℕ) (k : Kind) (w : Val) → type_of w ≡ Tv n k → VectorOf n k w
unfolding type_of
vector_of_lem n k (Vs j p) e = absurd (let z : ◌≡◌ {A = ℕ} 0 1 = cc in omega arith)
vector_of_lem n k (Vv j ps) e = record { pays = ps; is = (let q : j ≡ k = cc in rw q); long = cc }
vector_of_lem n k (Vm c r j ps) e = absurd (let z : ◌≡◌ {A = ℕ} 0 1 = cc in omega arith)
vector_of_lem n k (Va l) e = absurd (let z : ◌≡◌ {A = ℕ} 0 1 = cc in omega arith)
vector_of_lem n k (Vu i l) e = absurd (let z : ◌≡◌ {A = ℕ} 0 1 = cc in omega arith)

pub vectors_are : (r : ℕ) (k : Kind) (ws : List Val) → AllTy (Tv r k) (vals_of ws)
    → joined val_bytes ws ≡ joined (vec_bytes k) (columns (length ws) r (payloads_of_all ws))
unfolding joined columns payloads_of payloads_of_all vals_of val_bytes
vectors_are r k [] a = refl
vectors_are r k (w ∷ ws) a =
    let x = vector_of_lem r k w a.0 in
    rw (x.is, take_at x.pays (payloads_of_all ws) r x.long, drop_at x.pays (payloads_of_all ws) r x.long)
    (ap (λ (b : List ℕ). vec_bytes k x.pays ++ b) (vectors_are r k ws a.1))

-- ---- scalars are their payloads

scalar_of_lem : (k : Kind) (w : Val) → type_of w ≡ Ts k → w ∷ [] ≡ map (Vs k) (payloads_of w)
unfolding type_of payloads_of
scalar_of_lem k (Vs j p) e = let q : j ≡ k = cc in rw q
scalar_of_lem k (Vv j ps) e = absurd (let z : ◌≡◌ {A = ℕ} 0 1 = cc in omega arith)
scalar_of_lem k (Vm c r j ps) e = absurd (let z : ◌≡◌ {A = ℕ} 0 1 = cc in omega arith)
scalar_of_lem k (Va l) e = absurd (let z : ◌≡◌ {A = ℕ} 0 1 = cc in omega arith)
scalar_of_lem k (Vu i l) e = absurd (let z : ◌≡◌ {A = ℕ} 0 1 = cc in omega arith)

pub scalars_are : (k : Kind) (ws : List Val) → AllTy (Ts k) (vals_of ws) → ws ≡ map (Vs k) (payloads_of_all ws)
unfolding payloads_of_all vals_of
scalars_are k [] a = refl
scalars_are k (w ∷ ws) a = rw (map-append (Vs k) (payloads_of w) (payloads_of_all ws))
    (ap₂ ◌++◌ (scalar_of_lem k w a.0) (scalars_are k ws a.1))

pub literals_bytes : (k : Kind) (qs : List ℕ) → joined val_bytes (map (Vs k) qs) ≡ joined (lit_bytes k) qs
unfolding joined val_bytes
literals_bytes k [] = refl
literals_bytes k (q ∷ qs) = ap (λ (b : List ℕ). lit_bytes k q ++ b) (literals_bytes k qs)

-- only a literal becomes one
literal_from : (k : Kind) (v : Val) {q : ℕ} → conv_lits k v ≡ some (Vs k q) → T (plain v)
unfolding conv_lits plain map_some
literal_from k (Vs j p) e = tt
literal_from k (Vv j ps) e = tt
literal_from k (Vm c r j ps) e = tt
literal_from k (Va l) e = go (conv_all k l) e
  where
    go : (o : Option Vals) {q : ℕ} → map_some Va o ≡ some (Vs k q) → T (plains l)
    go none e = absurd (let z : ◌≡◌ {A = ℕ} 0 1 = cc in omega arith)
    go (some m) e = absurd (let z : ◌≡◌ {A = ℕ} 0 1 = cc in omega arith)
literal_from k (Vu i l) e = absurd (let z : ◌≡◌ {A = ℕ} 0 1 = cc in omega arith)

literals_plain : (k : Kind) (l : List Val) (qs : List ℕ) → all_some (conv_lits k) l ≡ some (map (Vs k) qs) → T (plains (vals_of l))
unfolding all_some vals_of plain
literals_plain k [] qs e = tt
literals_plain k (v ∷ l) [] e = absurd (omega (arith, some_length (conv_lits k) (v ∷ l) [] e))
literals_plain k (v ∷ l) (q ∷ qs) e =
    on_some (conv_lits k v) _ e λ w h e₁.
    on_some (all_some (conv_lits k) l) _ e₁ λ ws h₁ e₂.
    let z : w ∷ ws ≡ Vs k q ∷ map (Vs k) qs = some_inj e₂ in
    let y : w ≡ Vs k q = cc in
    let x : ws ≡ map (Vs k) qs = cc in
    both (plain v) (plains (vals_of l)) (literal_from k v (h ∙ ap some y)) (literals_plain k l qs (h₁ ∙ ap some x))

-- ---- the first of them, and the others

module _ {A B : Type 0} (g : A → Option B) where
  all_take : (n : ℕ) (l : List A) (m : List B) → all_some g l ≡ some m → all_some g (take n l) ≡ some (take n m)
  unfolding all_some
  all_take zero l m e = refl
  all_take (suc n) [] m e = let z : m ≡ [] = sym (some_inj e) in rw z
  all_take (suc n) (a ∷ l) m e =
      on_some (g a) _ e λ b h e₁.
      on_some (all_some g l) _ e₁ λ bs h₁ e₂.
      rw (sym (some_inj e₂), h, all_take n l bs h₁)

  all_drop : (n : ℕ) (l : List A) (m : List B) → all_some g l ≡ some m → all_some g (drop n l) ≡ some (drop n m)
  unfolding all_some
  all_drop zero l m e = e
  all_drop (suc n) [] m e = let z : m ≡ [] = sym (some_inj e) in rw z
  all_drop (suc n) (a ∷ l) m e =
      on_some (g a) _ e λ b h e₁.
      on_some (all_some g l) _ e₁ λ bs h₁ e₂.
      rw (sym (some_inj e₂)) (all_drop n l bs h₁)

map_take : (k : Kind) (n : ℕ) (qs : List ℕ) → take n (map (Vs k) qs) ≡ map (Vs k) (take n qs)
map_take k zero qs = refl
map_take k (suc n) [] = refl
map_take k (suc n) (q ∷ qs) = ap (λ (l : List Val). Vs k q ∷ l) (map_take k n qs)

map_drop : (k : Kind) (n : ℕ) (qs : List ℕ) → drop n (map (Vs k) qs) ≡ map (Vs k) (drop n qs)
map_drop k zero qs = refl
map_drop k (suc n) [] = refl
map_drop k (suc n) (q ∷ qs) = map_drop k n qs

-- ---- walking over arguments: where the first n of those that are left end, the first of all do

skip_none : {s : List ℕ} {i : ℕ} {l : List Val} → Row s i l → Skipped s i 0 l i
unfolding joined vals_of shaped_vals
skip_none x = record { front = record { here = refl; size = omega arith; within = x.within }; shaped = tt; rest = x }

skip_one : {s : List ℕ} {i n m e : ℕ} {v : Val} {l : List Val} → Row s i (v ∷ l) → NextIs s i v l m → Skipped s m n l e
    → Skipped s i (suc n) (v ∷ l) e
unfolding joined vals_of shaped_vals
skip_one {s} {i} {n} {m} {e} {v} {l} x y z =
    let b : List ℕ = joined val_bytes (take n l) in
    let a : drop i s ≡ val_bytes v ++ (b ++ drop e s) = x.here ∙ ap (λ (t : List ℕ). val_bytes v ++ t)
    (sym y.rest.here ∙ z.front.here) in
    record {
      front = record {
        here = a ∙ sym (append_assoc (val_bytes v) b (drop e s));
        size = omega
            (arith, y.end, z.front.size, length-append (val_bytes v) b);
        within = z.front.within;
      };
      shaped = both (shaped_val v) (shaped_vals (vals_of (take n l))) (row_shaped x) z.shaped;
      rest = z.rest;
    }

-- of n arguments, `done` are passed, and the next stands at e
pub record SkipLeft (s : List ℕ) (i n : ℕ) (l : List Val) (e done : ℕ) : Type 0 where
  pub values : List Val
  pub row : Row s e values
  pub enough : n - done ≤ length values
  pub whole : (x : ℕ) → Skipped s e (n - done) values x → Skipped s i n l x

-- the first of some arguments
record ArgIs (l : List Val) : Type 0 where
  first : Val
  others : List Val
  is : l ≡ first ∷ others

arg_is : (l : List Val) → 0 < length l → ArgIs l
arg_is [] h = absurd (omega arith)
arg_is (v ∷ l) h = record { first = v; others = l; is = refl }

module _ {s : List ℕ} {i n : ℕ} {l : List Val} {e done : ℕ} (g : SkipLeft s i n l e done) where
  module _ (h : done < n) where
    next : ArgIs g.values
    next = arg_is g.values (omega (arith, g.enough))

    row : Row s e (next.first ∷ next.others)
    row = subst (Row s e) next.is g.row

    pub skip_arg : SomeArg s e
    skip_arg = record { value = next.first; others = next.others; row = row }

    pub skip_on : {m : ℕ} → Skips s e m → SkipLeft s i n l m (done + 1)
    skip_on {m} f =
        let y = f next.first next.others row in
        let q : n - done ≡ suc (n - (done + 1)) = omega arith in
        record {
          values = next.others;
          row = y.rest;
          enough = omega (arith, g.enough, ap length next.is);
          whole = λ x z. g.whole x (subst (λ (t : List Val). Skipped s e (n - done) t x) (sym next.is)
              (subst (λ (k : ℕ). Skipped s e k (next.first ∷ next.others) x) (sym q) (skip_one row y z)));
        }

  pub skip_end : done ≡ n → Skipped s i n l e
  skip_end h = let z : n - done ≡ 0 = omega arith in g.whole e (subst (λ (k : ℕ). Skipped s e k g.values e) (sym z) (skip_none g.row))

-- ---- one column

module _ {k r : ℕ} {s : List ℕ} {i e : ℕ} {j : Kind} {qs : List ℕ} (x : Column k r s i e j qs) where
  -- what is scanned for it
  pub column_scan : Scan j (part s i e) 0 (length (part s i e)) (some (joined (lit_bytes j) qs))
  unfolding map_some
  column_scan =
      scan_part (subst (Scan j s i e) (ap (map_some (joined val_bytes)) x.goes ∙ ap some (literals_bytes j qs))
      (list_scan j x.values x.bytes x.shaped (literals_plain j x.values qs x.goes)))

  pub column_long : length (vec_bytes j qs) ≡ 3 + length (joined (lit_bytes j) qs)
  unfolding vec_bytes
  column_long = omega arith

  pub column_put : {out mid out' : List ℕ} {to p y : ℕ} → Put out to (‘V’ ∷ ‘v’ ∷ r ∷ []) p mid → Put mid p (joined (lit_bytes j) qs) y out'
      → Put out to (vec_bytes j qs) y out'
  unfolding vec_bytes
  column_put p q = rw x.rows (put_put p q)

columns_step : (c r : ℕ) (ps : List ℕ) → 0 < c → columns c r ps ≡ take r ps ∷ columns (c - 1) r (drop r ps)
unfolding columns
columns_step zero r ps h = absurd (omega arith)
columns_step (suc c) r ps h = let e : suc c - 1 ≡ c = omega arith in rw e

-- ---- the loop over columns: of c, `done` are written; what writes the rest makes the whole

pub record ColumnsLeft (j : Kind) (s : List ℕ) (c r : ℕ) (out₀ : List ℕ) (to : ℕ) (qs : List ℕ) (i p done : ℕ) (out : List ℕ) : Type 0 where
  pub values : List Val
  pub pays : List ℕ
  pub row : Row s i values
  pub goes : all_some (conv_lits j) values ≡ some (map (Vs j) pays)
  pub count : length pays ≡ (c - done) * r
  pub rest : Left out₀ to (joined (vec_bytes j) (columns c r qs)) out p (joined (vec_bytes j) (columns (c - done) r pays))

module _ {j : Kind} {s : List ℕ} {c r : ℕ} {out₀ : List ℕ} {to : ℕ} {qs : List ℕ} {i p done : ℕ} {out : List ℕ}
    (g : ColumnsLeft j s c r out₀ to qs i p done out) where
  module _ (h : done < c) where
    more : 0 < c - done
    more = omega arith

    before : length g.pays ≡ suc (c - done - 1) * r
    before = let n : c - done ≡ suc (c - done - 1) = omega arith in g.count ∙ ap (λ (x : ℕ). x * r) n

    many : length g.values ≡ length g.pays
    many = sym (some_length (conv_lits j) g.values (map (Vs j) g.pays) g.goes) ∙ length-map g.pays (Vs j)

    enough : r ≤ length g.values
    enough = omega (arith, many, g.count, times_more (c - done) r more)

    pub columns_front : SomeFront s i r
    columns_front = record { values = g.values; row = g.row; enough = enough }

    module _ {e : ℕ} (f : SkipsTo s i r e) where
      skipped : Skipped s i r g.values e
      skipped = f g.values g.row enough

      pub left_column : {k : ℕ} → k ≡ kind_no j → Column k r s i e j (take r g.pays)
      left_column n =
          record {
            no = n;
            values = take r g.values;
            bytes = skipped.front;
            shaped = skipped.shaped;
            goes = all_take (conv_lits j) r g.values (map (Vs j) g.pays) g.goes ∙ ap some (map_take j r g.pays);
            rows = take_len (c - done - 1) r g.pays before;
          }

      bytes : joined (vec_bytes j) (columns (c - done) r g.pays) ≡ vec_bytes j (take r g.pays) ++ joined (vec_bytes j)
          (columns (c - done - 1) r (drop r g.pays))
      unfolding joined
      bytes = ap (joined (vec_bytes j)) (columns_step (c - done) r g.pays more)

      pub columns_room : {k : ℕ} → k ≡ kind_no j → Takes out₀ to (joined (vec_bytes j) (columns c r qs)) → ColumnRoom k r s i e out p
      columns_room n l =
          record {
            kind = j;
            pays = take r g.pays;
            column = left_column n;
            room = left_room g.rest (vec_bytes j (take r g.pays)) (joined (vec_bytes j) (columns (c - done - 1) r (drop r g.pays)))
                bytes (omega (arith, l, left_same g.rest));
          }

      pub columns_on : {k q : ℕ} {out' : List ℕ} → k ≡ kind_no j → ColumnPut k r s i e out p q out'
          → ColumnsLeft j s c r out₀ to qs e q (done + 1) out'
      columns_on n z =
          record {
            values = drop r g.values;
            pays = drop r g.pays;
            row = skipped.rest;
            goes = all_drop (conv_lits j) r g.values (map (Vs j) g.pays) g.goes ∙ ap some (map_drop j r g.pays);
            count = rw (← one_less c done) (drop_len (c - done - 1) r g.pays before);
            rest = rw (← one_less c done) (left_on g.rest (vec_bytes j (take r g.pays)) (joined (vec_bytes j) (columns (c - done - 1) r (drop r g.pays))) bytes
                (z j (take r g.pays) (left_column n)));
          }

  pub columns_end : done ≡ c → Put out₀ to (joined (vec_bytes j) (columns c r qs)) p out
  unfolding joined columns
  columns_end h = let z : c - done ≡ 0 = omega arith in left_end g.rest (rw z)
