-- What the loops over the arguments have left.
use mathlib.Core.Path.{◌≡◌, refl, sym, ap, ◌∙◌}
use mathlib.Core.Option.{Option, none, some}
use mathlib.Core.List.{List, ◌∷◌, ◌++◌}
use mathlib.Core.Bool.{Bool, true, false, ◌&&◌}
use Prim.Native.Nat.{ℕ, ◌+◌, ◌≤◌, ◌<◌}
use native.Mathlib.Omega.{arith}
use lib.Dec.{T}
use lib.ListN.{length, length-append}
use Rattle.meaning.specs.Kinds.{Kind, kind_no}
use Rattle.meaning.specs.Trees.{Val}
use Rattle.meaning.specs.Records.{lit_bytes, joined, every}
use Rattle.meaning.specs.Answers.{all_some, map_some}
use Rattle.meaning.specs.Build.{parts, flattened}
use Rattle.laws.proofs.Back.{and_l, and_r}
use Rattle.laws.proofs.Left.{Left as Rest}
use Rattle.laws.proofs.Sound.{some_inj}
use Rattle.record.specs.Bytes.{Takes, Put}
use Rattle.conv.specs.Items.{Convertible, Converts}
use Rattle.record.proofs.Left.{Left, left_room, left_on, left_end}
use Rattle.conv.proofs.Values.{Scan, joined_append, scan_room, scan_put}
use Rattle.conv.proofs.Slices.{part, scan_part}
use Rattle.laws.proofs.Each.{join_some, some_append, written}
use Rattle.args.specs.Row.{Row, Skips}
use Rattle.args.proofs.ArgumentRows.{args_first, args_on, args_end}
use Rattle.vector.specs.VectorParts.{flat, pay_to}
use Rattle.vector.specs.VectorRules.{PartCount, IsFlat, FirstLit}
use Rattle.vector.proofs.Args.{arg_parts, parts_before}
use Rattle.vector.proofs.Lits.{arg_scan}

-- ---- the count: m parts stand before i

pub record Sums (m n : ℕ) (l : List Val) : Type 0 where
  pub sums : m + length (flattened l) ≡ n

abbrev pub CountLeft : List ℕ → ℕ → ℕ → ℕ → Type 0
CountLeft s n i m = Rest (Row s) i (Sums m n)

module _ {s : List ℕ} {n i m : ℕ} (g : CountLeft s n i m) where
  module _ (h : i < length s) {r : ℕ} (p : PartCount s i r) where
    pub count_on : {e : ℕ} → Skips s i e → CountLeft s n e (m + r)
    unfolding flattened
    count_on z = args_on g h z λ v l x q. record { sums = omega (arith, p v l x, length-append (parts v) (flattened l)) }

    pub count_small : {e : ℕ} → m ≤ i → Skips s i e → m + r ≤ e
    count_small k z = args_first g h λ v l x q. omega (arith, p v l x, parts_before x m _ k (z v l x).end)

    pub count_fits : m ≤ i → m + r ≤ length s
    count_fits k = args_first g h λ v l x q. omega (arith, p v l x, arg_parts x)

  pub count_end : length s ≤ i → m ≡ n
  unfolding flattened
  count_end h = omega (arith, (args_end g h).sums)

-- ---- the kinds of value: what is left decides

abbrev pub FlatLeft : List ℕ → Bool → ℕ → Type 0
FlatLeft s b i = Rest (Row s) i λ (l : List Val). every flat l ≡ b

module _ {s : List ℕ} {b : Bool} {i : ℕ} (g : FlatLeft s b i) where
  module _ (h : i < length s) {r : Bool} (p : IsFlat s i r) where
    pub flat_no : r ≡ false → false ≡ b
    unfolding every
    flat_no e = args_first g h λ v l x q. rw (sym (p v l x) ∙ e) at q

    pub flat_on : {e : ℕ} → r ≡ true → Skips s i e → FlatLeft s b e
    unfolding every
    flat_on e z = args_on g h z λ v l x q. rw (sym (p v l x) ∙ e) at q

  pub flat_end : length s ≤ i → true ≡ b
  unfolding every
  flat_end h = args_end g h

-- ---- the literals: what writes the rest makes the whole

-- the components of the values l are left to write, as literals of the kind j
pub record ToPut (j : Kind) (out₀ : List ℕ) (to : ℕ) (ps : List ℕ) (p : ℕ) (out : List ℕ) (l : List Val) : Type 0 where
  pub pays : List ℕ
  pub flats : T (every flat l)
  pub goes : all_some (pay_to j) (flattened l) ≡ some pays
  pub rest : Left out₀ to (joined (lit_bytes j) ps) out p (joined (lit_bytes j) pays)

abbrev pub PutLeft : Kind → List ℕ → List ℕ → ℕ → List ℕ → ℕ → ℕ → List ℕ → Type 0
PutLeft j s out₀ to ps i p out = Rest (Row s) i (ToPut j out₀ to ps p out)

-- the payloads of the first argument, and of the others
record Split (j : Kind) (v : Val) (l : List Val) (ps : List ℕ) : Type 0 where
  first : List ℕ
  others : List ℕ
  is : joined (lit_bytes j) ps ≡ joined (lit_bytes j) first ++ joined (lit_bytes j) others
  head : written (pay_to j) (lit_bytes j) (parts v) ≡ some (joined (lit_bytes j) first)
  tail : all_some (pay_to j) (flattened l) ≡ some others

split_of_lem : (j : Kind) (v : Val) (l : List Val) {ps : List ℕ} → all_some (pay_to j) (flattened (v ∷ l)) ≡ some ps → Split j v l ps
unfolding flattened join_some map_some written
split_of_lem j v l {ps} e = go (all_some (pay_to j) (parts v)) refl (all_some (pay_to j) (flattened l)) refl
    (sym (some_append (pay_to j) (parts v) (flattened l)) ∙ e)
  where
    go : (x : Option (List ℕ)) → all_some (pay_to j) (parts v) ≡ x → (y : Option (List ℕ)) → all_some (pay_to j) (flattened l) ≡ y
        → join_some x y ≡ some ps → Split j v l ps
    go none f y g h = absurd (let z : ◌≡◌ {A = ℕ} 0 1 = cc in omega arith)
    go (some a) f none g h = absurd (let z : ◌≡◌ {A = ℕ} 0 1 = cc in omega arith)
    go (some a) f (some b) g h =
        record {
          first = a;
          others = b;
          is = ap (joined (lit_bytes j)) (sym (some_inj h))
              ∙ joined_append (lit_bytes j) a b;
          head = ap (map_some (joined (lit_bytes j))) f;
          tail = g;
        }

module _ {j : Kind} {s out₀ : List ℕ} {to : ℕ} {ps : List ℕ} {i p : ℕ} {out : List ℕ} (g : PutLeft j s out₀ to ps i p out) where
  module _ (h : i < length s) {from e : ℕ} (f : FirstLit s i from) (z : Skips s i e) where
    scan : {v : Val} {l : List Val} → Row s i (v ∷ l) → T (flat v && every flat l)
        → Scan j s from e (written (pay_to j) (lit_bytes j) (parts v))
    scan {v} {l} x y = rw (f v l x, (z v l x).end) (arg_scan j x (and_l (flat v) (every flat l) y))

    -- its literals are a slice
    pub put_start : from ≤ e
    unfolding every
    put_start = args_first g h λ v l x q. omega (arith, (scan x q.flats).stands.size)

    pub put_within : e ≤ length s
    unfolding every
    put_within = args_first g h λ v l x q. (scan x q.flats).stands.within

    module _ {k : ℕ} (n : k ≡ kind_no j) where
      pub put_room : Takes out₀ to (joined (lit_bytes j) ps) → Convertible k (part s from e) 0 (length (part s from e)) out p
      unfolding every
      put_room a = args_first g h λ v l x q.
          let y = split_of_lem j v l q.goes in
          scan_room (scan_part (scan x q.flats)) n y.head (left_room q.rest (joined (lit_bytes j) y.first) (joined (lit_bytes j) y.others)
          y.is a)

      pub put_on : {q : ℕ} {out' : List ℕ} → Converts k (part s from e) 0 (length (part s from e)) out p q out' → PutLeft j s out₀ to ps e q out'
      unfolding every
      put_on c = args_on g h z λ v l x q.
          let y = split_of_lem j v l q.goes in
          record {
            pays = y.others;
            flats = and_r (flat v) (every flat l) q.flats;
            goes = y.tail;
            rest = left_on q.rest (joined (lit_bytes j) y.first) (joined (lit_bytes j) y.others) y.is
                (scan_put (scan_part (scan x q.flats)) n y.head c);
          }

  pub put_end : length s ≤ i → Put out₀ to (joined (lit_bytes j) ps) p out
  unfolding joined all_some flattened
  put_end h = let q = args_end g h in left_end q.rest (ap (joined (lit_bytes j)) (sym (some_inj q.goes)))
