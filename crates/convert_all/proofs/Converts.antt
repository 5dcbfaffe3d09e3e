-- All arguments to one type: they are scanned where the type has a kind at the bottom, and stay as they are where a struct is in the way.
use mathlib.Core.Path.{◌≡◌, refl, sym, ap, ap₂, ◌∙◌, subst}
use mathlib.Core.Option.{Option as Maybe, none, some}
use mathlib.Core.List.{List, [], ◌∷◌, ◌++◌, map}
use mathlib.Core.Bool.{Bool, true, false, ◌&&◌}
use Prim.Native.Nat.{ℕ}
use native.Mathlib.Omega.{arith}
use lib.Dec.{T}
use lib.ListN.{length, drop, length-append}
use lib.Seq.{drop-append_seam}
use Rattle.meaning.specs.Kinds.{Kind, kind_no}
use Rattle.meaning.specs.Scalars.{some?}
use Rattle.meaning.specs.Trees.{Ty, Val, type_of, leaf, vals_of}
use Rattle.meaning.specs.Records.{val_bytes, joined, every, shaped_val, shaped_vals}
use Rattle.meaning.specs.Answers.{all_some, map_some}
use Rattle.meaning.specs.Convert.{converts, conv_lits, conv_leaf, conv_val}
use Rattle.laws.proofs.AgreeBuild.{conv_list_not}
use Rattle.laws.proofs.AgreeConv.{how, true_of}
use Rattle.laws.proofs.Back.{and_l, and_r}
use Rattle.laws.proofs.Same.{both}
use Rattle.laws.proofs.Sound.{All, some_inj, no_some}
use Rattle.ty.specs.Stands.{Stands}
use Rattle.ty.specs.Heads.{LeafAt}
use Rattle.ty.proofs.Places.{same_type}
use Rattle.args.specs.Counts.{ValueArg}
use Rattle.args.proofs.Rest.{value_tells}
use Rattle.conv.specs.Values.{plain, plains}
use Rattle.record.specs.Bytes.{Put}
use Rattle.ty.proofs.Bottom.{KindIs, kind_is, struct_is}
use Rattle.conv.proofs.ValueByType.{leaf_plain, leaf_from}
use Rattle.laws.proofs.Each.{push, some_cons}
use Rattle.conv.proofs.Values.{Scan, list_scan}
use Rattle.conv.proofs.Slices.{part, part_is, scan_part}
use Rattle.args.specs.Row.{Row}
use Rattle.args.proofs.ArgumentRows.{some_val, row_bytes, each_shaped}
use Rattle.convert_all.specs.Lists.{all_to, AskedFit}
use Rattle.std.specs.declared.option.Option.{Option}
use Rattle.std.specs.declared.option.Option.TheVariants.{None, Some}

-- ---- what stands in a row is one list

same_list : (l m : List Val) → joined val_bytes l ≡ joined val_bytes m → All (ValueArg 15 4096) l → All (ValueArg 15 4096) m → l ≡ m
unfolding joined
same_list [] [] e a b = refl
same_list [] (w ∷ m) e a b = absurd (omega (arith, ap length e, length-append (val_bytes w) (joined val_bytes m), some_val w))
same_list (v ∷ l) [] e a b = absurd (omega (arith, ap length e, length-append (val_bytes v) (joined val_bytes l), some_val v))
same_list (v ∷ l) (w ∷ m) e a b =
    let i : v ≡ w = value_tells 15 4096 v w (joined val_bytes l) (joined val_bytes m) a.0 b.0 e in
    let j : joined val_bytes l ≡ joined val_bytes m =
    sym (drop-append_seam (val_bytes v) (joined val_bytes l)) ∙
    (ap (drop (length (val_bytes v))) (e ∙ ap (λ (x : Val). val_bytes x ++ joined val_bytes m) (sym i))
    ∙ drop-append_seam (val_bytes v) (joined val_bytes m)) in
    ap (λ (x : Val). x ∷ l) i ∙ ap (λ (x : List Val). w ∷ x) (same_list l m j a.1 b.1)

pub same_row : {s : List ℕ} {i : ℕ} {l m : List Val} → Row s i l → Row s i m → l ≡ m
same_row {l = l} {m} x y = same_list l m (sym x.here ∙ y.here) x.each y.each

-- ---- by the types

-- the same by the list of the types
pub to_types : (t : Ty) (l : List Val) → every (λ a. converts a t) (map type_of l) ≡ all_to t l
unfolding every
to_types t [] = refl
to_types t (v ∷ l) = ap (λ (b : Bool). converts (type_of v) t && b) (to_types t l)

pub none_to : (t : Ty) (l : List Val) → all_to t l ≡ false → all_some (conv_val t) l ≡ none
none_to t l h = conv_list_not t l (to_types t l ∙ h)

-- where all convert, all types do
pub some_to : (t : Ty) (l : List Val) {ws : List Val} → all_some (conv_val t) l ≡ some ws → T (all_to t l)
some_to t l {ws} e = go (all_to t l) refl
  where
    go : (b : Bool) → all_to t l ≡ b → T b
    go true h = tt
    go false h = no_some (sym (none_to t l h) ∙ e)

by_leaf : (t : Ty) (v : Val) → T (converts (type_of v) t) → conv_val t v ≡ conv_leaf (leaf t) v
unfolding conv_val
by_leaf t v c = rw (true_of (converts (type_of v) t) c)

module _ (t : Ty) where
  -- the first, and the others
  first_to : (v : Val) (l : List Val) → T (all_to t (v ∷ l)) → T (converts (type_of v) t) × T (all_to t l)
  unfolding every
  first_to v l c = (and_l (converts (type_of v) t) (all_to t l) c, and_r (converts (type_of v) t) (all_to t l) c)

  -- a kind at the bottom: each literal becomes that kind
  pub all_lits : {k : Kind} → leaf t ≡ some k → (l : List Val) → T (all_to t l) → all_some (conv_val t) l ≡ all_some (conv_lits k) l
  unfolding all_some conv_leaf
  all_lits {k} e [] c = refl
  all_lits {k} e (v ∷ l) c =
      let h = first_to v l c in
      let i : conv_val t v ≡ conv_lits k v = by_leaf t v h.0 ∙ ap (λ (o : Maybe Kind). conv_leaf o v) e in
      ap₂ push i (all_lits e l h.1)

  -- a struct in the way: nothing changes
  pub all_kept : leaf t ≡ none → (l : List Val) → T (all_to t l) → all_some (conv_val t) l ≡ some l
  unfolding all_some conv_leaf
  all_kept e [] c = refl
  all_kept e (v ∷ l) c =
      let h = first_to v l c in
      let i : conv_val t v ≡ some v = by_leaf t v h.0 ∙ ap (λ (o : Maybe Kind). conv_leaf o v) e in
      ap₂ push i (all_kept e l h.1)

  -- and there is no struct where there is a kind at the bottom
  pub all_plain : {k : Kind} → leaf t ≡ some k → (l : List Val) → T (shaped_vals (vals_of l)) → T (all_to t l) → T (plains (vals_of l))
  unfolding shaped_vals vals_of plains
  all_plain e [] g c = tt
  all_plain e (v ∷ l) g c =
      let h = first_to v l c in
      both (plain v) (plains (vals_of l)) (leaf_plain v (and_l (shaped_val v) (shaped_vals (vals_of l)) g)
      (leaf_from (how (type_of v) t h.0) e).1) (all_plain e l (and_r (shaped_val v) (shaped_vals (vals_of l)) g) h.1)

-- ---- the scan

module _ {d : ℕ} {ty : List ℕ} {at : ℕ} {s : List ℕ} {from : ℕ} {t : Ty} {e : ℕ} {l : List Val} (x : Row s from l) (w : Stands d ty at t e)
    (c : T (all_to t l)) where
  -- a kind at the bottom
  pub record RowScan (k : ℕ) : Type 0 where
    pub kind : Kind
    pub no : k ≡ kind_no kind
    pub scan : Scan kind (part s from (length s)) 0 (length (part s from (length s))) (map_some (joined val_bytes) (all_some (conv_val t) l))

  pub row_scan : {k : ℕ} {r : Option ℕ} → LeafAt d ty at r → r ≡ Some k → RowScan k
  row_scan {k} f q =
      let y : KindIs k (leaf t) = kind_is k (leaf t) (sym q ∙ f t e w) in
      let g : T (shaped_vals (vals_of l)) = each_shaped l x.each in
      record {
        kind = y.kind;
        no = y.no;
        scan = scan_part (subst (λ (o : Maybe (List Val)). Scan y.kind s from (length s) (map_some (joined val_bytes) o))
            (sym (all_lits t y.is l c)) (list_scan y.kind l (row_bytes x) g (all_plain t y.is l g c)));
      }

  -- a struct in the way
  module _ {r : Option ℕ} (f : LeafAt d ty at r) (q : r ≡ None) where
    kept : all_some (conv_val t) l ≡ some l
    kept = all_kept t (struct_is (leaf t) (sym q ∙ f t e w)) l c

    pub row_fits : true ≡ some? (all_some (conv_val t) l)
    unfolding some?
    row_fits = rw kept

    pub row_into : {ws : List Val} → all_some (conv_val t) l ≡ some ws → l ≡ ws
    row_into g = some_inj (sym kept ∙ g)

    pub row_put : {ws : List Val} → all_some (conv_val t) l ≡ some ws → {out out' : List ℕ} {to n : ℕ}
        → Put out to (part s from (length s)) n out' → Put out to (joined val_bytes ws) n out'
    row_put {ws} g {out} {out'} {to} {n} y =
        subst (λ (b : List ℕ). Put out to b n out') (part_is (row_bytes x) ∙ ap (joined val_bytes) (row_into g)) y

-- what was asked of the arguments that stand there holds of whichever do
pub asked_all : {args : List ℕ} {from d : ℕ} {ty : List ℕ} {at : ℕ} → AskedFit args from d ty at → {l : List Val} {t : Ty} {e : ℕ}
    → Row args from l → Stands d ty at t e → T (all_to t l)
asked_all p {l} {t} w v =
    let i : p.values ≡ l = same_row p.row w in
    let j : p.type ≡ t = same_type p.stands v in
    subst (λ (u : Ty). T (all_to u l)) j (subst (λ (m : List Val). T (all_to p.type m)) i p.converts)

-- ---- one by one

-- each argument converts to t
abbrev pub all_fit : Ty → List Val → Bool
all_fit t l = some? (all_some (conv_val t) l)

-- a test of all of a list asks each of its elements
pub record Each (one : Ty → Val → Bool) (all : Ty → List Val → Bool) : Type 0 where
  pub nil : (t : Ty) → true ≡ all t []
  pub cons : (t : Ty) (v : Val) (l : List Val) → one t v && all t l ≡ all t (v ∷ l)

pub each_to : Each (λ t v. converts (type_of v) t) all_to
unfolding every
each_to = record { nil = λ t. refl; cons = λ t v l. refl }

pub each_fit : Each (λ t v. some? (conv_val t v)) all_fit
unfolding all_some some?
each_fit = record { nil = λ t. refl; cons = λ t v l. sym (some_cons (conv_val t) v l) }

-- the test holds of what is left exactly where it holds of all, for each type of which P holds
abbrev pub TestLeft : (Ty → List Val → Bool) → (Ty → Type 0) → List Val → List Val → Type 0
TestLeft all P l m = (t : Ty) → P t → all t m ≡ all t l

module _ {one : Ty → Val → Bool} {all : Ty → List Val → Bool} (x : Each one all) {P : Ty → Type 0} {l : List Val} where
  module _ {v : Val} {m : List Val} (g : TestLeft all P l (v ∷ m)) {r : Bool} where
    split : (t : Ty) → P t → r ≡ one t v → r && all t m ≡ all t l
    split t p c = ap (λ (b : Bool). b && all t m) c ∙ (x.cons t v m ∙ g t p)

    pub test_no : (t : Ty) → P t → r ≡ one t v → r ≡ false → false ≡ all t l
    test_no t p c h = rw h at (split t p c)

    pub test_on : ((t : Ty) → P t → r ≡ one t v) → r ≡ true → TestLeft all P l m
    test_on c h t p = rw h at (split t p (c t p))

  pub test_end : TestLeft all P l [] → (t : Ty) → P t → true ≡ all t l
  test_end g t p = x.nil t ∙ g t p

-- ---- both together

pub none_all : (t : Ty) (l : List Val) → all_to t l ≡ false → false ≡ some? (all_some (conv_val t) l)
unfolding some?
none_all t l h = rw (none_to t l h)
