-- A value whose type converts to a type: it is scanned where the type has a kind at the bottom, and stays as it is
-- where a struct is in the way.
use mathlib.Core.Path.{◌≡◌, refl, sym, ap, ◌∙◌, subst}
use mathlib.Core.Option.{Option as Maybe, some}
use mathlib.Core.List.{List}
use mathlib.Core.Bool.{true}
use Prim.Native.Nat.{ℕ}
use lib.Dec.{T}
use lib.ListN.{length}
use Rattle.meaning.specs.Kinds.{Kind, kind_no}
use Rattle.meaning.specs.Scalars.{some?}
use Rattle.meaning.specs.Trees.{Ty, Val, Vs, Vv, Vm, Va, Vu, Vals, ⟨⟩, ◌▹◌, type_of, types_of, first, leaf}
use Rattle.meaning.specs.Records.{val_bytes, all_same, shaped_val, shaped_vals}
use Rattle.meaning.specs.Answers.{map_some}
use Rattle.meaning.specs.Convert.{converts, conv_leaf, conv_val}
use Rattle.laws.proofs.AgreeConv.{How, stays, changes, how, AllTy, all_first, none_some, true_of}
use Rattle.laws.proofs.Back.{and_l, and_r}
use Rattle.laws.proofs.Same.{both}
use Rattle.laws.proofs.Sound.{some_inj}
use Rattle.ty.specs.Heads.{leaf_of, LeafAt}
use Rattle.record.specs.Bytes.{Put}
use Rattle.conv.specs.Values.{plain, plains, ValueTo}
use Rattle.ty.proofs.Bottom.{KindIs, kind_is, struct_is}
use Rattle.conv.proofs.Values.{Scan, val_scan}
use Rattle.conv.proofs.Slices.{all_is}
use Rattle.std.specs.declared.option.Option.{Option}
use Rattle.std.specs.declared.option.Option.TheVariants.{None, Some}

-- ---- a value whose type has a kind at the bottom holds no struct

mutual
  unfolding leaf type_of shaped_val plain

  pub leaf_plain : (v : Val) {j : Kind} → T (shaped_val v) → leaf (type_of v) ≡ some j → T (plain v)
  leaf_plain (Vs k p) g e = tt
  leaf_plain (Vv k ps) g e = tt
  leaf_plain (Vm c r k ps) g e = tt
  leaf_plain (Va l) g e =
      leaf_plains l (first (types_of l)) (all_first l (and_l (all_same (types_of l)) (shaped_vals l) g))
      (and_r (all_same (types_of l)) (shaped_vals l) g) e
  leaf_plain (Vu i l) g e = absurd (none_some e)

  leaf_plains : (l : Vals) (t : Ty) {j : Kind} → AllTy t l → T (shaped_vals l) → leaf t ≡ some j → T (plains l)
  leaf_plains ⟨⟩ t a g e = tt
  leaf_plains (v ▹ l) t a g e =
      both (plain v) (plains l) (leaf_plain v (and_l (shaped_val v) (shaped_vals l) g) (ap leaf a.0 ∙ e))
      (leaf_plains l t a.1 (and_r (shaped_val v) (shaped_vals l) g) e)

pub leaf_from : {a b : Ty} {k : Kind} → How a b → leaf b ≡ some k → (j : Kind) × (leaf a ≡ some j)
leaf_from (stays e f) h = absurd (none_some (sym f ∙ h))
leaf_from (changes j k e f q r) h = (j, e)

module _ {d : ℕ} {ty : List ℕ} {at : ℕ} {s : List ℕ} {from e : ℕ} {t : Ty} {v : Val} (x : ValueTo d ty at s from e t v) where
  by_leaf : conv_val t v ≡ conv_leaf (leaf t) v
  unfolding conv_val
  by_leaf = rw (true_of (converts (type_of v) t) x.converts)

  bottom : {r : Option ℕ} → LeafAt d ty at r → r ≡ leaf_of (leaf t)
  bottom f = f x.part x.end x.stands ∙ ap leaf_of x.bottom

  -- ---- a kind at the bottom

  pub record KindScan (k : ℕ) : Type 0 where
    pub kind : Kind
    pub no : k ≡ kind_no kind
    pub scan : Scan kind s from e (map_some val_bytes (conv_val t v))

  pub kind_scan : {k : ℕ} {r : Option ℕ} → LeafAt d ty at r → r ≡ Some k → KindScan k
  unfolding conv_leaf
  kind_scan {k} f q =
      let y : KindIs k (leaf t) = kind_is k (leaf t) (sym q ∙ bottom f) in
      let h : T (plain v) = leaf_plain v x.has.shaped (leaf_from (how (type_of v) t x.converts) y.is).1 in
      let c : conv_val t v ≡ conv_leaf (some y.kind) v = by_leaf ∙ ap (λ (o : Maybe Kind). conv_leaf o v) y.is in
      record {
        kind = y.kind;
        no = y.no;
        scan = subst (λ (o : Maybe Val). Scan y.kind s from e (map_some val_bytes o)) (sym c)
            (val_scan y.kind v x.has h);
      }

  -- ---- a struct in the way

  module _ {r : Option ℕ} (f : LeafAt d ty at r) (q : r ≡ None) where
    kept : conv_val t v ≡ some v
    unfolding conv_leaf
    kept = by_leaf ∙ ap (λ (o : Maybe Kind). conv_leaf o v) (struct_is (leaf t) (sym q ∙ bottom f))

    pub struct_fits : true ≡ some? (conv_val t v)
    unfolding some?
    struct_fits = rw kept

    pub struct_into : {w : Val} → conv_val t v ≡ some w → v ≡ w
    struct_into g = some_inj (sym kept ∙ g)

-- it is copied
pub struct_put : {d : ℕ} {ty : List ℕ} {at : ℕ} {s : List ℕ} {t : Ty} {v : Val} → ValueTo d ty at s 0 (length s) t v
    → {r : Option ℕ} → LeafAt d ty at r → r ≡ None → {w : Val} → conv_val t v ≡ some w
    → {out out' : List ℕ} {to n : ℕ} → Put out to s n out' → Put out to (val_bytes w) n out'
struct_put x f q g {out} {out'} {to} {n} y =
    subst (λ (l : List ℕ). Put out to l n out') (all_is x.has.bytes ∙ ap val_bytes (struct_into x f q g)) y
