-- What is decided of several arguments before anything is written.
use mathlib.Core.Path.{◌≡◌, sym, ◌∙◌}
use mathlib.Core.Option.{none, some}
use mathlib.Core.List.{List}
use mathlib.Core.Bool.{Bool, true, false}
use Prim.Native.Nat.{ℕ}
use lib.Dec.{T}
use lib.ListN.{length}
use borrow.Author.Tests.{eq-eqb, ne_eqb}
use Rattle.meaning.specs.Kinds.{Kind, kind_no}
use Rattle.meaning.specs.Scalars.{some?}
use Rattle.meaning.specs.Trees.{Val, Vv}
use Rattle.meaning.specs.Records.{val_bytes, joined, every, good_lit}
use Rattle.meaning.specs.Answers.{ok, no, miscount, or_no, ◌>>=◌, all_some}
use Rattle.meaning.specs.Convert.{conv_lits}
use Rattle.meaning.specs.Build.{flattened, vec_parts}
use Rattle.laws.proofs.AgreeVec.{ok_flat}
use Rattle.conv.specs.Items.{SomeItems, Fits}
use Rattle.conv.proofs.Values.{scan_items, scan_fits, some_map}
use Rattle.args.specs.Row.{Row}
use Rattle.args.proofs.ArgumentRows.{each_ok}
use Rattle.shape.proofs.Downs.{some_of, none_of}
use Rattle.vector.specs.VectorParts.{flat, pay_to}
use Rattle.vector.specs.VectorRules.{Goes}
use Rattle.vector.proofs.Lits.{vec_pays, flat_some, row_scan, pays_in}

-- ---- "count (8), then conversion (9)"

pub vec_miscount : (n m : ℕ) (j : Kind) (l : List Val) → (m ≡ n → ⊥) → m ≡ length l → vec_parts n j l ≡ miscount n m
vec_miscount n m j l h e = vec_pays n j l ∙ (rw (sym e, ne_eqb m n h))

module _ (n m : ℕ) (j : Kind) (l : List Val) (q : m ≡ n) (e : m ≡ length l) where
  counted : vec_parts n j l ≡ (or_no 9 (all_some (pay_to j) l) >>= λ ps. ok (Vv j ps))
  counted = vec_pays n j l ∙ (rw (sym e, eq-eqb m n q))

  pub vec_none : all_some (pay_to j) l ≡ none → vec_parts n j l ≡ no 9
  vec_none h = counted ∙ (rw h)

  pub vec_some : (ps : List ℕ) → all_some (pay_to j) l ≡ some ps → vec_parts n j l ≡ ok (Vv j ps)
  vec_some ps h = counted ∙ (rw h)

-- ---- the scan of literals and vectors

module _ {s : List ℕ} {l : List Val} (j : Kind) (x : Row s 0 l) (f : T (every flat l)) where
  pub flat_items : SomeItems s 0 (length s)
  flat_items = scan_items (row_scan j x f)

  module _ {k : ℕ} (n : k ≡ kind_no j) {r : Bool} (z : Fits k s 0 (length s) r) where
    fits : r ≡ some? (all_some (pay_to j) (flattened l))
    fits = scan_fits (row_scan j x f) n z ∙ (some_map (joined val_bytes) (all_some (conv_lits j) l) ∙ flat_some j l f)

    pub fits_none : r ≡ false → all_some (pay_to j) (flattened l) ≡ none
    fits_none e = none_of (all_some (pay_to j) (flattened l)) (sym e ∙ fits)

    pub fits_goes : r ≡ true → (ps : List ℕ) × Goes j s 0 l ps
    fits_goes e = let y = some_of (all_some (pay_to j) (flattened l)) (sym e ∙ fits) in (y.0, record { row = x; flats = f; goes = y.1 })

pub goes_good : {j : Kind} {s : List ℕ} {i : ℕ} {l : List Val} {ps : List ℕ} → Goes j s i l ps → T (every (good_lit j) ps)
goes_good {j} {l = l} {ps} g = pays_in j (flattened l) ps (ok_flat l (each_ok l g.row.each)) g.goes
