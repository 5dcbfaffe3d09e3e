-- An argument by the second letter of its mark: a literal, a vector, or anything else.
use mathlib.Core.Path.{◌≡◌, refl, sym, ap, ◌∙◌}
use mathlib.Core.List.{List, [], ◌∷◌, ◌++◌}
use mathlib.Core.Bool.{true, false}
use Prim.Native.Nat.{ℕ, ◌+◌, ◌≤◌}
use native.Mathlib.Omega.{arith}
use lib.Dec.{T}
use lib.ListN.{length, get_or, drop, length-append}
use Rattle.meaning.specs.Kinds.{Kind, kind_no, pay_width}
use Rattle.meaning.specs.Trees.{Val, Vs, Vv, Vm, Va, Vu}
use Rattle.meaning.specs.Records.{‘s’, ‘v’, ‘m’, ‘a’, ‘u’, le, lit_bytes, vec_bytes, val_bytes, joined, good_lit, shaped_val}
use Rattle.meaning.specs.Build.{parts}
use Rattle.laws.proofs.AgreeVec.{length_map_vs}
use Rattle.laws.proofs.BackVal.{lit_fits_lem}
use Rattle.laws.proofs.Length.{le_len}
use Rattle.record.proofs.Places.{at_of, past}
use Rattle.record.specs.Bytes.{number_at}
use Rattle.record.specs.Literals.{width_of}
use Rattle.args.specs.Row.{Row}
use Rattle.args.proofs.ArgumentRows.{row_has, row_shaped}
use Rattle.record.proofs.Numbers.{number_of}
use Rattle.record.proofs.Literals.{width_of_lem}
use Rattle.vector.specs.VectorParts.{flat, marked}

letter : Val → ℕ
letter (Vs k p) = ‘s’
letter (Vv k ps) = ‘v’
letter (Vm c r k ps) = ‘m’
letter (Va l) = ‘a’
letter (Vu i l) = ‘u’

letter_at : (v : Val) (rest : List ℕ) → get_or (val_bytes v ++ rest) 1 0 ≡ letter v
unfolding val_bytes lit_bytes vec_bytes letter
letter_at (Vs k p) rest = refl
letter_at (Vv k ps) rest = refl
letter_at (Vm c r k ps) rest = refl
letter_at (Va l) rest = refl
letter_at (Vu i l) rest = refl

front_size : (v : Val) → 3 ≤ length (val_bytes v)
unfolding val_bytes lit_bytes vec_bytes le
front_size (Vs k p) = omega arith
front_size (Vv k ps) = omega arith
front_size (Vm c r k ps) = omega arith
front_size (Va l) = omega arith
front_size (Vu i l) = omega arith

-- a literal, by the numbers in its record
pub record IsLiteral (s : List ℕ) (i : ℕ) (v : Val) : Type 0 where
  pub kind : Kind
  pub pay : ℕ
  pub is : v ≡ Vs kind pay
  pub no : get_or s (i + 2) 0 ≡ kind_no kind
  pub num : number_at s (i + 3) (width_of (get_or s (i + 2) 0)) ≡ pay
  pub room : i + 3 + width_of (get_or s (i + 2) 0) ≤ length s
  pub good : T (good_lit kind pay)

module _ {s : List ℕ} {i : ℕ} {v : Val} (x : IsLiteral s i v) where
  pub literal_bits : {b : ℕ} → b ≡ number_at s (i + 3) (width_of (get_or s (i + 2) 0)) → b ≡ x.pay
  literal_bits f = f ∙ x.num

  pub literal_good : {b : ℕ} → b ≡ x.pay → T (good_lit x.kind b)
  literal_good q = rw q x.good

-- a vector, by its count
pub record IsVector (s : List ℕ) (i : ℕ) (v : Val) : Type 0 where
  pub kind : Kind
  pub pays : List ℕ
  pub is : v ≡ Vv kind pays
  pub count : get_or s (i + 2) 0 ≡ length pays

literal_of_lem : (s rest : List ℕ) (i : ℕ) (v : Val) → drop i s ≡ val_bytes v ++ rest → i + length (val_bytes v) ≤ length s → T (shaped_val v)
    → letter v ≡ ‘s’ → IsLiteral s i v
unfolding val_bytes lit_bytes shaped_val letter
literal_of_lem s rest i (Vs k p) h l g m =
    let n : get_or s (i + 2) 0 ≡ kind_no k = at_of s _ i h 2 in
    let w : width_of (get_or s (i + 2) 0) ≡ pay_width k = ap width_of n ∙ width_of_lem k in
    let t = number_of s rest (i + 3) (pay_width k) p (past s (86 ∷ 115 ∷ kind_no k ∷ []) (le (pay_width k) p ++ rest) i h) (lit_fits_lem k p g) in
    record {
      kind = k;
      pay = p;
      is = refl;
      no = n;
      num = ap (number_at s (i + 3)) w
          ∙ t;
      room = rw w (omega (arith, le_len (pay_width k) p));
      good = g;
    }
literal_of_lem s rest i (Vv k ps) h l g m = absurd (omega arith)
literal_of_lem s rest i (Vm c r k ps) h l g m = absurd (omega arith)
literal_of_lem s rest i (Va m) h l g q = absurd (omega arith)
literal_of_lem s rest i (Vu n m) h l g q = absurd (omega arith)

vector_of_lem : (s rest : List ℕ) (i : ℕ) (v : Val) → drop i s ≡ val_bytes v ++ rest → letter v ≡ ‘v’ → IsVector s i v
unfolding val_bytes vec_bytes letter
vector_of_lem s rest i (Vs k p) h m = absurd (omega arith)
vector_of_lem s rest i (Vv k ps) h m = record { kind = k; pays = ps; is = refl; count = at_of s _ i h 2 }
vector_of_lem s rest i (Vm c r k ps) h m = absurd (omega arith)
vector_of_lem s rest i (Va l) h m = absurd (omega arith)
vector_of_lem s rest i (Vu n l) h m = absurd (omega arith)

-- anything else is neither
other_of : (v : Val) → (letter v ≡ ‘s’ → ⊥) → (letter v ≡ ‘v’ → ⊥) → flat v ≡ false
unfolding flat letter
other_of (Vs k p) m n = absurd (m refl)
other_of (Vv k ps) m n = absurd (n refl)
other_of (Vm c r k ps) m n = refl
other_of (Va l) m n = refl
other_of (Vu i l) m n = refl

-- what is no vector is one part, whose record has nothing before its literals
one_of : (v : Val) → (letter v ≡ ‘v’ → ⊥) → (length (parts v) ≡ 1) × (marked v ≡ 0)
unfolding parts marked letter
one_of (Vs k p) n = (refl, refl)
one_of (Vv k ps) n = absurd (n refl)
one_of (Vm c r k ps) n = (refl, refl)
one_of (Va l) n = (refl, refl)
one_of (Vu i l) n = (refl, refl)

-- a part takes a byte at least
lits_long : (k : Kind) (ps : List ℕ) → length ps ≤ length (joined (lit_bytes k) ps)
unfolding joined lit_bytes
lits_long k [] = omega arith
lits_long k (p ∷ ps) = omega (arith, lits_long k ps, length-append (lit_bytes k p) (joined (lit_bytes k) ps))

parts_long : (v : Val) → length (parts v) ≤ length (val_bytes v)
unfolding parts val_bytes vec_bytes lit_bytes
parts_long (Vs k p) = omega arith
parts_long (Vv k ps) = omega (arith, length_map_vs k ps, lits_long k ps)
parts_long (Vm c r k ps) = omega arith
parts_long (Va l) = omega arith
parts_long (Vu i l) = omega arith

module _ {s : List ℕ} {i : ℕ} {v : Val} {l : List Val} (x : Row s i (v ∷ l)) where
  here : drop i s ≡ val_bytes v ++ drop (i + length (val_bytes v)) s
  here = (row_has x).bytes.here

  letter_is : get_or s (i + 1) 0 ≡ letter v
  letter_is = at_of s _ i here 1 ∙ letter_at v (drop (i + length (val_bytes v)) s)

  pub arg_front : i + 3 ≤ length s
  arg_front = omega (arith, front_size v, (row_has x).bytes.within)

  pub arg_parts : i + length (parts v) ≤ length s
  arg_parts = omega (arith, parts_long v, (row_has x).bytes.within)

  pub parts_before : (m e : ℕ) → m ≤ i → e ≡ i + length (val_bytes v) → m + length (parts v) ≤ e
  parts_before m e h q = omega (arith, parts_long v)

  pub arg_literal : get_or s (i + 1) 0 ≡ ‘s’ → IsLiteral s i v
  arg_literal m = literal_of_lem s _ i v here (row_has x).bytes.within (row_shaped x) (sym letter_is ∙ m)

  pub arg_vector : get_or s (i + 1) 0 ≡ ‘v’ → IsVector s i v
  arg_vector m = vector_of_lem s _ i v here (sym letter_is ∙ m)

  pub arg_other : (get_or s (i + 1) 0 ≡ ‘s’ → ⊥) → (get_or s (i + 1) 0 ≡ ‘v’ → ⊥) → flat v ≡ false
  arg_other m n = other_of v (λ e. m (letter_is ∙ e)) (λ e. n (letter_is ∙ e))

  pub arg_one : (get_or s (i + 1) 0 ≡ ‘v’ → ⊥) → (length (parts v) ≡ 1) × (marked v ≡ 0)
  arg_one n = one_of v (λ e. n (letter_is ∙ e))

  -- ---- what the vector's count and its mark say

  module _ (m : get_or s (i + 1) 0 ≡ ‘v’) where
    pub vector_parts : get_or s (i + 2) 0 ≡ length (parts v)
    unfolding parts
    vector_parts = let y = arg_vector m in y.count ∙ (length_map_vs y.kind y.pays ∙ ap (λ (w : Val). length (parts w)) (sym y.is))

    pub vector_flat : true ≡ flat v
    unfolding flat
    vector_flat = ap flat (sym (arg_vector m).is)

    pub vector_marked : 3 ≡ marked v
    unfolding marked
    vector_marked = ap marked (sym (arg_vector m).is)

  pub literal_flat : get_or s (i + 1) 0 ≡ ‘s’ → true ≡ flat v
  unfolding flat
  literal_flat m = ap flat (sym (arg_literal m).is)
