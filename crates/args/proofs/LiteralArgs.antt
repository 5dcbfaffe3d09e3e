-- A literal among the arguments, by its record's second byte.
use mathlib.Core.Path.{◌≡◌, refl, sym, ap, ◌∙◌}
use mathlib.Core.List.{List, ◌∷◌, ◌++◌}
use Prim.Native.Nat.{ℕ, ◌+◌, ◌≤◌, ◌<◌}
use native.Mathlib.Omega.{arith}
use lib.ListN.{length, get_or, length-append}
use Rattle.meaning.specs.Kinds.{Kind, kind_no}
use Rattle.meaning.specs.Trees.{Ts, Val, Vs, Vv, Vm, Va, Vu, type_of, count_vals, lit_len}
use Rattle.meaning.specs.Records.{‘s’, le, val_bytes, vals_bytes, lit_bytes, vec_bytes, joined}
use Rattle.laws.proofs.Length.{le_len, lit_len_lem}
use Rattle.record.specs.Literals.{Sized, most_lit}
use Rattle.record.proofs.Places.{at_of}
use Rattle.args.specs.Row.{Row, NextIs}
use Rattle.args.proofs.ArgumentRows.{next_at}

-- no value's record is shorter
pub least : (v : Val) → 3 ≤ length (val_bytes v)
unfolding val_bytes lit_bytes vec_bytes
least (Vs k p) = omega arith
least (Vv k ps) = omega arith
least (Vm c r k ps) = omega arith
least (Va l) = omega (arith, length-append (le 2 (count_vals l)) (vals_bytes l), le_len 2 (count_vals l))
least (Vu i l) = omega (arith, length-append (le 2 i) (le 2 (count_vals l) ++ vals_bytes l), le_len 2 i)

-- the value v is a literal, of the kind whose number stands in its record
pub record LiteralIs (s : List ℕ) (i : ℕ) (v : Val) : Type 0 where
  pub kind : Kind
  pub payload : ℕ
  pub is : v ≡ Vs kind payload
  pub no : get_or s (i + 2) 0 ≡ kind_no kind

pub literal_type : {s : List ℕ} {i : ℕ} {v : Val} (y : LiteralIs s i v) → type_of v ≡ Ts y.kind
unfolding type_of
literal_type y = ap type_of y.is

module _ {s : List ℕ} {i : ℕ} {l : List Val} where
  pub mark : {v : Val} {n : ℕ} → Row s i (v ∷ l) → get_or (val_bytes v ++ joined val_bytes l) 1 0 ≡ n → get_or s (i + 1) 0 ≡ n
  unfolding joined
  mark {v} x h = at_of s (val_bytes v ++ joined val_bytes l) i x.here 1 ∙ h

  pub literal_by : {v : Val} → Row s i (v ∷ l) → get_or s (i + 1) 0 ≡ ‘s’ → LiteralIs s i v
  unfolding joined val_bytes lit_bytes vec_bytes
  literal_by {v = Vs k p} x h = record {
    kind = k;
    payload = p;
    is = refl;
    no = at_of s (val_bytes (Vs k p) ++ joined val_bytes l) i
        x.here 2;
  }
  literal_by {v = Vv k ps} x h = absurd (omega (arith, mark x refl))
  literal_by {v = Vm c r k ps} x h = absurd (omega (arith, mark x refl))
  literal_by {v = Va m} x h = absurd (omega (arith, mark x refl))
  literal_by {v = Vu j m} x h = absurd (omega (arith, mark x refl))

module _ {s : List ℕ} {i : ℕ} {v : Val} {l : List Val} (x : Row s i (v ∷ l)) (y : LiteralIs s i v) where
  pub literal_next : {n : ℕ} → n ≡ i + lit_len y.kind → NextIs s i v l n
  unfolding val_bytes
  literal_next e = next_at x (e ∙ ap (λ (m : ℕ). i + m) (sym
      (ap (λ (w : Val). length (val_bytes w)) y.is ∙ lit_len_lem y.kind y.payload)))

  -- where the next argument begins
  pub literal_end : {n : ℕ} → Sized (get_or s (i + 2) 0) lit_len most_lit n → (i + n ≤ length s) × (i < i + n) × NextIs s i v l (i + n)
  unfolding lit_len
  literal_end {n} z =
      let e : n ≡ lit_len y.kind = z.is y.kind y.no in
      let w = literal_next (ap (λ (m : ℕ). i + m) e) in
      (w.rest.within, omega arith, w)
