-- Arguments in a row: the first, the others, and all of them.
use mathlib.Core.Path.{◌≡◌, refl, sym, ap, ◌∙◌, subst}
use mathlib.Core.List.{List, [], ◌∷◌, ◌++◌, append-nil}
use mathlib.Core.Bool.{◌&&◌}
use Prim.Native.Nat.{ℕ, ◌+◌, ◌≤◌, ◌<◌}
use native.Mathlib.Omega.{arith}
use lib.Dec.{T, leb, leb→le}
use lib.ListN.{length, drop, length-drop, length-append}
use lib.Seq.{drop-length}
use Rattle.meaning.specs.Trees.{Ty, Val, Vs, Vv, Vm, Va, Vu, type_of, depth, val_len, vals_of}
use Rattle.meaning.specs.Records.{ty_bytes, val_bytes, lit_bytes, vec_bytes, joined, shaped_ty, shaped_val, shaped_vals, good_within}
use Rattle.laws.proofs.Back.{and_r, shaped_of, deep_of}
use Rattle.laws.proofs.Left.{Walk, Left, left_first, left_on, left_end, records_walk}
use Rattle.laws.proofs.Same.{both}
use Rattle.laws.proofs.Sound.{All}
use Rattle.laws.proofs.AgreeBuild.{AllOk}
use Rattle.laws.proofs.Length.{val_len_lem}
use Rattle.ty.specs.Stands.{Stands}
use Rattle.record.proofs.Places.{past}
use Rattle.inst.specs.Values.{Typed}
use Rattle.args.specs.Counts.{ValueArg}
use Rattle.derive.specs.Derives.{Found}
use Rattle.derive.proofs.Typings.{same_typed}
use Rattle.ty.proofs.Places.{put_stands}
use Rattle.record.specs.Values.{BytesAt, HasVal}
use Rattle.args.specs.Row.{Row, SomeArg, NextIs, Skips, TypeIs}

module _ {s : List ℕ} {i : ℕ} {v : Val} {l : List Val} (x : Row s i (v ∷ l)) where
  pub row_shaped : T (shaped_val v)
  row_shaped = x.each.0.0

  pub row_type : T (shaped_ty (type_of v))
  row_type = shaped_of 15 4096 (type_of v) x.each.0.1

  pub row_deep : depth (type_of v) ≤ 15
  row_deep = deep_of 15 4096 (type_of v) x.each.0.1

  pub row_short : length (ty_bytes (type_of v)) ≤ 4096
  unfolding good_within
  row_short = leb→le (length (ty_bytes (type_of v))) 4096 (and_r (shaped_ty (type_of v) && leb (depth (type_of v)) 15)
      (leb (length (ty_bytes (type_of v))) 4096) x.each.0.1)

  here : drop i s ≡ val_bytes v ++ joined val_bytes l
  unfolding joined
  here = x.here

  rest : drop (i + length (val_bytes v)) s ≡ joined val_bytes l
  rest = past s (val_bytes v) (joined val_bytes l) i here

  within : i + length (val_bytes v) ≤ length s
  within = omega (arith, length-drop i s, ap length here, length-append (val_bytes v) (joined val_bytes l), x.within)

  pub row_next : NextIs s i v l (i + length (val_bytes v))
  row_next = record { end = refl; rest = record { within = within; here = rest; each = x.each.1 } }

  pub next_at : {e : ℕ} → e ≡ i + length (val_bytes v) → NextIs s i v l e
  next_at q = subst (NextIs s i v l) (sym q) row_next

  pub row_has : HasVal s i (i + length (val_bytes v)) v
  row_has = record { bytes = record { here = rw rest here; size = refl; within = within }; shaped = row_shaped }

  pub row_typed : Typed 15 s i (type_of v) (i + length (val_bytes v))
  row_typed =
      let b = row_has.bytes in
      record {
        fits = record { value = v; here = b.here; size = b.size; within = b.within; shaped = row_shaped; type = refl };
        shaped = row_type;
        deep = row_deep;
      }

-- a record has a mark
pub some_val : (v : Val) → 2 ≤ length (val_bytes v)
unfolding val_bytes lit_bytes vec_bytes
some_val (Vs k p) = omega arith
some_val (Vv k ps) = omega arith
some_val (Vm c r k ps) = omega arith
some_val (Va l) = omega arith
some_val (Vu i l) = omega arith

-- there is another where bytes are left, and none at the end
pub row_walk : (s : List ℕ) → Walk (Row s) (length s)
row_walk s = records_walk val_bytes (λ v. omega (arith, some_val v)) s (λ i l x. x.here)

module _ {s : List ℕ} {i : ℕ} where
  pub row_some : (l : List Val) → Row s i l → i < length s → SomeArg s i
  row_some l x h = let m = (row_walk s).next x h in record { value = m.item; others = m.others; row = subst (Row s i) m.is x }

  pub row_none : (l : List Val) → Row s i l → length s ≤ i → l ≡ []
  row_none l x h = (row_walk s).done x h

  pub row_bytes : {l : List Val} → Row s i l → BytesAt s i (length s) (joined val_bytes l)
  row_bytes {l} x = record {
    here = rw (drop-length s) (x.here ∙ sym (append-nil (joined val_bytes l)));
    size = omega
        (arith, length-drop i s, ap length x.here, x.within);
    within = omega arith;
  }

-- ---- the loops over them

module _ {s : List ℕ} {i : ℕ} {Q : List Val → Type 0} (g : Left (Row s) i Q) where
  module _ (h : i < length s) where
    pub args_first : {P : Type 0} → ((v : Val) (l : List Val) → Row s i (v ∷ l) → Q (v ∷ l) → P) → P
    args_first k = left_first (row_walk s) g h k

    pub args_some : SomeArg s i
    args_some = args_first λ v l x q. record { value = v; others = l; row = x }

    module _ {e : ℕ} (f : Skips s i e) where
      pub args_less : i < e
      args_less = args_first λ v l x q. omega (arith, (f v l x).end, some_val v)

      pub args_on : {P : List Val → Type 0} → ((v : Val) (l : List Val) → Row s i (v ∷ l) → Q (v ∷ l) → P l) → Left (Row s) e P
      args_on k = left_on (row_walk s) g h (λ v l x. (f v l x).rest) k

  pub args_end : length s ≤ i → Q []
  args_end h = left_end (row_walk s) g h

-- ---- what is said of each

pub each_ok : (l : List Val) → All (ValueArg 15 4096) l → AllOk l
each_ok [] a = tt
each_ok (v ∷ l) a = (a.0.0, shaped_of 15 4096 (type_of v) a.0.1, each_ok l a.1)

pub each_shaped : (l : List Val) → All (ValueArg 15 4096) l → T (shaped_vals (vals_of l))
unfolding shaped_vals vals_of
each_shaped [] a = tt
each_shaped (v ∷ l) a = both (shaped_val v) (shaped_vals (vals_of l)) a.0.0 (each_shaped l a.1)

-- ---- the type of the first, as it is derived

module _ {s : List ℕ} {i : ℕ} (ty : List ℕ) (n : length ty ≡ 4096) {v : Val} {l : List Val} (x : Row s i (v ∷ l)) where
  pub derived_arg : {ty' : List ℕ} {e q : ℕ} → Found 15 s i ty 0 e q ty' → TypeIs s i v l e q ty'
  derived_arg {ty'} {e} {q} f =
      let y = f.typed.fits in
      let t : f.type ≡ type_of v = same_typed 15 15 s i f.type (type_of v) e (i + length (val_bytes v)) f.typed (row_typed x) in
      let a : length (val_bytes y.value) ≡ val_len (type_of v) = val_len_lem y.value y.shaped ∙ ap val_len (y.type ∙ t) in
      let b : length (val_bytes v) ≡ val_len (type_of v) = val_len_lem v (row_shaped x) in
      let k : e ≡ i + length (val_bytes v) = omega (arith, y.size) in
      record {
        next = next_at x k;
        stands = subst (λ (u : Ty). Stands 15 ty' 0 u q) t (put_stands f.type f.typed.shaped f.typed.deep f.wrote.put
            f.wrote.room);
      }

  pub derived_none : ((t : Ty) (e : ℕ) → Typed 15 s i t e → length ty < 0 + length (ty_bytes t)) → ⊥
  derived_none f = omega (arith, f (type_of v) (i + length (val_bytes v)) (row_typed x), row_short x, n)
