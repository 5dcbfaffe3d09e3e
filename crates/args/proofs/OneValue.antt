-- One value alone: what is derived of its bytes, and what is read of them.
use mathlib.Core.Path.{◌≡◌, refl, sym, ap, ◌∙◌, subst}
use mathlib.Core.Option.{Option, none, some}
use mathlib.Core.List.{List, append-nil}
use mathlib.Core.Bool.{◌&&◌}
use Prim.Native.Nat.{ℕ, ◌+◌, ◌≤◌, ◌<◌}
use native.Mathlib.Omega.{arith}
use lib.Dec.{T, leb, leb→le}
use lib.ListN.{length, take}
use lib.Seq.{drop-length}
use Rattle.meaning.specs.Trees.{Ty, Val, type_of, depth, val_len}
use Rattle.meaning.specs.Records.{ty_bytes, val_bytes, shaped_ty, shaped_val, good_within, good_ty, good_val}
use Rattle.meaning.specs.Read.{read_val}
use Rattle.laws.proofs.Back.{and_l, and_r, shaped_of, deep_of}
use Rattle.laws.proofs.Same.{both}
use Rattle.laws.proofs.Sound.{Bytes}
use Rattle.laws.proofs.Exact.{val_exact}
use Rattle.laws.proofs.Length.{val_len_lem}
use Rattle.ty.specs.Stands.{Stands}
use Rattle.inst.specs.Values.{Typed}
use Rattle.derive.specs.Derives as derives
use Rattle.derive.proofs.Typings.{same_typed}
use Rattle.args.proofs.Rest.{within_of}
use Rattle.ty.proofs.Places.{put_stands}
use Rattle.ty.proofs.FrontOfBuffer.{front_whole}
use Rattle.record.specs.Values.{HasVal}
use Rattle.args.specs.OneValue.{OneValue, Found, FoundAt}

-- ---- a well-formed value

module _ {s : List ℕ} {v : Val} (x : OneValue s v) where
  pub one_shaped : T (shaped_val v)
  unfolding good_val
  one_shaped = and_l (shaped_val v) (good_ty (type_of v)) x.good

  pub one_type : T (good_ty (type_of v))
  unfolding good_val
  one_type = and_r (shaped_val v) (good_ty (type_of v)) x.good

  pub one_has : HasVal s 0 (length s) v
  one_has =
      record {
        bytes = record {
          here = rw (drop-length s) (x.is ∙ sym (append-nil (val_bytes v)));
          size = omega (arith, ap length x.is);
          within = omega arith;
        };
        shaped = one_shaped;
      }

  pub one_typed : Typed 15 s 0 (type_of v) (length s)
  unfolding good_ty
  one_typed =
      let b = one_has.bytes in
      record {
        fits = record { value = v; here = b.here; size = b.size; within = b.within; shaped = one_shaped; type = refl };
        shaped = shaped_of 15 4096 (type_of v) one_type;
        deep = deep_of 15 4096 (type_of v) one_type;
      }

  pub one_short : length (ty_bytes (type_of v)) ≤ 4096
  unfolding good_ty good_within
  one_short = leb→le (length (ty_bytes (type_of v))) 4096 (and_r (shaped_ty (type_of v) && leb (depth (type_of v)) 15)
      (leb (length (ty_bytes (type_of v))) 4096) one_type)

-- ---- what was derived

module _ {s : List ℕ} (ty : List ℕ) {ty' : List ℕ} (l : length ty ≡ 4096) where
  pub derived_one : {e q : ℕ} → derives.Found 15 s 0 ty 0 e q ty' → e ≡ length s → FoundAt s q ty'
  unfolding good_val good_ty
  derived_one {e} {q} f h =
      let x = f.typed.fits in
      let v = x.value in
      let w = f.wrote in
      let g : T (good_within 15 4096 (type_of v)) = subst (λ (t : Ty). T (good_within 15 4096 t)) (sym x.type)
      (within_of 15 4096 f.type f.typed.shaped f.typed.deep (omega (arith, w.put.end, w.room, l))) in
      record {
        value = v;
        one = record {
          is = x.here ∙ (rw (h, drop-length s) (append-nil (val_bytes v)));
          good = both (shaped_val v)
              (good_within 15 4096 (type_of v)) x.shaped g;
        };
        stands = subst (λ (t : Ty). Stands 15 ty' 0 t q) (sym x.type)
            (put_stands f.type f.typed.shaped f.typed.deep w.put w.room);
      }

  -- the value that stands there ends where it ends
  pub derived_more : {e q : ℕ} → derives.Found 15 s 0 ty 0 e q ty' → (e ≡ length s → ⊥) → (v : Val) → OneValue s v → ⊥
  derived_more {e} f h v x =
      let y = f.typed.fits in
      let t : f.type ≡ type_of v = same_typed 15 15 s 0 f.type (type_of v) e (length s) f.typed (one_typed x) in
      let a : length (val_bytes y.value) ≡ val_len (type_of v) = val_len_lem y.value y.shaped ∙ ap val_len (y.type ∙ t) in
      let b : length (val_bytes v) ≡ val_len (type_of v) = val_len_lem v (one_shaped x) in
      h (omega (arith, y.size, ap length x.is))

module _ {s : List ℕ} (ty : List ℕ) (l : length ty ≡ 4096) where
  pub derived_none : ((t : Ty) (e : ℕ) → Typed 15 s 0 t e → length ty < 0 + length (ty_bytes t)) → (v : Val) → OneValue s v → ⊥
  derived_none f v x = absurd (omega (arith, f (type_of v) (length s) (one_typed x), one_short x, l))

-- the front of the buffer, up to where the type's record ends, is that record
pub found_front : {s : List ℕ} {q : ℕ} {ty : List ℕ} → FoundAt s q ty → Found s (take q ty)
found_front f = record { value = f.value; one = f.one; whole = front_whole f.stands }

-- ---- what is read

pub one_read : {s : List ℕ} {v : Val} → OneValue s v → read_val s ≡ some v
one_read {v = v} x = ap read_val x.is ∙ val_exact.back v x.good

pub none_read : {s : List ℕ} → Bytes s → ((v : Val) → OneValue s v → ⊥) → read_val s ≡ none
none_read {s} b f = go (read_val s) refl
  where
    go : (o : Option Val) → read_val s ≡ o → o ≡ none
    go none e = refl
    go (some v) e = let y = val_exact.sound s v b e in absurd (f v record { is = y.0; good = y.1 })
