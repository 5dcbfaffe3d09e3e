-- The matrix handed over: its front and then its columns, if there is room.
use mathlib.Core.Path.{◌≡◌, refl, ap, ◌∙◌, subst}
use mathlib.Core.Option.{some}
use mathlib.Core.List.{List, [], ◌∷◌}
use mathlib.Core.Bool.{true, false}
use Prim.Native.Nat.{ℕ, ◌+◌, ◌≤◌}
use native.Mathlib.Omega.{arith}
use borrow.Author.Tests.{leb-true, leb-false}
use lib.Dec.{T, leb}
use lib.ListN.{length}
use Rattle.meaning.specs.Kinds.{Kind}
use Rattle.meaning.specs.Trees.{Tm, Vm, type_of, val_len}
use Rattle.meaning.specs.Records.{‘V’, ‘m’, vec_bytes, columns, joined, val_bytes, shaped_val}
use Rattle.meaning.specs.Answers.{ok, map_some}
use Rattle.laws.proofs.Length.{val_len_lem}
use Rattle.record.specs.Bytes.{Put}
use Rattle.record.proofs.Puts.{put_put}
use Rattle.conv.proofs.Values.{Scan, list_scan}
use Rattle.error.specs.Told.{Builds}
use Rattle.error.proofs.BufferAtExit.{builds_long, builds_record}
use Rattle.args.proofs.ArgumentRows.{row_bytes, each_shaped}
use Rattle.columns.specs.Columns.{Vectors}
use Rattle.std.specs.declared.result.Result.TheVariants.{Ok, Err}
use Rattle.error.specs.declared.Refusal.TheVariants.{NoRoom}

module _ (c r : ℕ) (j : Kind) (qs : List ℕ) (g : T (shaped_val (Vm c r j qs))) where
  long : 4 + length (joined (vec_bytes j) (columns c r qs)) ≡ val_len (Tm c r j)
  unfolding val_bytes type_of
  long = omega (arith, val_len_lem (Vm c r j qs) g)

  -- what `room_for` says
  pub hands_long : (out : List ℕ) → leb (val_len (Tm c r j)) (length out) ≡ false → Builds (ok (Vm c r j qs)) out (Err NoRoom) out
  unfolding type_of
  hands_long out h = builds_long out (Vm c r j qs) refl (leb-false (val_len (Tm c r j)) (length out) h)

  module _ {m : ℕ} (h : leb (val_len (Tm c r j)) m ≡ true) where
    pub hands_room : 4 + length (joined (vec_bytes j) (columns c r qs)) ≤ m
    hands_room = omega (arith, long, leb-true (val_len (Tm c r j)) m h)

    -- the whole record
    pub hands_whole : 0 + length (val_bytes (Vm c r j qs)) ≤ m
    unfolding type_of
    hands_whole = omega (arith, val_len_lem (Vm c r j qs) g, leb-true (val_len (Tm c r j)) m h)

  module _ (out : List ℕ) (h : leb (val_len (Tm c r j)) (length out) ≡ true) where
    pub hands_put : {out' : List ℕ} {x : ℕ} → Put out 0 (val_bytes (Vm c r j qs)) x out' → Builds (ok (Vm c r j qs)) out (Ok x) out'
    unfolding type_of
    hands_put p = builds_record out (Vm c r j qs) refl g (leb-true (val_len (Tm c r j)) (length out) h) p

    pub hands_record : {mid out' : List ℕ} {p x : ℕ} → Put out 0 (‘V’ ∷ ‘m’ ∷ c ∷ r ∷ []) p mid
        → Put mid p (joined (vec_bytes j) (columns c r qs)) x out' → Builds (ok (Vm c r j qs)) out (Ok x) out'
    unfolding val_bytes
    hands_record a b = hands_put (put_put a b)

-- what is scanned where the arguments are the columns
pub vectors_scan : {c r k : ℕ} {s : List ℕ} {j : Kind} {qs : List ℕ} → Vectors c r k s j qs
    → Scan j s 0 (length s) (some (joined (vec_bytes j) (columns c r qs)))
unfolding map_some
vectors_scan {s = s} {j} x =
    subst (Scan j s 0 (length s)) (ap (map_some (joined val_bytes)) x.goes ∙ ap some x.are)
    (list_scan j x.values (row_bytes x.row) (each_shaped x.values x.row.each) x.plain)
