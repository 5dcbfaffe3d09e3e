-- A vector's record in a lent buffer: what is measured is what is written.
use mathlib.Core.Path.{◌≡◌, refl, sym, ap, ◌∙◌}
use mathlib.Core.List.{List, [], ◌∷◌}
use Prim.Native.Nat.{ℕ, ◌+◌, ◌*◌, ◌≤◌, ◌<◌}
use native.Mathlib.Omega.{arith}
use lib.Dec.{T}
use lib.ListN.{length, replicate}
use Rattle.meaning.specs.Kinds.{Kind, kind_no, pay_width}
use Rattle.meaning.specs.Trees.{Vv, Tv, type_of, lit_len, val_len}
use Rattle.meaning.specs.Records.{‘V’, ‘v’, lit_bytes, vec_bytes, val_bytes, joined, every, good_lit, shaped_val}
use Rattle.meaning.specs.Answers.{ok}
use Rattle.laws.proofs.Length.{val_len_lem}
use Rattle.record.specs.Literals.{Sized, literal_of}
use Rattle.record.specs.Bytes.{Put, times, Takes}
use Rattle.record.proofs.Puts.{put_put, put_length}
use Rattle.error.specs.Told.{Builds}
use Rattle.error.proofs.BufferAtExit.{builds_long, builds_record}
use Rattle.record.proofs.Literals.{width_of_lem, literal_bytes, literals_long, joined_times}
use Rattle.std.specs.declared.result.Result.TheVariants.{Ok, Err}
use Rattle.error.specs.declared.Refusal.TheVariants.{NoRoom}

-- ---- a vector of the payloads ps, where r is the length that was measured

module _ {k most r : ℕ} (n : ℕ) (z : Sized k (λ i. val_len (Tv n i)) most r) (j : Kind) (e : k ≡ kind_no j) where
  measured : r ≡ 3 + n * (3 + pay_width j)
  unfolding val_len lit_len
  measured = z.is j e

  pub front_room : (out : List ℕ) → r ≤ length out → 3 ≤ length out
  front_room out h = omega (arith, measured)

  pub all_room : {out mid : List ℕ} {p : ℕ} (bits : ℕ) → r ≤ length out → Put out 0 (‘V’ ∷ ‘v’ ∷ n ∷ []) p mid
      → Takes mid p (times n (literal_of k bits))
  all_room bits h y = rw (literals_long n k bits, e, width_of_lem j) (omega (arith, measured, y.end, put_length y))

  module _ (ps : List ℕ) (q : length ps ≡ n) (g : T (every (good_lit j) ps)) (out : List ℕ) where
    shaped : T (shaped_val (Vv j ps))
    unfolding shaped_val
    shaped = g

    long : r ≡ val_len (type_of (Vv j ps))
    unfolding type_of
    long = z.is j e ∙ ap (λ (i : ℕ). val_len (Tv i j)) (sym q)

    bytes : length (val_bytes (Vv j ps)) ≡ 3 + length (joined (lit_bytes j) ps)
    unfolding val_bytes vec_bytes
    bytes = omega arith

    pub vector_long : length out < r → Builds (ok (Vv j ps)) out (Err NoRoom) out
    vector_long h = builds_long out (Vv j ps) refl (omega (arith, long))

    pub whole_room : r ≤ length out → 0 + length (val_bytes (Vv j ps)) ≤ length out
    whole_room h = omega (arith, long, val_len_lem (Vv j ps) shaped)

    pub whole_record : r ≤ length out → {t : ℕ} {out' : List ℕ} → Put out 0 (val_bytes (Vv j ps)) t out'
        → Builds (ok (Vv j ps)) out (Ok t) out'
    whole_record h u = builds_record out (Vv j ps) refl shaped (omega (arith, long)) u

    module _ (h : r ≤ length out) {mid : List ℕ} {p : ℕ} (y : Put out 0 (‘V’ ∷ ‘v’ ∷ n ∷ []) p mid) where
      pub vector_room : p + length (joined (lit_bytes j) ps) ≤ length mid
      vector_room = omega (arith, long, bytes, val_len_lem (Vv j ps) shaped, y.end, put_length y)

      pub vector_record : {t : ℕ} {out' : List ℕ} → Put mid p (joined (lit_bytes j) ps) t out' → Builds (ok (Vv j ps)) out (Ok t) out'
      unfolding val_bytes vec_bytes
      vector_record {t} {out'} u = builds_record out (Vv j ps) refl shaped (omega (arith, long)) (rw (sym q) at (put_put y u))

-- n copies are such payloads
pub copies_put : {k : ℕ} (j : Kind) (n bits : ℕ) {out out' : List ℕ} {p t : ℕ} → k ≡ kind_no j
    → Put out p (times n (literal_of k bits)) t out'
    → Put out p (joined (lit_bytes j) (replicate n bits)) t out'
copies_put j n bits {out} {out'} {p} {t} e y =
    let b : times n (literal_of (kind_no j) bits) ≡ joined (lit_bytes j) (replicate n bits) = ap (times n) (literal_bytes j bits)
    ∙ sym (joined_times (lit_bytes j) n bits) in
    rw (e, b) at y
