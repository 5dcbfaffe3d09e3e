-- Bytes stored one after another, and that they stand there.
use mathlib.Core.Path.{◌≡◌, refl, sym, ap, ◌∙◌}
use mathlib.Core.List.{List, [], ◌∷◌, ◌++◌, append_assoc}
use Prim.Native.Nat.{ℕ, suc, ◌+◌, ◌-◌}
use native.Mathlib.Omega.{arith}
use native.Mathlib.Numerals.{add-one}
use native.Mathlib.Nat.{add-zero, add_assoc, add-suc, suc-add}
use borrow.Rule.Slice.PartMut.{put_mid}
use lib.ListN.{length, take, drop, set, length-append}
use lib.Seq.{drop-drop, sets, length-sets, sets-eq, drop_at, length-take-le}
use Rattle.record.specs.Bytes.{Starts, Takes, Put}
use Rattle.record.proofs.Places.{past}

sets_append : (a b l : List ℕ) (o : ℕ) → sets l o (a ++ b) ≡ sets (sets l o a) (o + length a) b
sets_append [] b l o = ap (λ (k : ℕ). sets l k b) (sym (add-zero o))
sets_append (x ∷ a) b l o =
    sets_append a b (set l o x) (suc o) ∙ ap (λ (k : ℕ). sets (sets (set l o x) (suc o) a) k b)
    (suc-add o (length a) ∙ sym (add-suc o (length a)))

pub put_nil : (out : List ℕ) (to : ℕ) → Put out to [] to out
put_nil out to = record { end = sym (add-zero to); left = refl }

pub put_three : (out : List ℕ) (to a b c : ℕ) → Put out to (a ∷ b ∷ c ∷ []) (to + 3) (set (set (set out to a) (to + 1) b) (to + 2) c)
put_three out to a b c = let q : to + 2 ≡ suc (suc to) = omega arith in record { end = refl; left = rw (add-one to, q) refl }

pub put_put : {out mid out' : List ℕ} {to p r : ℕ} {a b : List ℕ} → Put out to a p mid → Put mid p b r out' → Put out to (a ++ b) r out'
put_put {out = out} {to = to} {a = a} {b = b} x y =
    record {
      end = y.end ∙ (rw (x.end, length-append a b) (add_assoc to (length a) (length b)));
      left = y.left ∙ (rw (x.left, x.end) (sym (sets_append a b out to)));
    }

module _ {out : List ℕ} {to : ℕ} {bs : List ℕ} {r : ℕ} {out' : List ℕ} (w : Put out to bs r out') where
  pub put_length : length out' ≡ length out
  put_length = ap length w.left ∙ length-sets out to bs

  -- what was stored stands there
  pub put_starts : Takes out to bs → Starts out' to bs
  put_starts h =
      let x : drop to out' ≡ bs ++ drop (to + length bs) out =
      ap (drop to) (w.left ∙ (sets-eq bs out to h ∙ append_assoc (take to out) bs (drop (to + length bs) out)))
      ∙ drop_at (take to out) (bs ++ drop (to + length bs) out) to (length-take-le to out (omega arith)) in
      record {
        here = x ∙ ap (λ (l : List ℕ). bs ++ l) (sym (past out' bs (drop (to + length bs) out) to x));
        room = omega
            (arith, put_length);
      }

-- what an entry's writer left is what the lent buffer holds at the end
pub put_left : {out mid out' : List ℕ} {to r : ℕ} {bs : List ℕ} → Put out to bs r mid → out' ≡ mid → Put out to bs r out'
put_left y e = record { end = y.end; left = e ∙ y.left }

-- a part overwritten as a whole
pub put_part : {out bs ys : List ℕ} {to r : ℕ} → Takes out to bs → r ≡ to + length bs → ys ≡ bs → Put out to bs r (put_mid to (r - to) out ys)
put_part {out = out} {bs = bs} {to = to} {r = r} h e f =
    let k : r - to ≡ length bs = omega arith in
    record {
      end = e;
      left = rw (k, f, sets-eq bs out to h, append_assoc, drop-drop);
    }
