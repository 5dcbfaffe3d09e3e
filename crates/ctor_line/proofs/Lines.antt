-- The parts of a line, one after another; the answer that a buffer holds.
use mathlib.Core.Path.{◌≡◌, refl, ap, ◌∙◌}
use mathlib.Core.List.{List, [], ◌∷◌, ◌++◌, append_assoc}
use Prim.Native.Nat.{ℕ, ◌≤◌}
use native.Mathlib.Omega.{arith}
use lib.ListN.{length, take, drop, length-append}
use lib.Seq.{length-take-le, take-append_seam, take_at, length-sets, sets-eq}
use Rattle.meaning.specs.Answers.{Answer, ok, no, miscount}
use Rattle.meaning.specs.Entries.{laid, decimal_from, decimal, line}
use Rattle.record.specs.Bytes.{Put}
use Rattle.error.specs.Refusals.{paper}
use Rattle.error.specs.Told.{by_length, Told}
use Rattle.ctor_line.specs.Printed.{answer_in, record_len}
use Rattle.error.specs.Told.{Written}
use Rattle.std.specs.declared.result.Result.TheVariants.{Ok, Err}

pub eight : decimal 8 ≡ 56 ∷ []
unfolding decimal decimal_from
eight = refl

pub miscount_line : (w g : ℕ)
    → (110 ∷ 111 ∷ 32 ∷ []) ++ ((decimal 8 ++ (32 ∷ [])) ++ ((decimal w ++ (32 ∷ [])) ++ (decimal g ++ (10 ∷ [])))) ≡ line (miscount w g)
unfolding line
miscount_line w g = rw (eight, append_assoc (decimal w) (32 ∷ []) (decimal g ++ (10 ∷ [])))

-- ---- the record's bytes are there

pub record_bytes : {r : Written} {n : ℕ} (buffer : List ℕ) → r ≡ Ok n → record_len r ≤ length buffer → length (take n buffer) ≡ n
unfolding record_len
record_bytes {n = n} buffer e h = length-take-le n buffer (rw e at h)

-- ---- what an entry leaves is what is printed

module _ {a : Answer} {out out' : List ℕ} {r : Written} (t : Told a out r out') where
  pub told_in : answer_in r out' ≡ a
  unfolding answer_in by_length laid
  told_in = go a t.says t.leaves
    where
      go : (b : Answer) → paper r ≡ by_length b → out' ≡ laid b out → answer_in r out' ≡ b
      go (ok s) e l = rw (e, l, take-append_seam s (drop (length s) out))
      go (no n) e l = rw e
      go (miscount w g) e l = rw e

  pub told_len : record_len r ≤ length out'
  unfolding record_len paper by_length laid
  told_len = go r a t.says t.leaves
    where
      go : (q : Written) (b : Answer) → paper q ≡ by_length b → out' ≡ laid b out → record_len q ≤ length out'
      go (Err x) b e l = omega arith
      go (Ok n) (ok s) e l = let i : n ≡ length s = cc in rw (i, l, length-append s (drop (length s) out)) (omega arith)
      go (Ok n) (no m) e l = absurd (let z : ◌≡◌ {A = ℕ} 0 1 = cc in omega arith)
      go (Ok n) (miscount w g) e l = absurd (let z : ◌≡◌ {A = ℕ} 0 1 = cc in omega arith)

-- the bytes up to the end are those that were stored
pub put_front : {out out' bs : List ℕ} {r : ℕ} → Put out 0 bs r out' → r ≤ length out' → take r out' ≡ bs
put_front {out} {out'} {bs} {r} p h =
    let z : length bs ≡ r = omega (arith, p.end) in
    let l : length out' ≡ length out = ap length p.left ∙ length-sets out 0 bs in
    rw (p.left, sets-eq bs out 0 (omega arith)) (take_at bs _ r z)
