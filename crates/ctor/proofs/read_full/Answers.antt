-- A read puts its bytes behind those that were read so far; one that was interrupted changes neither the front nor what
-- the reader has.
use Rattle.std.proofs.Common.{◌≡◌, ℕ, ◌+◌, ◌≤◌, List, ◌++◌, rules, length, take, sym, ap, ap₂, ◌∙◌, subst, le_refl, drop_at, length-take-le}
use Rattle.std.proofs.lemmas.Slice.{take-put_mid_below}
use Rattle.std.specs.Io.KnownBytes.{Consumes}
use Rattle.std.proofs.KnownBytes.{Consumes-trans, Consumes-kept}
use borrow.Rule.Slice.PartMut.{put_mid, post_of}
use lib.Seq.{take-add, take-append-le}
use Rattle.ctor.proofs.read_full.Goals as goal
use Rattle.ctor.proofs.read_full.Goals.{in-Ok, in-Err+else-ne}

-- the front and k bytes of what was put behind it
put_behind : (n r k : ℕ) (xs ys : List ℕ) → n ≤ length xs → k ≤ length ys → take n xs ++ take k ys ≡ take (n + k) (put_mid n r xs ys)
put_behind n r k xs ys within fits =
    let after = post_of n r xs in
    sym (take-add n k (put_mid n r xs ys)
    ∙ ap₂ (λ (a b : List ℕ). a ++ b) (take-put_mid_below _ _ _ _ _ (le_refl _) within)
    (ap (take k) (drop_at (take n xs) (ys ++ after) n (length-take-le n xs within)) ∙ take-append-le k ys after fits))

pub loop-preserved : goal.loop-preserved
loop-preserved g c =
    elim c.match-read.branch [
      | in-Ok w ↦ rw w.n-is (
        search rules,
        subst (Consumes _ _) (put_behind _ _ _ _ _ c.loop.invariant.0 w.in-Ok.ensures.bound.0)
            (Consumes-trans _ _ _ _ _ c.loop.invariant.1 w.in-Ok.ensures.bytes.0),
      )
      | in-Err+else-ne w ↦ rw w.n-is (
        search rules,
        subst (Consumes _ _) (sym (take-put_mid_below _ _ _ _ _ (le_refl _) c.loop.invariant.0))
            (Consumes-kept _ _ _ _ c.loop.invariant.1 w.in-Err.ensures.bytes),
      )
    ]
