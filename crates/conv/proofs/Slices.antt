-- What stands from one place up to another is all of that slice: for callers that hand over a part of a longer list.
use mathlib.Core.Path.{◌≡◌, refl, sym, ap, ◌∙◌, subst}
use mathlib.Core.Option.{Option}
use mathlib.Core.List.{List, ◌++◌, append-nil}
use Prim.Native.Nat.{ℕ, ◌-◌}
use native.Mathlib.Omega.{arith}
use lib.ListN.{length, take, drop}
use lib.Seq.{take_at, drop-length}
use Rattle.meaning.specs.Kinds.{Kind}
use Rattle.meaning.specs.Trees.{Val}
use Rattle.record.specs.Values.{BytesAt, HasVal}
use Rattle.conv.specs.Items.{Item, bytes_of, ItemsAt}
use Rattle.conv.proofs.Values.{Scan}

-- bytes that stand in all of a list are that list
pub all_is : {s bs : List ℕ} → BytesAt s 0 (length s) bs → s ≡ bs
all_is {s} {bs} w = w.here ∙ (ap (bs ++◌) (drop-length s) ∙ append-nil bs)

-- and every list stands in all of itself
is_all : (bs : List ℕ) → BytesAt bs 0 (length bs) bs
is_all bs = record { here = sym (ap (bs ++◌) (drop-length bs) ∙ append-nil bs); size = omega arith; within = omega arith }

-- the slice from `from` up to e
abbrev pub part : List ℕ → ℕ → ℕ → List ℕ
part s from e = take (e - from) (drop from s)

module _ {s : List ℕ} {from e : ℕ} where
  pub part_is : {bs : List ℕ} → BytesAt s from e bs → part s from e ≡ bs
  part_is {bs} w = let z : e - from ≡ length bs = omega (arith, w.size) in rw (z, w.here) (take_at bs (drop e s) (length bs) refl)

  bytes_part : {bs : List ℕ} → BytesAt s from e bs → BytesAt (part s from e) 0 (length (part s from e)) bs
  bytes_part {bs} w = subst (λ (t : List ℕ). BytesAt t 0 (length t) bs) (sym (part_is w)) (is_all bs)

  pub items_part : {l : List Item} → ItemsAt s from e l → ItemsAt (part s from e) 0 (length (part s from e)) l
  items_part {l} w =
      let b : BytesAt s from e (bytes_of l) = record { here = w.here; size = w.size; within = w.within } in
      let z = bytes_part b in
      record { here = z.here; size = z.size; within = z.within; good = w.good }

  pub val_part : {v : Val} → HasVal s from e v → HasVal (part s from e) 0 (length (part s from e)) v
  val_part w = record { bytes = bytes_part w.bytes; shaped = w.shaped }

  pub scan_part : {k : Kind} {o : Option (List ℕ)} → Scan k s from e o → Scan k (part s from e) 0 (length (part s from e)) o
  scan_part x = record { items = x.items; stands = items_part x.stands; writes = x.writes }
