-- The table of the padding inside a type: it speaks of the entries of the type's own record alone, and of all of them
-- but the second, which is its parent's.
use mathlib.Core.Path.{◌≡◌, refl, ◌∙◌}
use mathlib.Core.List.{List}
use Prim.Native.Nat.{ℕ, ◌+◌, ◌≤◌, ◌<◌}
use native.Mathlib.Omega.{arith}
use lib.ListN.{length, get_or, set, length-append}
use lib.Seq.{get_or-set_other}
use Rattle.meaning.specs.Trees.{Ty, Ts, Tv, Tm, Ta, Tu, Tys, [·], ◌▸◌}
use Rattle.meaning.specs.Records.{le, ty_bytes, tys_bytes}
use Rattle.memory.proofs.Length.{type_long}
use Rattle.memory.specs.Padding.{Padded, PaddedAll}
use Rattle.layout.specs.Extents.{Outside}

-- from `from` on, and before `to`, the entries of q are those of p
abbrev pub Agree : List ℕ → List ℕ → ℕ → ℕ → Type 0
Agree p q from to = (i : ℕ) → from ≤ i → i < to → get_or q i 0 ≡ get_or p i 0

mutual
  unfolding Padded PaddedAll ty_bytes tys_bytes le

  pub padded_same : (p q : List ℕ) (at : ℕ) (t : Ty) → get_or q at 0 ≡ get_or p at 0 → Agree p q (at + 2) (at + length (ty_bytes t))
      → Padded p at t
      → Padded q at t
  padded_same p q at (Ts k) h a x = tt
  padded_same p q at (Tv n k) h a x = tt
  padded_same p q at (Tm c r k) h a x = h ∙ x
  padded_same p q at (Ta n t) h a x = (
    h ∙ x.0,
    padded_same p q (at + 4) t (a (at + 4) (omega arith) (omega (arith, type_long t)))
        (λ i l g. a i (omega arith) (omega arith)) x.1,
  )
  padded_same p q at (Tu i m) h a x = (h ∙ x.0, padded_all_same p q (at + 6) 0 m (λ j l g. a j (omega arith) (omega arith)) x.1)

  pub padded_all_same : (p q : List ℕ) (at off : ℕ) (m : Tys) → Agree p q at (at + length (tys_bytes m)) → PaddedAll p at off m
      → PaddedAll q at off m
  padded_all_same p q at off [·] a x = tt
  padded_all_same p q at off (t ▸ m) a x =
      let l = type_long t in
      let k = length-append (ty_bytes t) (tys_bytes m) in (
        a (at + 1) (omega arith) (omega arith) ∙ x.0,
        padded_same p q at t (a at (omega arith) (omega arith)) (λ i f g. a i (omega arith) (omega arith))
            x.1,
        padded_all_same p q (at + length (ty_bytes t)) _ m (λ i f g. a i (omega arith) (omega arith)) x.2,
      )

-- ---- an entry that was put into the table

pub set_past : (p : List ℕ) (at v from to : ℕ) → at < from → Agree p (set p at v) from to
set_past p at v from to h i l g = get_or-set_other p at i v 0 (λ z. omega arith)

pub none_outside : (at e : ℕ) (p : List ℕ) → Outside at e p p
none_outside at e p = record { below = λ i l. refl; above = λ i l. refl }

-- before the entries that were changed, or among them
pub set_outside : {at e : ℕ} {p q : List ℕ} (from to i v : ℕ) → from ≤ at → e ≤ to → from ≤ i → i < to → Outside at e p q
    → Outside from to p (set q i v)
set_outside {q = q} from to i v f t g l o =
    record {
      below = λ j h. get_or-set_other q i j v 0 (λ z. omega arith) ∙ o.below j (omega arith);
      above = λ j h. get_or-set_other q i j v 0 (λ z. omega arith) ∙ o.above j (omega arith);
    }

-- changes in two parts, one after the other
pub both_outside : {at mid e : ℕ} {p q x : List ℕ} → at ≤ mid → mid ≤ e → Outside at mid p q → Outside mid e q x → Outside at e p x
both_outside f g a b =
    record { below = λ i h. b.below i (omega arith) ∙ a.below i h; above = λ i h. b.above i h ∙ a.above i (omega arith) }
