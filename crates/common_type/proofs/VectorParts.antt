-- The record of the type that a type brings stands in its own.
use mathlib.Core.Path.{◌≡◌, subst}
use mathlib.Core.List.{List, [], ◌∷◌, ◌++◌}
use Prim.Native.Nat.{ℕ}
use native.Mathlib.Omega.{arith}
use lib.ListN.{get_or, drop}
use Rattle.meaning.specs.Trees.{Ty, Ts, Tv, Tm, Ta, Tu, depth}
use Rattle.meaning.specs.Records.{‘T’, ‘v’, ty_bytes, shaped_ty}
use Rattle.ty.specs.Stands.{Stands}
use Rattle.record.proofs.Places.{at_of, past}
use Rattle.ty.proofs.Heads.{VectorIs, vector_by}
use Rattle.common_type.specs.Brought.{part_of}

part_in : {s : List ℕ} (t : Ty) {e n k : ℕ} → Stands 15 s 0 t e → VectorIs 15 s 0 n k t e → Stands 15 s 3 (part_of t) e
unfolding part_of ty_bytes shaped_ty depth
part_in {s} t {e} {n} w x =
    let v = subst (λ (u : Ty). Stands 15 s 0 u e) x.is w in
    rw x.is
    record {
      here = past s (‘T’ ∷ ‘v’ ∷ n ∷ []) (ty_bytes (Ts x.kind) ++ drop e s) 0 v.here;
      size = v.size;
      within = v.within;
      shaped = tt;
      deep = omega arith;
    }

module _ {s : List ℕ} {t : Ty} {e : ℕ} (w : Stands 15 s 0 t e) where
  pub part_vector : get_or s 1 0 ≡ ‘v’ → Stands 15 s 3 (part_of t) e
  part_vector h = part_in t w (vector_by w h)

  pub part_other : (get_or s 1 0 ≡ ‘v’ → ⊥) → Stands 15 s 0 (part_of t) e
  unfolding part_of ty_bytes
  part_other h = go t w
    where
      go : (u : Ty) → Stands 15 s 0 u e → Stands 15 s 0 (part_of u) e
      go (Ts k) x = x
      go (Tv n k) x = absurd (h (at_of s _ 0 x.here 1))
      go (Tm c r k) x = x
      go (Ta n u) x = x
      go (Tu i m) x = x
