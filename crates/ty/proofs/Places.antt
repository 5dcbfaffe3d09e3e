-- What stands at a place is one type (`same_type`), and ends in one place.
use lib.Dec.{T}
use mathlib.Core.Path.{◌≡◌, sym, ap, ◌∙◌}
use mathlib.Core.List.{List, ◌++◌}
use Prim.Native.Nat.{ℕ, ◌≤◌}
use native.Mathlib.Omega.{arith}
use lib.ListN.{length, drop}
use Rattle.meaning.specs.Trees.{Ty, depth}
use Rattle.meaning.specs.Records.{ty_bytes, shaped_ty}
use Rattle.record.specs.Bytes.{Put}
use Rattle.record.proofs.Puts.{put_length, put_starts}
use Rattle.ty.specs.Stands.{Stands}
pub use Rattle.ty.specs.OneTypes.{same_type}

pub same_end : {d d' : ℕ} {s : List ℕ} {at : ℕ} {t t' : Ty} {e e' : ℕ} → Stands d s at t e → Stands d' s at t' e' → e ≡ e'
same_end w w' = omega (arith, w.size, w'.size, ap (λ (x : Ty). length (ty_bytes x)) (same_type w w'))

-- a type's record that was stored stands there
pub put_stands : {d : ℕ} {out out' : List ℕ} {o q : ℕ} (t : Ty) → T (shaped_ty t) → depth t ≤ d → Put out o (ty_bytes t) q out'
    → q ≤ length out → Stands d out' o t q
put_stands {out' = out'} t g h w r =
    let x = put_starts w (omega (arith, w.end)) in
    record {
      here = x.here ∙ ap (λ (n : ℕ). ty_bytes t ++ drop n out') (sym w.end);
      size = w.end;
      within = omega (arith, put_length w);
      shaped = g;
      deep = h;
    }
