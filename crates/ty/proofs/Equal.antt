-- Equal types by their records.
use mathlib.Core.Path.{◌≡◌, subst}
use lib.Dec.{T}
use Rattle.meaning.specs.Trees.{Ty, same_ty}
use Rattle.meaning.specs.Records.{ty_bytes, shaped_ty}
use Rattle.laws.proofs.Same.{same_ty_lem, same_refl}
use Rattle.laws.proofs.Length.{bytes_same}
use Rattle.record.specs.Bytes.{same_bytes}
use Rattle.record.proofs.Equal.{both_ways, bytes_path, bytes_refl}

-- "two types are equal exactly when their bytes are"
pub same_records : (t u : Ty) → T (shaped_ty t) → T (shaped_ty u) → same_bytes (ty_bytes t) (ty_bytes u) ≡ same_ty t u
same_records t u g h =
    both_ways (same_bytes (ty_bytes t) (ty_bytes u)) (same_ty t u)
    (λ e. subst (λ (x : Ty). T (same_ty t x)) (bytes_same t u g h (bytes_path (ty_bytes t) (ty_bytes u) e)) (same_refl t))
    (λ e. subst (λ (x : Ty). T (same_bytes (ty_bytes t) (ty_bytes x))) (same_ty_lem t u e) (bytes_refl (ty_bytes t)))
