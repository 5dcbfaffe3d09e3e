-- The zero value of a well-shaped type: its record, or 22.
use mathlib.Core.Path.{◌≡◌, refl, sym, ap, ◌∙◌}
use mathlib.Core.List.{List}
use Prim.Native.Nat.{ℕ, ◌≤◌, ◌<◌}
use native.Mathlib.Omega.{arith}
use lib.Dec.{T}
use lib.ListN.{length}
use Rattle.meaning.specs.Kinds.{Kind, kind_no}
use Rattle.meaning.specs.Trees.{Ty, Tv, val_len, type_of, zero_of}
use Rattle.meaning.specs.Records.{val_bytes, side, shaped_ty}
use Rattle.meaning.specs.Answers.{ok}
use Rattle.laws.proofs.AgreeBuild.{zero_made}
use Rattle.record.specs.Bytes.{Put}
use Rattle.error.specs.Told.{Builds}
use Rattle.error.proofs.BufferAtExit.{builds_long, builds_record}
use Rattle.zero.specs.Zeros.{vector_of}
use Rattle.zero.proofs.Bytes.{zero_long, vector_zero}
use Rattle.std.specs.declared.result.Result.TheVariants.{Ok, Err}
use Rattle.error.specs.declared.Refusal.TheVariants.{NoRoom}

module _ (t : Ty) (h : T (shaped_ty t)) (out : List ℕ) where
  same : val_len (type_of (zero_of t)) ≡ val_len t
  same = ap val_len (zero_made t h).1

  pub zero_refused : length out < val_len t → Builds (ok (zero_of t)) out (Err NoRoom) out
  zero_refused l = builds_long out (zero_of t) refl (omega (arith, same))

  pub zero_record : {r : ℕ} {out' : List ℕ} → val_len t ≤ length out → Put out 0 (val_bytes (zero_of t)) r out'
      → Builds (ok (zero_of t)) out (Ok r) out'
  zero_record l y = builds_record out (zero_of t) refl (zero_made t h).0 (omega (arith, same)) y

-- ---- a vector by the number of its kind

module _ (n : ℕ) (j : Kind) {k : ℕ} (e : k ≡ kind_no j) where
  pub vector_bytes : val_bytes (zero_of (Tv n j)) ≡ vector_of n k
  vector_bytes = vector_zero n j ∙ ap (vector_of n) (sym e)

  module _ (s : T (side n)) where
    pub vector_shaped : T (shaped_ty (Tv n j))
    unfolding shaped_ty
    vector_shaped = s

    pub vector_long : length (vector_of n k) ≡ val_len (Tv n j)
    vector_long = ap length (sym vector_bytes) ∙ zero_long (Tv n j) vector_shaped
