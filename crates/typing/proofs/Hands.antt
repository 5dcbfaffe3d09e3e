-- The record of an accepted type, handed over.
use mathlib.Core.Path.{◌≡◌, refl, ◌∙◌, subst}
use mathlib.Core.List.{List, [], ◌∷◌}
use Prim.Native.Nat.{ℕ, ◌+◌, ◌≤◌, ◌<◌}
use native.Mathlib.Omega.{arith}
use lib.ListN.{length}
use Rattle.meaning.specs.Kinds.{Kind, kind_no}
use Rattle.meaning.specs.Trees.{Ty, Tv, Tm, Ta}
use Rattle.meaning.specs.Records.{ty_bytes, le}
use Rattle.meaning.specs.Answers.{no}
use Rattle.meaning.specs.Entries.{hand_ty}
use Rattle.laws.proofs.Length.{le_len}
use Rattle.ty.specs.Stands.{Whole}
use Rattle.ty.proofs.Targets.{whole_bytes}
use Rattle.record.specs.Bytes.{Put}
use Rattle.record.proofs.Puts.{put_put}
use Rattle.error.specs.Told.{Told}
use Rattle.error.specs.Hand.{handed}
use Rattle.error.proofs.BufferAtExit.{written}
use Rattle.error.proofs.Handed.{handed_no, handed_yes}
use Rattle.std.specs.declared.result.Result.TheVariants.{Ok}

pub hand_type : (room : ℕ) (t : Ty) {s : List ℕ} → s ≡ ty_bytes t → hand_ty room t ≡ handed room s
unfolding hand_ty handed
hand_type room t e = rw e

pub hand_whole : (room : ℕ) {s : List ℕ} {t : Ty} → Whole s t → hand_ty room t ≡ handed room s
hand_whole room {t = t} w = hand_type room t (whole_bytes w)

-- ---- new records

pub vector_bytes : (n : ℕ) (j : Kind) {k : ℕ} → k ≡ kind_no j → 84 ∷ 118 ∷ n ∷ 84 ∷ 115 ∷ k ∷ [] ≡ ty_bytes (Tv n j)
unfolding ty_bytes
vector_bytes n j e = rw e

pub matrix_bytes : (c r : ℕ) (j : Kind) {k : ℕ} → k ≡ kind_no j → 84 ∷ 109 ∷ c ∷ r ∷ 84 ∷ 115 ∷ k ∷ [] ≡ ty_bytes (Tm c r j)
unfolding ty_bytes
matrix_bytes c r j e = rw e

-- a count takes two bytes
pub count_end : (n : ℕ) {out out' : List ℕ} {to r : ℕ} → Put out to (le 2 n) r out' → r ≡ to + 2
count_end n x = omega (arith, x.end, le_len 2 n)

module _ {ty : List ℕ} {t : Ty} (w : Whole ty t) (n : ℕ) (out : List ℕ) where
  array_len : length (ty_bytes (Ta n t)) ≡ 4 + length ty
  unfolding ty_bytes le
  array_len = omega (arith, w.size)

  pub array_long : length out < 4 + length ty → hand_ty (length out) (Ta n t) ≡ no 22
  array_long h = hand_type (length out) (Ta n t) refl ∙ handed_no (length out) (ty_bytes (Ta n t)) (omega (arith, array_len))

  -- the mark, the count, the element type
  pub array_put : 4 + length ty ≤ length out → {p q r : ℕ} {a b out' : List ℕ} → Put out 0 (84 ∷ 97 ∷ []) p a → Put a p (le 2 n) q b
      → Put b q ty r out' → Told (hand_ty (length out) (Ta n t)) out (Ok r) out'
  unfolding ty_bytes le
  array_put h {q = q} {r} {b = b} {out'} x y z =
      let last : Put b q (ty_bytes t) r out' = subst (λ (s : List ℕ). Put b q s r out') (whole_bytes w) z in
      written (ty_bytes (Ta n t)) (hand_type (length out) (Ta n t) refl
      ∙ handed_yes (length out) (ty_bytes (Ta n t)) (omega (arith, array_len))) (omega (arith, array_len))
      (put_put (put_put x y) last)
