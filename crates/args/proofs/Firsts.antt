-- The type of an argument by its record's first bytes.
use mathlib.Core.Path.{◌≡◌, sym, ap, ap₂, ◌∙◌}
use mathlib.Core.List.{List, ◌∷◌}
use Prim.Native.Nat.{ℕ, ◌+◌, ◌*◌, ◌≤◌, ◌<◌}
use native.Mathlib.Omega.{arith}
use lib.ListN.{length, get_or}
use Rattle.meaning.specs.Trees.{Ty, Ts, Tv, Tm, Ta, Tu, Val, type_of, val_len}
use Rattle.meaning.specs.Records.{‘s’, ‘v’, ‘m’, ‘a’, ‘u’}
use Rattle.laws.proofs.Left.{Left}
use Rattle.laws.proofs.Length.{val_len_lem}
use Rattle.ty.specs.Heads.{head_of}
use Rattle.ty.specs.declared.Head.TheVariants.{Scalar, Vector, Matrix, Array, Struct}
use Rattle.derive.specs.Derives.{Marked}
use Rattle.derive.proofs.ValueFronts.{tag_of, marked, VectorOnly, vector_only, MatrixOnly, matrix_only, ArrayOnly, array_only, StructOnly}
use Rattle.derive.proofs.ValueFronts.{struct_only}
use Rattle.record.specs.Literals.{Sized}
use Rattle.args.specs.Row.{Row, NextIs}
use Rattle.args.proofs.ArgumentRows.{row_shaped, row_has, row_typed, next_at, args_first}
use Rattle.args.proofs.LiteralArgs.{least, literal_by}

module _ {s : List ℕ} {i : ℕ} {v : Val} {l : List Val} (x : Row s i (v ∷ l)) where
  pub three_bytes : i + 3 ≤ length s
  three_bytes = omega (arith, (row_has x).bytes.within, least v)

  -- its mark is that of its type
  tagged : Marked s i (tag_of (type_of v))
  tagged = marked 15 s i (type_of v) _ (row_typed x)

  with_mark : {m : ℕ} → get_or s (i + 1) 0 ≡ m → Marked s i m
  with_mark h = record { room = tagged.room; first = tagged.first; second = h }

  pub vector_arg : get_or s (i + 1) 0 ≡ ‘v’ → VectorOnly 15 s i (type_of v)
  vector_arg h = vector_only 15 s i (with_mark h) (type_of v) _ (row_typed x)

  pub matrix_arg : get_or s (i + 1) 0 ≡ ‘m’ → MatrixOnly 15 s i (type_of v)
  matrix_arg h = matrix_only 15 s i (with_mark h) (type_of v) _ (row_typed x)

  pub array_arg : get_or s (i + 1) 0 ≡ ‘a’ → ArrayOnly 15 s i (type_of v)
  array_arg h = array_only 15 s i (with_mark h) (type_of v) _ (row_typed x)

  -- none of the other marks
  last_mark : (t : Ty) → Marked s i (tag_of t) → (get_or s (i + 1) 0 ≡ ‘s’ → ⊥) → (get_or s (i + 1) 0 ≡ ‘v’ → ⊥) → (get_or s (i + 1) 0 ≡ ‘m’ → ⊥)
      → (get_or s (i + 1) 0 ≡ ‘a’ → ⊥) → get_or s (i + 1) 0 ≡ ‘u’
  unfolding tag_of
  last_mark (Ts k) m f g h j = absurd (f m.second)
  last_mark (Tv n k) m f g h j = absurd (g m.second)
  last_mark (Tm c r k) m f g h j = absurd (h m.second)
  last_mark (Ta n t) m f g h j = absurd (j m.second)
  last_mark (Tu n t) m f g h j = m.second

  pub struct_arg : (get_or s (i + 1) 0 ≡ ‘s’ → ⊥) → (get_or s (i + 1) 0 ≡ ‘v’ → ⊥) → (get_or s (i + 1) 0 ≡ ‘m’ → ⊥)
      → (get_or s (i + 1) 0 ≡ ‘a’ → ⊥) → StructOnly 15 s i (type_of v)
  struct_arg f g h j = struct_only 15 s i (with_mark (last_mark (type_of v) tagged f g h j)) (type_of v) _ (row_typed x)

  -- ---- the front that the bytes say

  pub scalar_first : get_or s (i + 1) 0 ≡ ‘s’ → Scalar (get_or s (i + 2) 0) ≡ head_of (type_of v)
  unfolding head_of type_of
  scalar_first h = let y = literal_by x h in ap Scalar y.no ∙ ap (λ (w : Val). head_of (type_of w)) (sym y.is)

  pub vector_first : get_or s (i + 1) 0 ≡ ‘v’ → Vector (get_or s (i + 2) 0) (get_or s (i + 5) 0) ≡ head_of (type_of v)
  unfolding head_of
  vector_first h = let y = vector_arg h in ap₂ Vector y.size y.byte ∙ ap head_of (sym y.is)

  pub matrix_first : get_or s (i + 1) 0 ≡ ‘m’ → Matrix (get_or s (i + 2) 0) (get_or s (i + 3) 0) (get_or s (i + 9) 0) ≡ head_of (type_of v)
  unfolding head_of
  matrix_first h = let y = matrix_arg h in rw (y.across, y.down, y.byte) (ap head_of (sym y.is))

  pub array_first : get_or s (i + 1) 0 ≡ ‘a’ → {n : ℕ} → n ≡ get_or s (i + 2) 0 + 256 * get_or s (i + 3) 0 → Array n ≡ head_of (type_of v)
  unfolding head_of
  array_first h e = let y = array_arg h in ap Array (e ∙ y.size) ∙ ap head_of (sym y.is)

  pub struct_first : StructOnly 15 s i (type_of v) → {j n : ℕ} → j ≡ get_or s (i + 2) 0 + 256 * get_or s (i + 3) 0
      → n ≡ get_or s (i + 4) 0 + 256 * get_or s (i + 5) 0 → Struct j n ≡ head_of (type_of v)
  unfolding head_of
  struct_first y e f = ap₂ Struct (e ∙ y.name) (f ∙ y.size) ∙ ap head_of (sym y.is)

  -- ---- where a vector ends

  pub vector_next : get_or s (i + 1) 0 ≡ ‘v’ → {most n : ℕ} → Sized (get_or s (i + 5) 0) (λ k. val_len (Tv (get_or s (i + 2) 0) k)) most n
      → NextIs s i v l (i + n)
  vector_next h {n = n} z =
      let y = vector_arg h in
      let e : n ≡ val_len (type_of v) = z.is y.kind y.byte ∙ (rw y.size (ap val_len (sym y.is))) in
      next_at x (ap (λ (m : ℕ). i + m) (e ∙ sym (val_len_lem v (row_shaped x))))

-- the same of the next one that a loop has left
pub args_three : {s : List ℕ} {i : ℕ} {Q : List Val → Type 0} → Left (Row s) i Q → i < length s → i + 3 ≤ length s
args_three g h = args_first g h λ v l x q. three_bytes x
