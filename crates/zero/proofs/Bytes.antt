-- The bytes of a zero value by the numbers in its type's record.
use mathlib.Core.Path.{◌≡◌, refl, sym, ap, ◌∙◌}
use mathlib.Core.List.{[], ◌++◌, append_assoc}
use Prim.Native.Nat.{ℕ, zero, suc, ◌+◌, ◌*◌}
use native.Mathlib.Omega.{arith}
use native.Mathlib.Nat.{suc-mul}
use lib.Dec.{T}
use lib.ListN.{length, replicate, length-replicate, replicate-append-replicate}
use lib.Seq.{take_at, drop_at}
use Rattle.meaning.specs.Kinds.{Kind, kind_no}
use Rattle.meaning.specs.Trees.{Ty, Ts, Tv, Tm, Ta, Tu, Tys, [·], ◌▸◌, tys_list, Val, count_vals, val_len, zero_of, zeros_of}
use Rattle.meaning.specs.Records.{le, lit_bytes, vec_bytes, joined, columns, val_bytes, vals_bytes, shaped_ty}
use Rattle.laws.proofs.AgreeBuild.{zero_made}
use Rattle.laws.proofs.Length.{val_len_lem}
use Rattle.laws.proofs.SoundVal.{joined_vals}
use Rattle.record.specs.Literals.{literal_of}
use Rattle.record.proofs.Literals.{literal_bytes, joined_times}
use Rattle.record.specs.Bytes.{times}
use Rattle.zero.specs.Zeros.{vector_of, matrix_of}
use Rattle.record.specs.Fronts.{array_front, struct_front}

-- ---- lengths

pub vector_front_long : (n k : ℕ) → length (vector_of n k) ≡ 3 + length (times n (literal_of k 0))
unfolding vector_of
vector_front_long n k = omega arith

pub matrix_front_long : (c r k : ℕ) → length (matrix_of c r k) ≡ 4 + length (times c (vector_of r k))
unfolding matrix_of
matrix_front_long c r k = omega arith

-- "whose length follows from the type"
pub zero_long : (t : Ty) → T (shaped_ty t) → length (val_bytes (zero_of t)) ≡ val_len t
zero_long t h = let z = zero_made t h in val_len_lem (zero_of t) z.0 ∙ ap val_len z.1

-- ---- values without a type's record

pub scalar_zero : (k : Kind) → val_bytes (zero_of (Ts k)) ≡ literal_of (kind_no k) 0
unfolding val_bytes zero_of
scalar_zero k = sym (literal_bytes k 0)

vec_zero : (k : Kind) (n : ℕ) → vec_bytes k (replicate n 0) ≡ vector_of n (kind_no k)
unfolding vec_bytes vector_of
vec_zero k n = rw (length-replicate {A = ℕ} n 0, joined_times (lit_bytes k) n 0, literal_bytes k 0)

pub vector_zero : (n : ℕ) (k : Kind) → val_bytes (zero_of (Tv n k)) ≡ vector_of n (kind_no k)
unfolding val_bytes zero_of
vector_zero n k = vec_zero k n

columns_zero : (k : Kind) (c r : ℕ) → joined (vec_bytes k) (columns c r (replicate (c * r) 0)) ≡ times c (vector_of r (kind_no k))
unfolding joined columns times
columns_zero k zero r = refl
columns_zero k (suc c) r =
    let e : suc c * r ≡ r + c * r = omega (arith, suc-mul c r) in
    let f : replicate {A = ℕ} (suc c * r) 0 ≡ replicate r 0 ++ replicate (c * r) 0 = ap (λ (n : ℕ). replicate {A = ℕ} n 0) e
    ∙ sym (replicate-append-replicate r (c * r) 0) in
    let l : length (replicate {A = ℕ} r 0) ≡ r = length-replicate r 0 in
    rw (
      f,
      take_at (replicate r 0) (replicate (c * r) 0) r l,
      drop_at (replicate r 0) (replicate (c * r) 0) r l,
      vec_zero k r,
      columns_zero
          k c r,
    )

pub matrix_zero : (c r : ℕ) (k : Kind) → val_bytes (zero_of (Tm c r k)) ≡ matrix_of c r (kind_no k)
unfolding val_bytes zero_of matrix_of
matrix_zero c r k = rw (columns_zero k c r)

-- ---- values with parts

pub array_zero : (n : ℕ) (t : Ty) → val_bytes (zero_of (Ta n t)) ≡ array_front n ++ times n (val_bytes (zero_of t))
unfolding val_bytes zero_of array_front
array_zero n t =
    let z : Val = zero_of t in
    let j = joined_vals (replicate n z) in
    rw (j.1, j.0, length-replicate n z, joined_times val_bytes n z)

all_count : (m : Tys) → count_vals (zeros_of m) ≡ length (tys_list m)
unfolding count_vals zeros_of tys_list
all_count [·] = refl
all_count (t ▸ m) = ap suc (all_count m)

pub struct_zero : (i : ℕ) (m : Tys) → val_bytes (zero_of (Tu i m)) ≡ struct_front i (length (tys_list m)) ++ vals_bytes (zeros_of m)
unfolding val_bytes zero_of struct_front
struct_zero i m = rw (all_count m, append_assoc (le 2 i) (le 2 (length (tys_list m))) (vals_bytes (zeros_of m)))

pub more_zeros : (t : Ty) (m : Tys) → vals_bytes (zeros_of (t ▸ m)) ≡ val_bytes (zero_of t) ++ vals_bytes (zeros_of m)
unfolding vals_bytes zeros_of
more_zeros t m = refl

pub no_zeros : vals_bytes (zeros_of [·]) ≡ []
unfolding vals_bytes zeros_of
no_zeros = refl
