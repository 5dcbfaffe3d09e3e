-- The record of a value that lies in memory, by the records of its parts.
use mathlib.Core.Path.{◌≡◌, refl, sym, ap}
use mathlib.Core.List.{List, [], ◌∷◌, ◌++◌, append_assoc, append-nil, map}
use Prim.Native.Nat.{ℕ, zero, suc, ◌+◌, ◌≤◌}
use native.Mathlib.Omega.{arith}
use lib.ListN.{length, take, drop, length-map}
use lib.Seq.{drop-cons, drop-drop, take_at, drop_at}
use Rattle.meaning.specs.Kinds.{Kind, kind_no}
use Rattle.meaning.specs.Trees.{Ty, Ts, Tv, Tm, Ta, Tu, Tys, [·], ◌▸◌, tys_list, count_vals}
use Rattle.meaning.specs.Records.{‘V’, ‘v’, ‘m’, le, joined, columns, lit_bytes, vec_bytes, val_bytes, vals_bytes}
use Rattle.meaning.specs.Read.{flat}
use Rattle.meaning.specs.Layout.{scalar_size, round_up, align_of, col_stride, stride, size_of, number_of, apart, mem_scalar, mem_scalars}
use Rattle.meaning.specs.Layout.{mem_value, mem_values}
use Rattle.laws.proofs.SoundVal.{joined_vals}
use Rattle.memory.proofs.Length.{scalar_stride}
use Rattle.memory.proofs.Typed.{apart_len, scalars_len}
use Rattle.record.specs.Bytes.{number_at}
use Rattle.record.specs.Fronts.{array_front, struct_front}
use Rattle.record.specs.Literals.{literal_of}
use Rattle.record.proofs.Literals.{literal_bytes}
use Rattle.read_layout.specs.Memory.{scalars_from, vector_from, columns_from, value_from, elements_from, members_from}
use Rattle.read_layout.proofs.Apart.{each_from}

-- ---- lists

joined_map : {A B : Type 0} (f : B → List ℕ) (g : A → B) (l : List A) → joined f (map g l) ≡ joined (λ (a : A). f (g a)) l
unfolding joined
joined_map f g [] = refl
joined_map f g (a ∷ l) = ap (λ (x : List ℕ). f (g a) ++ x) (joined_map f g l)

-- ---- a scalar

-- the number that the bytes at a place are
number_there : (s : List ℕ) (at w : ℕ) → at + w ≤ length s → number_at s at w ≡ number_of (take w (drop at s))
unfolding number_at number_of
number_there s at zero h = refl
number_there s at (suc w) h = rw (drop-cons s at 0 (omega arith), number_there s (suc at) w (omega arith))

-- the record of the scalar of the kind j whose bytes begin s
abbrev pub scalar_there_lem : Kind → List ℕ → List ℕ
scalar_there_lem j s = lit_bytes j (mem_scalar j s)

pub scalar_there : (j : Kind) (mem : List ℕ) (at : ℕ) {k size x : ℕ} → k ≡ kind_no j → size ≡ scalar_size j → x ≡ number_at mem at size
    → at + scalar_size j ≤ length mem → scalar_there_lem j (drop at mem) ≡ literal_of k x
unfolding mem_scalar
scalar_there j mem at p q e h =
    rw (p, e, q, number_there mem at (scalar_size j) h) (sym (literal_bytes j (number_of (take (scalar_size j) (drop at mem)))))

pub scalars_from_lem : (mem : List ℕ) (at n : ℕ) (j : Kind) → scalars_from mem at n j ≡ each_from (scalar_there_lem j) (scalar_size j) mem at n
unfolding scalars_from mem_scalars
scalars_from_lem mem at n j = joined_map (lit_bytes j) (mem_scalar j) (apart n (scalar_size j) (drop at mem))

-- ---- a vector

pub vector_from_lem : (mem : List ℕ) (at n : ℕ) (j : Kind) → vector_from mem at n j ≡ (‘V’ ∷ ‘v’ ∷ n ∷ []) ++ scalars_from mem at n j
unfolding vector_from scalars_from vec_bytes
vector_from_lem mem at n j = rw (scalars_len n j (drop at mem))

-- the record of the vector of r scalars that begin s
abbrev pub vector_there : ℕ → Kind → List ℕ → List ℕ
vector_there r j s = vec_bytes j (mem_scalars r j s)

-- ---- a value by its type

pub scalar_value : (mem : List ℕ) (at : ℕ) (j : Kind) → value_from (Ts j) mem at ≡ scalars_from mem at 1 j
unfolding value_from mem_value val_bytes scalars_from mem_scalars apart joined
scalar_value mem at j = sym (append-nil (lit_bytes j (mem_scalar j (drop at mem))))

pub vector_value : (mem : List ℕ) (at n : ℕ) (j : Kind) → value_from (Tv n j) mem at ≡ vector_from mem at n j
unfolding value_from mem_value val_bytes vector_from
vector_value mem at n j = refl

-- the columns that the payloads of a matrix are cut into are those that were read
columns_back : (c w r : ℕ) (j : Kind) (s : List ℕ) → columns c r (flat (map (mem_scalars r j) (apart c w s))) ≡ map (mem_scalars r j)
    (apart c w s)
unfolding columns flat apart
columns_back zero w r j s = refl
columns_back (suc c) w r j s =
    let a : List ℕ = mem_scalars r j s in
    let b : List ℕ = flat (map (mem_scalars r j) (apart c w (drop w s))) in
    rw (take_at a b r (scalars_len r j s), drop_at a b r (scalars_len r j s), columns_back c w r j (drop w s))

pub matrix_value : (mem : List ℕ) (at c r : ℕ) (j : Kind) → value_from (Tm c r j) mem at ≡ (‘V’ ∷ ‘m’ ∷ c ∷ r ∷ []) ++ columns_from mem at c
    r j
unfolding value_from mem_value val_bytes columns_from
matrix_value mem at c r j =
    let w : ℕ = col_stride r j in
    rw (columns_back c w r j (drop at mem), joined_map (vec_bytes j) (mem_scalars r j) (apart c w (drop at mem)))

pub array_value : (mem : List ℕ) (at n : ℕ) (t : Ty) → value_from (Ta n t) mem at ≡ array_front n ++ elements_from n t mem at
unfolding value_from mem_value val_bytes array_front elements_from
array_value mem at n t =
    let l : List (List ℕ) = apart n (stride t) (drop at mem) in
    let v = joined_vals (map (mem_value t) l) in
    rw (v.1, v.0, length-map l (mem_value t), apart_len n (stride t) (drop at mem), joined_map val_bytes (mem_value t) l)

members_count : (off : ℕ) (m : Tys) (s : List ℕ) → count_vals (mem_values off m s) ≡ length (tys_list m)
unfolding count_vals mem_values tys_list
members_count off [·] s = refl
members_count off (t ▸ m) s = ap suc (members_count (round_up (align_of t) off + size_of t) m s)

pub struct_value : (mem : List ℕ) (at i : ℕ) (m : Tys) → value_from (Tu i m) mem at ≡ struct_front i (length (tys_list m)) ++ members_from 0 m
    mem at
unfolding value_from mem_value val_bytes struct_front members_from
struct_value mem at i m =
    rw (members_count 0 m (drop at mem), append_assoc (le 2 i) (le 2 (length (tys_list m))) (vals_bytes (mem_values 0 m (drop at mem))))

-- ---- elements

abbrev pub value_there : Ty → List ℕ → List ℕ
value_there t s = val_bytes (mem_value t s)

pub elements_from_lem : (mem : List ℕ) (at n : ℕ) (t : Ty) → elements_from n t mem at ≡ each_from (value_there t) (stride t) mem at n
unfolding elements_from
elements_from_lem mem at n t = refl

pub value_here : (mem : List ℕ) (at : ℕ) (t : Ty) → value_there t (drop at mem) ≡ value_from t mem at
unfolding value_from
value_here mem at t = refl

pub scalar_elements : (mem : List ℕ) (at n : ℕ) (j : Kind) → elements_from n (Ts j) mem at ≡ scalars_from mem at n j
unfolding elements_from mem_value val_bytes
scalar_elements mem at n j = rw (scalar_stride j) (sym (scalars_from_lem mem at n j))

pub vector_elements : (mem : List ℕ) (at n r : ℕ) (j : Kind) → elements_from n (Tv r j) mem at ≡ columns_from mem at n r j
unfolding elements_from columns_from mem_value val_bytes stride col_stride align_of size_of
vector_elements mem at n r j = refl

-- ---- members

pub more_members : (mem : List ℕ) (base off : ℕ) (t : Ty) (m : Tys)
    → members_from off (t ▸ m) mem base ≡ value_from t mem (base + round_up (align_of t) off) ++ members_from
    (round_up (align_of t) off + size_of t) m mem base
unfolding members_from value_from mem_values vals_bytes
more_members mem base off t m = rw (drop-drop (round_up (align_of t) off) base mem)

pub no_members : (mem : List ℕ) (base off : ℕ) → members_from off [·] mem base ≡ []
unfolding members_from mem_values vals_bytes
no_members mem base off = refl
