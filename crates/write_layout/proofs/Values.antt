-- The values of a type: what a value of each type is, the columns of a matrix, and values in a row that are scalars or vectors.
use mathlib.Core.Path.{◌≡◌, refl, sym, ap, ap₂, ◌∙◌, subst}
use mathlib.Core.List.{List, [], ◌∷◌, ◌++◌, append_assoc}
use Prim.Native.Nat.{ℕ, zero, suc, ◌-◌, ◌*◌}
use native.Mathlib.Omega.{arith}
use lib.Dec.{T}
use lib.ListN.{length, drop}
use Rattle.meaning.specs.Kinds.{Kind}
use Rattle.meaning.specs.Trees.{Ty, Ts, Tv, Tm, Ta, Tu, Tys, Val, Vs, Vv, Vm, Va, Vu, Vals, ⟨⟩, ◌▹◌, type_of, types_of, first, count_vals}
use Rattle.meaning.specs.Records.{le, joined, lit_bytes, vec_bytes, columns, val_bytes, vals_bytes, every, good_lit, shaped_val, shaped_vals}
use Rattle.meaning.specs.Layout.{scalar_size, align_of, col_stride, size_of, stride, zeros, mem_vec, mem_col, mem_bytes, mem_elements}
use Rattle.laws.proofs.AgreeConv.{AllTy}
use Rattle.laws.proofs.Back.{and_l, and_r}
use Rattle.laws.proofs.BackVal.{drop_len, take_len, every_take, every_drop}
use Rattle.laws.proofs.Same.{both}
use Rattle.laws.proofs.Sound.{All}
use Rattle.memory.proofs.Length.{scalar_stride}

-- ---- the value of a type

pub record ScalarVal (j : Kind) (v : Val) : Type 0 where
  pub payload : ℕ
  pub is : v ≡ Vs j payload

pub record VectorVal (n : ℕ) (j : Kind) (v : Val) : Type 0 where
  pub payloads : List ℕ
  pub is : v ≡ Vv j payloads
  pub count : length payloads ≡ n

pub record MatrixVal (c r : ℕ) (j : Kind) (v : Val) : Type 0 where
  pub payloads : List ℕ
  pub is : v ≡ Vm c r j payloads

pub record ArrayVal (n : ℕ) (t : Ty) (v : Val) : Type 0 where
  pub values : Vals
  pub is : v ≡ Va values
  pub count : count_vals values ≡ n
  pub elem : first (types_of values) ≡ t

pub record StructVal (i : ℕ) (m : Tys) (v : Val) : Type 0 where
  pub values : Vals
  pub is : v ≡ Vu i values
  pub types : types_of values ≡ m

pub scalar_val : (j : Kind) (v : Val) → type_of v ≡ Ts j → ScalarVal j v
unfolding type_of
scalar_val j (Vs k p) q = record { payload = p; is = cc }
scalar_val j (Vv k ps) q = absurd (let z : ◌≡◌ {A = ℕ} 0 1 = cc in omega arith)
scalar_val j (Vm c r k ps) q = absurd (let z : ◌≡◌ {A = ℕ} 0 1 = cc in omega arith)
scalar_val j (Va l) q = absurd (let z : ◌≡◌ {A = ℕ} 0 1 = cc in omega arith)
scalar_val j (Vu i l) q = absurd (let z : ◌≡◌ {A = ℕ} 0 1 = cc in omega arith)

pub vector_val : (n : ℕ) (j : Kind) (v : Val) → type_of v ≡ Tv n j → VectorVal n j v
unfolding type_of
vector_val n j (Vv k ps) q = record { payloads = ps; is = cc; count = cc }
vector_val n j (Vs k p) q = absurd (let z : ◌≡◌ {A = ℕ} 0 1 = cc in omega arith)
vector_val n j (Vm c r k ps) q = absurd (let z : ◌≡◌ {A = ℕ} 0 1 = cc in omega arith)
vector_val n j (Va l) q = absurd (let z : ◌≡◌ {A = ℕ} 0 1 = cc in omega arith)
vector_val n j (Vu i l) q = absurd (let z : ◌≡◌ {A = ℕ} 0 1 = cc in omega arith)

pub matrix_val : (c r : ℕ) (j : Kind) (v : Val) → type_of v ≡ Tm c r j → MatrixVal c r j v
unfolding type_of
matrix_val c r j (Vm a b k ps) q = record { payloads = ps; is = cc }
matrix_val c r j (Vs k p) q = absurd (let z : ◌≡◌ {A = ℕ} 0 1 = cc in omega arith)
matrix_val c r j (Vv k ps) q = absurd (let z : ◌≡◌ {A = ℕ} 0 1 = cc in omega arith)
matrix_val c r j (Va l) q = absurd (let z : ◌≡◌ {A = ℕ} 0 1 = cc in omega arith)
matrix_val c r j (Vu i l) q = absurd (let z : ◌≡◌ {A = ℕ} 0 1 = cc in omega arith)

pub array_val : (n : ℕ) (t : Ty) (v : Val) → type_of v ≡ Ta n t → ArrayVal n t v
unfolding type_of
array_val n t (Va l) q = record { values = l; is = refl; count = cc; elem = cc }
array_val n t (Vs k p) q = absurd (let z : ◌≡◌ {A = ℕ} 0 1 = cc in omega arith)
array_val n t (Vv k ps) q = absurd (let z : ◌≡◌ {A = ℕ} 0 1 = cc in omega arith)
array_val n t (Vm c r k ps) q = absurd (let z : ◌≡◌ {A = ℕ} 0 1 = cc in omega arith)
array_val n t (Vu i l) q = absurd (let z : ◌≡◌ {A = ℕ} 0 1 = cc in omega arith)

pub struct_val : (i : ℕ) (m : Tys) (v : Val) → type_of v ≡ Tu i m → StructVal i m v
unfolding type_of
struct_val i m (Vu h l) q = record { values = l; is = cc; types = cc }
struct_val i m (Vs k p) q = absurd (let z : ◌≡◌ {A = ℕ} 0 1 = cc in omega arith)
struct_val i m (Vv k ps) q = absurd (let z : ◌≡◌ {A = ℕ} 0 1 = cc in omega arith)
struct_val i m (Vm c r k ps) q = absurd (let z : ◌≡◌ {A = ℕ} 0 1 = cc in omega arith)
struct_val i m (Va l) q = absurd (let z : ◌≡◌ {A = ℕ} 0 1 = cc in omega arith)

-- ---- a matrix's columns

pub columns_each : (j : Kind) (c r : ℕ) (ps : List ℕ) → length ps ≡ c * r → T (every (good_lit j) ps)
    → All (λ l. (length l ≡ r) × T (every (good_lit j) l)) (columns c r ps)
unfolding columns
columns_each j zero r ps h g = tt
columns_each j (suc c) r ps h g =
    ((take_len c r ps h, every_take (good_lit j) r ps g), columns_each j c r (drop r ps) (drop_len c r ps h) (every_drop (good_lit j) r ps g))

pub columns_count : (c r : ℕ) (ps : List ℕ) → length (columns c r ps) ≡ c
unfolding columns
columns_count zero r ps = refl
columns_count (suc c) r ps = ap suc (columns_count c r (drop r ps))

-- ---- values that are scalars, and that are vectors: their records, and their bytes in memory as elements

-- nothing is between scalars
scalar_pad : (j : Kind) → stride (Ts j) - size_of (Ts j) ≡ 0
unfolding size_of
scalar_pad j = omega (arith, scalar_stride j)

pub record Scalars (j : Kind) (l : Vals) : Type 0 where
  pub payloads : List ℕ
  pub count : length payloads ≡ count_vals l
  pub bytes : vals_bytes l ≡ joined (lit_bytes j) payloads
  pub good : T (every (good_lit j) payloads)
  pub mem : mem_elements l ≡ mem_vec j payloads

pub scalars : (j : Kind) (l : Vals) → AllTy (Ts j) l → T (shaped_vals l) → Scalars j l
unfolding count_vals vals_bytes joined every mem_elements mem_vec shaped_vals zeros
scalars j ⟨⟩ a g = record { payloads = []; count = refl; bytes = refl; good = tt; mem = refl }
scalars j (v ▹ l) a g =
    let x = scalar_val j v a.0 in
    let p = x.payload in
    let y = scalars j l a.1 (and_r (shaped_val v) (shaped_vals l) g) in
    record {
      payloads = p ∷ y.payloads;
      count = ap suc y.count;
      bytes = ap₂ ◌++◌ (bytes v p x.is) y.bytes;
      good = both (good_lit j p) (every (good_lit j) y.payloads) (good v p x.is (and_l (shaped_val v) (shaped_vals l) g)) y.good;
      mem = mem v p a.0 x.is ∙ ap (λ (b : List ℕ). le (scalar_size j) p ++ b) y.mem;
    }
  where
    bytes : (v : Val) (p : ℕ) → v ≡ Vs j p → val_bytes v ≡ lit_bytes j p
    bytes v p e = ap val_bytes e

    good : (v : Val) (p : ℕ) → v ≡ Vs j p → T (shaped_val v) → T (good_lit j p)
    good v p e h = subst (λ (x : Val). T (shaped_val x)) e h

    mem : (v : Val) (p : ℕ) → type_of v ≡ Ts j → v ≡ Vs j p
        → mem_bytes v ++ (zeros (stride (type_of v) - size_of (type_of v)) ++ mem_elements l) ≡ le (scalar_size j) p ++ mem_elements l
    mem v p t e = ap₂ (λ (b : List ℕ) (n : ℕ). b ++ (zeros n ++ mem_elements l)) (ap mem_bytes e)
        (ap (λ (u : Ty). stride u - size_of u) t ∙ scalar_pad j)

pub record Vectors (n : ℕ) (j : Kind) (l : Vals) : Type 0 where
  pub columns : List (List ℕ)
  pub count : length columns ≡ count_vals l
  pub bytes : vals_bytes l ≡ joined (vec_bytes j) columns
  pub each : All (λ ps. (length ps ≡ n) × T (every (good_lit j) ps)) columns
  pub mem : mem_elements l ≡ joined (mem_col n j) columns

pub vectors : (n : ℕ) (j : Kind) (l : Vals) → AllTy (Tv n j) l → T (shaped_vals l) → Vectors n j l
unfolding count_vals vals_bytes joined mem_elements mem_col shaped_vals stride size_of align_of col_stride
vectors n j ⟨⟩ a g = record { columns = []; count = refl; bytes = refl; each = tt; mem = refl }
vectors n j (v ▹ l) a g =
    let x = vector_val n j v a.0 in
    let ps = x.payloads in
    let y = vectors n j l a.1 (and_r (shaped_val v) (shaped_vals l) g) in
    record {
      columns = ps ∷ y.columns;
      count = ap suc y.count;
      bytes = ap₂ ◌++◌ (bytes v ps x.is) y.bytes;
      each = ((x.count, good v ps x.is (and_l (shaped_val v) (shaped_vals l) g)), y.each);
      mem = mem v ps a.0 x.is ∙ ap (λ (b : List ℕ). mem_col n j ps ++ b) y.mem;
    }
  where
    bytes : (v : Val) (ps : List ℕ) → v ≡ Vv j ps → val_bytes v ≡ vec_bytes j ps
    bytes v ps e = ap val_bytes e

    good : (v : Val) (ps : List ℕ) → v ≡ Vv j ps → T (shaped_val v) → T (every (good_lit j) ps)
    good v ps e h = subst (λ (x : Val). T (shaped_val x)) e h

    mem : (v : Val) (ps : List ℕ) → type_of v ≡ Tv n j → v ≡ Vv j ps
        → mem_bytes v ++ (zeros (stride (type_of v) - size_of (type_of v)) ++ mem_elements l) ≡ mem_col n j ps ++ mem_elements l
    mem v ps t e =
        ap₂ (λ (b : List ℕ) (u : Ty). b ++ (zeros (stride u - size_of u) ++ mem_elements l)) (ap mem_bytes e) t
        ∙ sym (append_assoc (mem_vec j ps) (zeros (col_stride n j - n * scalar_size j)) (mem_elements l))
