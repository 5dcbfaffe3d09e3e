-- The lengths of values: what the steps of `value_len` and `members_len` come to.
use mathlib.Core.Path.{◌≡◌, refl, sym, ap}
use mathlib.Core.List.{List}
use mathlib.Core.Bool.{Bool, true, false}
use Prim.Native.Nat.{ℕ, zero, suc, ◌+◌, ◌-◌, ◌*◌, ◌/◌, ◌≤◌, ◌<◌, ◌^◌}
use native.Mathlib.Omega.{arith}
use native.Mathlib.Nat.{suc-mul, mul_comm, mul-le-mul, le-div_iff_mul-le, div-lt_iff_lt-mul}
use lib.Dec.{ltb}
use borrow.Author.Tests.{lt-ltb, le-ltb, ltb-true, ltb-false}
use Rattle.meaning.specs.Kinds.{Kind, kind_no}
use Rattle.meaning.specs.Trees.{Ty, Ts, Tv, Tm, Tys, val_len, val_lens, lit_len}
use Rattle.record.specs.Literals.{Sized, most_lit}
use Rattle.ty.specs.Stands.{Stands, StandAll, Standing}
use Rattle.ty.specs.Heads.{head_of, pick_len, len_of, Measured}
use Rattle.ty.specs.declared.Head.TheVariants.{Scalar, Vector, Matrix, Array, Struct}
use Rattle.ty.proofs.Heads.{scalar_is, vector_is, matrix_is, array_is, struct_is, first_is, none_is, FirstIs}
use Rattle.std.proofs.lemmas.Option.{some_pair_parts}
use Rattle.std.specs.declared.option.Option.{Option}
use Rattle.std.specs.declared.option.Option.TheVariants.{None, Some}

-- ---- exact to 64 bits

pub len_is : (e n : ℕ) → n < 2 ^ 64 → len_of e n ≡ Some (e, n)
unfolding len_of
len_is e n h = rw (lt-ltb n (2 ^ 64) h)

pub len_long : (e n : ℕ) → 2 ^ 64 ≤ n → len_of e n ≡ None
unfolding len_of
len_long e n h = rw (le-ltb n (2 ^ 64) h)

-- what an answer says
pub is_len : (a m e n : ℕ) → Some (a, m) ≡ len_of e n → (a ≡ e) × (m ≡ n) × (n < 2 ^ 64)
unfolding len_of
is_len a m e n h = go (ltb n (2 ^ 64)) refl h
  where
    go : (b : Bool) → ltb n (2 ^ 64) ≡ b → Some (a, m) ≡ pick_len b (Some (e, n)) None → (a ≡ e) × (m ≡ n) × (n < 2 ^ 64)
    go true q x = let p = some_pair_parts a e m n x in (p.0, p.1, ltb-true n (2 ^ 64) q)
    go false q x = absurd (let z : ◌≡◌ {A = ℕ} 0 1 = cc in omega arith)

pub long_len : (e n : ℕ) → None ≡ len_of e n → 2 ^ 64 ≤ n
unfolding len_of
long_len e n h = go (ltb n (2 ^ 64)) refl h
  where
    go : (b : Bool) → ltb n (2 ^ 64) ≡ b → None ≡ pick_len b (Some (e, n)) None → 2 ^ 64 ≤ n
    go true q x = absurd (let z : ◌≡◌ {A = ℕ} 0 1 = cc in omega arith)
    go false q x = ltb-false n (2 ^ 64) q

-- a product is within a limit exactly where one factor is within the quotient
module _ (k : ℕ) {n m : ℕ} (h : 1 ≤ n) where
  pub times_fits : m ≤ k / n → n * m ≤ k
  times_fits l = let x : m * n ≤ k = (le-div_iff_mul-le h).0 l in omega (arith, mul_comm m n)

  pub times_long : k / n < m → k < n * m
  times_long l = let x : k < m * n = (div-lt_iff_lt-mul h).0 l in omega (arith, mul_comm m n)

pub times_more : (n m : ℕ) → 1 ≤ n → m ≤ n * m
times_more zero m h = absurd (omega arith)
times_more (suc n) m h = omega (arith, suc-mul n m)

pub times_small : (n l m : ℕ) → n < 256 → l ≤ m → n * l ≤ 255 * m
times_small n l m h k = mul-le-mul (let x : n ≤ 255 = omega arith in x) k

-- a bytes, and then n of what is so long
pub sized_times : (a n w k m l : ℕ) (len : Kind → ℕ) → w ≡ n → n < 256 → Sized k len m l
    → Sized k (λ j. a + n * len j) (a + 255 * m) (a + w * l)
sized_times a n w k m l len p h z = record { is = λ j q. rw (p, z.is j q); small = rw p (omega (arith, times_small n l m h z.small)) }

-- ---- a type without parts

fixed_len : (f : Kind → Ty) {k : Kind} {t : Ty} {n e a most r : ℕ} → n ≡ kind_no k → t ≡ f k → a ≡ e → Sized n (λ j. val_len (f j)) most r
    → most < 2 ^ 64 → Some (a, r) ≡ len_of e (val_len t)
fixed_len f {k} {e = e} {r = r} p q i z h =
    let l = z.small in
    rw (q, i, ← z.is k p) (sym (len_is e r (omega arith)))

module _ {d : ℕ} {s : List ℕ} {at : ℕ} {t : Ty} {e : ℕ} (w : Stands d s at t e) where
  pub scalar_len : {k r : ℕ} → Scalar k ≡ head_of t → Sized k lit_len most_lit r → Some (at + 3, r) ≡ len_of e (val_len t)
  unfolding val_len
  scalar_len h z = let x = scalar_is w h in fixed_len Ts x.no x.is x.end z (omega arith)

  pub vector_len : {n k most r : ℕ} → Vector n k ≡ head_of t → Sized k (λ j. val_len (Tv n j)) most r → most < 2 ^ 64
      → Some (at + 6, r) ≡ len_of e (val_len t)
  vector_len {n} h z = let x = vector_is w h in fixed_len (Tv n) x.no x.is x.end z

  pub matrix_len : {c r k most l : ℕ} → Matrix c r k ≡ head_of t → Sized k (λ j. val_len (Tm c r j)) most l → most < 2 ^ 64
      → Some (at + 7, l) ≡ len_of e (val_len t)
  matrix_len {c} {r} h z = let x = matrix_is w h in fixed_len (Tm c r) x.no x.is x.end z

  -- ---- a type with parts

  pub array_len : {n : ℕ} {r l : Option (ℕ × ℕ)} → Array n ≡ head_of t → Measured (d - 1) s (at + 4) l
      → ((e m : ℕ) → l ≡ len_of e m → r ≡ len_of e (4 + n * m)) → r ≡ len_of e (val_len t)
  unfolding val_len
  array_len h q f = let x = array_is w h in rw x.is (f e (val_len x.elem) (q x.elem e x.part))

  pub struct_len : {i n : ℕ} {r : Option (ℕ × ℕ)} → Struct i n ≡ head_of t →
      ((m : Tys) (e : ℕ) → StandAll (d - 1) s (at + 6) n m e → r ≡ len_of e (6 + val_lens m)) → r ≡ len_of e (val_len t)
  unfolding val_len
  struct_len h f = let x = struct_is w h in rw x.is (f x.members e x.parts)

-- ---- the loop over members: what is left of them
pub record LenLeft (d : ℕ) (s : List ℕ) (m₀ : Tys) (e i left sum : ℕ) : Type 0 where
  pub types : Tys
  pub stands : StandAll d s i left types e
  pub sums : sum + val_lens types ≡ 6 + val_lens m₀

module _ {d : ℕ} {s : List ℕ} {m₀ : Tys} {e i left sum : ℕ} (w : LenLeft d s m₀ e i left sum) where
  module _ (h : 0 < left) where
    firstly : FirstIs d s i left w.types e
    firstly = first_is w.stands h

    pub left_first : Standing d s i
    left_first = record { type = firstly.type; end = firstly.mid; stands = firstly.first }

    more : val_lens w.types ≡ val_len firstly.type + val_lens firstly.others
    unfolding val_lens
    more = ap val_lens firstly.is

    -- the first member's length is exact, or past 64 bits
    exact : {e' m : ℕ} → Measured d s i (Some (e', m)) → (e' ≡ firstly.mid) × (m ≡ val_len firstly.type)
    exact {e'} {m} q =
        let x = is_len e' m firstly.mid (val_len firstly.type) (q firstly.type firstly.mid firstly.first) in (x.0, x.1)

    pub left_long : Measured d s i None → None ≡ len_of e (6 + val_lens m₀)
    left_long q =
        let x = long_len firstly.mid (val_len firstly.type) (q firstly.type firstly.mid firstly.first) in
        sym (len_long e (6 + val_lens m₀) (omega (arith, more, w.sums)))

    pub left_over : {e' m : ℕ} → Measured d s i (Some (e', m)) → ¬ (sum + m < 2 ^ 64) → None ≡ len_of e (6 + val_lens m₀)
    left_over q l =
        let x = (exact q).1 in
        sym (len_long e (6 + val_lens m₀) (omega (arith, more, w.sums)))

  pub left_again : {rest e' m : ℕ} → left ≡ rest + 1 → Measured d s i (Some (e', m)) → LenLeft d s m₀ e e' rest (sum + m)
  left_again {rest} h q =
      let k : 0 < left = omega arith in
      let r : left - 1 ≡ rest = omega arith in
      let x = exact k q in
      let x₁ = x.1 in
      record {
        types = (firstly k).others;
        stands = rw x.0 (rw r at (firstly k).rest);
        sums = omega (arith, more k, w.sums);
      }

  pub left_none : left ≡ 0 → sum < 2 ^ 64 → Some (i, sum) ≡ len_of e (6 + val_lens m₀)
  unfolding val_lens
  left_none h l =
      let x = none_is w.stands h in
      let y : val_lens w.types ≡ 0 = ap val_lens x.0 in
      let z : sum ≡ 6 + val_lens m₀ = omega (arith, w.sums) in
      rw (x.1, ← z) (sym (len_is e sum l))
