-- A value with parts is the bytes of its front, which its type says, and then its parts in a row: a vector's literals,
-- a matrix's columns, an array's elements, a struct's members.
use mathlib.Core.Path.{◌≡◌, refl, sym, ap, ap₂, ◌∙◌, subst}
use mathlib.Core.List.{List, [], ◌∷◌, ◌++◌}
use Prim.Native.Nat.{ℕ, zero, suc, ◌*◌, ◌≤◌}
use native.Mathlib.Omega.{arith}
use native.Mathlib.Nat.{suc-mul, zero-mul}
use lib.Dec.{T, eqb, eqb→eq, eqb_refl, le→leb}
use lib.ListN.{length, take, drop, length-append}
use lib.Seq.{take_at, drop_at}
use Rattle.meaning.specs.Kinds.{Kind}
use Rattle.meaning.specs.Trees.{Ty, Ts, Tv, Tm, Ta, Tu, Tys, [·], ◌▸◌, Val, Vs, Vv, Vm, Va, Vu, Vals, ⟨⟩, ◌▹◌, type_of, types_of, first}
use Rattle.meaning.specs.Trees.{count_vals, tys_list}
use Rattle.meaning.specs.Records.{le, lit_bytes, vec_bytes, joined, columns, val_bytes, vals_bytes, good_lit, every, shaped_val, shaped_vals}
use Rattle.meaning.specs.Records.{all_same}
use Rattle.laws.proofs.AgreeConv.{AllTy, all_same_lem, first_all, all_first, every_append}
use Rattle.laws.proofs.Back.{and_l, and_r}
use Rattle.laws.proofs.BackVal.{drop_len, take_len, every_take, every_drop, count_types}
use Rattle.laws.proofs.Same.{both}
use Rattle.inst.specs.Values.{copies}
use Rattle.inst.proofs.Lits.{lit_is}

-- ---- the parts of a type's values

-- a type whose values have parts
abbrev pub Parted : Ty → Type 0
Parted (Ts k) = ⊥
Parted (Tv n k) = Unit {0}
Parted (Tm c r k) = Unit {0}
Parted (Ta n t) = 1 ≤ n
Parted (Tu i m) = Unit {0}

unfoldable pub parts_of : Ty → Tys
parts_of (Ts k) = [·]
parts_of (Tv n k) = copies n (Ts k)
parts_of (Tm c r k) = copies c (Tv r k)
parts_of (Ta n t) = copies n t
parts_of (Tu i m) = m

unfoldable pub front_bytes : Ty → List ℕ
front_bytes (Ts k) = []
front_bytes (Tv n k) = 86 ∷ 118 ∷ n ∷ []
front_bytes (Tm c r k) = 86 ∷ 109 ∷ c ∷ r ∷ []
front_bytes (Ta n t) = 86 ∷ 97 ∷ le 2 n
front_bytes (Tu i m) = 86 ∷ 117 ∷ le 2 i ++ le 2 (length (tys_list m))

pub record Apart (v : Val) : Type 0 where
  pub parts : Vals
  pub types : types_of parts ≡ parts_of (type_of v)
  pub bytes : val_bytes v ≡ front_bytes (type_of v) ++ vals_bytes parts
  pub shaped : T (shaped_vals parts)

pub record Joined (t : Ty) (l : Vals) : Type 0 where
  pub value : Val
  pub type : type_of value ≡ t
  pub bytes : val_bytes value ≡ front_bytes t ++ vals_bytes l
  pub shaped : T (shaped_val value)

-- ---- literals

-- values whose bytes are the lists of l, each written by f, and whose types are n times t
record Made {A : Type 0} (f : A → List ℕ) (l : List A) (n : ℕ) (t : Ty) : Type 0 where
  values : Vals
  types : types_of values ≡ copies n t
  bytes : joined f l ≡ vals_bytes values
  shaped : T (shaped_vals values)

lits_apart : (k : Kind) (ps : List ℕ) → T (every (good_lit k) ps) → Made (lit_bytes k) ps (length ps) (Ts k)
unfolding every joined types_of copies vals_bytes shaped_vals val_bytes shaped_val type_of
lits_apart k [] g = record { values = ⟨⟩; types = refl; bytes = refl; shaped = tt }
lits_apart k (p ∷ ps) g =
    let x = lits_apart k ps (and_r (good_lit k p) (every (good_lit k) ps) g) in
    record {
      values = Vs k p ▹ x.values;
      types = ap (λ (m : Tys). Ts k ▸ m) x.types;
      bytes = ap (λ (b : List ℕ). lit_bytes k p ++ b) x.bytes;
      shaped = both (good_lit k p) (shaped_vals x.values) (and_l (good_lit k p) (every (good_lit k) ps) g) x.shaped;
    }

record Lits (k : Kind) (n : ℕ) (l : Vals) : Type 0 where
  payloads : List ℕ
  count : length payloads ≡ n
  bytes : vals_bytes l ≡ joined (lit_bytes k) payloads
  good : T (every (good_lit k) payloads)

lits_join : (k : Kind) (n : ℕ) (l : Vals) → types_of l ≡ copies n (Ts k) → T (shaped_vals l) → Lits k n l
unfolding every joined types_of copies vals_bytes shaped_vals
lits_join k zero ⟨⟩ q g = record { payloads = []; count = refl; bytes = refl; good = tt }
lits_join k zero (v ▹ l) q g = absurd (let z : ◌≡◌ {A = ℕ} 0 1 = cc in omega arith)
lits_join k (suc n) ⟨⟩ q g = absurd (let z : ◌≡◌ {A = ℕ} 0 1 = cc in omega arith)
lits_join k (suc n) (v ▹ l) q g =
    let x = lit_is k v (cc) in
    let p = x.payload in
    let y = lits_join k n l (cc) (and_r (shaped_val v) (shaped_vals l) g) in
    record {
      payloads = p ∷ y.payloads;
      count = ap suc y.count;
      bytes = ap₂ ◌++◌ (lit_bytes_lem v p x.is) y.bytes;
      good = both (good_lit k p) (every (good_lit k) y.payloads) (lit_good v p x.is (and_l (shaped_val v) (shaped_vals l) g)) y.good;
    }
  where
    lit_bytes_lem : (v : Val) (p : ℕ) → v ≡ Vs k p → val_bytes v ≡ lit_bytes k p
    lit_bytes_lem v p e = ap val_bytes e

    lit_good : (v : Val) (p : ℕ) → v ≡ Vs k p → T (shaped_val v) → T (good_lit k p)
    lit_good v p e h = subst (λ (x : Val). T (shaped_val x)) e h

-- ---- columns

cols_apart : (k : Kind) (c r : ℕ) (ps : List ℕ) → length ps ≡ c * r → T (every (good_lit k) ps)
    → Made (vec_bytes k) (columns c r ps) c (Tv r k)
unfolding joined columns types_of copies vals_bytes shaped_vals val_bytes shaped_val type_of
cols_apart k zero r ps h g = record { values = ⟨⟩; types = refl; bytes = refl; shaped = tt }
cols_apart k (suc c) r ps h g =
    let x = cols_apart k c r (drop r ps) (drop_len c r ps h) (every_drop (good_lit k) r ps g) in
    record {
      values = Vv k (take r ps) ▹ x.values;
      types = ap₂ (λ (n : ℕ) (m : Tys). Tv n k ▸ m) (take_len c r ps h) x.types;
      bytes = ap (λ (b : List ℕ). vec_bytes k (take r ps) ++ b) x.bytes;
      shaped = both (every (good_lit k) (take r ps)) (shaped_vals x.values) (every_take (good_lit k) r ps g) x.shaped;
    }

record VecIs (k : Kind) (n : ℕ) (v : Val) : Type 0 where
  payloads : List ℕ
  is : v ≡ Vv k payloads
  count : length payloads ≡ n

vec_is : (k : Kind) (n : ℕ) (v : Val) → type_of v ≡ Tv n k → VecIs k n v
unfolding type_of
vec_is k n (Vv j ps) q = let i : j ≡ k = cc in record { payloads = ps; is = rw i; count = cc }
vec_is k n (Vs j p) q = absurd (let z : ◌≡◌ {A = ℕ} 0 1 = cc in omega arith)
vec_is k n (Vm c r j ps) q = absurd (let z : ◌≡◌ {A = ℕ} 0 1 = cc in omega arith)
vec_is k n (Va l) q = absurd (let z : ◌≡◌ {A = ℕ} 0 1 = cc in omega arith)
vec_is k n (Vu i l) q = absurd (let z : ◌≡◌ {A = ℕ} 0 1 = cc in omega arith)

record Cols (k : Kind) (c r : ℕ) (l : Vals) : Type 0 where
  payloads : List ℕ
  count : length payloads ≡ c * r
  bytes : vals_bytes l ≡ joined (vec_bytes k) (columns c r payloads)
  good : T (every (good_lit k) payloads)

cols_join : (k : Kind) (c r : ℕ) (l : Vals) → types_of l ≡ copies c (Tv r k) → T (shaped_vals l) → Cols k c r l
unfolding every joined columns types_of copies vals_bytes shaped_vals
cols_join k zero r ⟨⟩ q g = record { payloads = []; count = sym (zero-mul r); bytes = refl; good = tt }
cols_join k zero r (v ▹ l) q g = absurd (let z : ◌≡◌ {A = ℕ} 0 1 = cc in omega arith)
cols_join k (suc c) r ⟨⟩ q g = absurd (let z : ◌≡◌ {A = ℕ} 0 1 = cc in omega arith)
cols_join k (suc c) r (v ▹ l) q g =
    let x = vec_is k r v (cc) in
    let y = cols_join k c r l (cc) (and_r (shaped_val v) (shaped_vals l) g) in
    let a = x.payloads in
    let b = y.payloads in
    record {
      payloads = a ++ b;
      count = length-append a b ∙ omega (arith, x.count, y.count, suc-mul c r);
      bytes = rw (take_at a b r x.count, drop_at a b r x.count) (ap₂ ◌++◌ (vec_bytes_lem v a x.is) y.bytes);
      good = subst T (sym (every_append (good_lit k) a b)) (both (every (good_lit k) a) (every (good_lit k) b)
          (vec_good v a x.is (and_l (shaped_val v) (shaped_vals l) g)) y.good);
    }
  where
    vec_bytes_lem : (v : Val) (ps : List ℕ) → v ≡ Vv k ps → val_bytes v ≡ vec_bytes k ps
    vec_bytes_lem v ps e = ap val_bytes e

    vec_good : (v : Val) (ps : List ℕ) → v ≡ Vv k ps → T (shaped_val v) → T (every (good_lit k) ps)
    vec_good v ps e h = subst (λ (x : Val). T (shaped_val x)) e h

-- ---- elements

all_copies : (t : Ty) (l : Vals) → AllTy t l → types_of l ≡ copies (count_vals l) t
unfolding types_of copies count_vals
all_copies t ⟨⟩ a = refl
all_copies t (v ▹ l) a = ap₂ ◌▸◌ a.0 (all_copies t l a.1)

copies_all : (t : Ty) (n : ℕ) (l : Vals) → types_of l ≡ copies n t → AllTy t l × (count_vals l ≡ n)
unfolding types_of copies count_vals
copies_all t zero ⟨⟩ q = (tt, refl)
copies_all t zero (v ▹ l) q = absurd (let z : ◌≡◌ {A = ℕ} 0 1 = cc in omega arith)
copies_all t (suc n) ⟨⟩ q = absurd (let z : ◌≡◌ {A = ℕ} 0 1 = cc in omega arith)
copies_all t (suc n) (v ▹ l) q = let r = copies_all t n l (cc) in (((cc), r.0), ap suc r.1)

-- ---- a value and its parts

pub apart : (v : Val) → T (shaped_val v) → Parted (type_of v) → Apart v
unfolding parts_of front_bytes type_of val_bytes shaped_val vec_bytes le
apart (Vs k p) g h = absurd h
apart (Vv k ps) g h = let x = lits_apart k ps g in record {
  parts = x.values;
  types = x.types;
  bytes = ap
      (λ (b : List ℕ). 86 ∷ 118 ∷ length ps ∷ b) x.bytes;
  shaped = x.shaped;
}
apart (Vm c r k ps) g h =
    let x = cols_apart k c r ps (eqb→eq (length ps) (c * r) (and_r (every (good_lit k) ps) (eqb (length ps) (c * r)) g))
    (and_l (every (good_lit k) ps) (eqb (length ps) (c * r)) g) in
    record { parts = x.values; types = x.types; bytes = ap (λ (b : List ℕ). 86 ∷ 109 ∷ c ∷ r ∷ b) x.bytes; shaped = x.shaped }
apart (Va l) g h =
    record {
      parts = l;
      types = all_copies (first (types_of l)) l (all_first l (and_l (all_same (types_of l)) (shaped_vals l) g));
      bytes = refl;
      shaped = and_r (all_same (types_of l)) (shaped_vals l) g;
    }
apart (Vu i l) g h = record { parts = l; types = refl; bytes = rw (count_types l); shaped = g }

pub join : (t : Ty) → Parted t → (l : Vals) → types_of l ≡ parts_of t → T (shaped_vals l) → Joined t l
unfolding parts_of front_bytes type_of val_bytes shaped_val vec_bytes le
join (Ts k) h l q g = absurd h
join (Tv n k) h l q g =
    let x = lits_join k n l q g in
    record {
      value = Vv k x.payloads;
      type = ap (λ (i : ℕ). Tv i k) x.count;
      bytes = ap₂ (λ (i : ℕ) (b : List ℕ). 86 ∷ 118 ∷ i ∷ b)
          x.count (sym x.bytes);
      shaped = x.good;
    }
join (Tm c r k) h l q g =
    let x = cols_join k c r l q g in
    let e : T (eqb (length x.payloads) (c * r)) = subst (λ (i : ℕ). T (eqb (length x.payloads) i)) x.count
    (eqb_refl (length x.payloads)) in
    record {
      value = Vm c r k x.payloads;
      type = refl;
      bytes = ap (λ (b : List ℕ). 86 ∷ 109 ∷ c ∷ r ∷ b) (sym x.bytes);
      shaped = both
          (every (good_lit k) x.payloads) (eqb (length x.payloads) (c * r)) x.good e;
    }
join (Ta n t) h l q g =
    let x = copies_all t n l q in
    let i : count_vals l ≡ n = x.1 in
    record {
      value = Va l;
      type = ap₂ Ta i (first_all t l x.0 (le→leb 1 (count_vals l) (omega arith)));
      bytes = rw i;
      shaped = both (all_same (types_of l)) (shaped_vals l) (all_same_lem t l x.0) g;
    }
join (Tu i m) h l q g =
    let n : length (tys_list m) ≡ count_vals l = ap (λ (x : Tys). length (tys_list x)) (sym q) ∙ count_types l in
    record { value = Vu i l; type = ap (Tu i) q; bytes = rw n; shaped = g }
