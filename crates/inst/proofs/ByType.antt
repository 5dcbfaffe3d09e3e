-- Reading by a type that stands in another list of bytes: the steps of the walk.
use mathlib.Core.Path.{◌≡◌, sym, ap, subst}
use mathlib.Core.List.{List, [], ◌∷◌}
use Prim.Native.Nat.{ℕ, ◌+◌, ◌-◌, ◌/◌, ◌%◌, ◌≤◌, ◌<◌}
use native.Mathlib.Omega.{arith}
use lib.ListN.{length}
use Rattle.meaning.specs.Kinds.{Kind, kind_no}
use Rattle.meaning.specs.Trees.{Ty, Ts, Tv, Tm, Ta, Tu, Tys}
use Rattle.meaning.specs.Records.{le}
use Rattle.ty.specs.Stands.{Stands, StandAll, Standing}
use Rattle.ty.specs.TypeFronts.{Same, kind_number}
use Rattle.ty.specs.Heads.{head_of, HeadAt}
use Rattle.ty.specs.declared.Head.TheVariants.{Scalar, Vector, Matrix, Array, Struct}
use Rattle.ty.proofs.Heads.{scalar_is, vector_is, matrix_is, array_is, struct_is, first_is, none_is, StructIs, FirstIs}
use Rattle.ty.proofs.Numbers.{is_number}
use Rattle.ty.proofs.Walks.{same_trans}
use Rattle.record.specs.Bytes.{Starts}
use Rattle.inst.specs.Values.{Fits, FitsAll, copies}
use Rattle.inst.specs.Reading.{Told, Says, ReadAs, ReadEach, ReadAll, Literals, LiteralAt, VectorAt, Columns, MatrixAt}
use Rattle.inst.proofs.ValueRows.{pair_of, says_as, says_pair, nil_fits, one_on, none_on}
use Rattle.inst.proofs.ValueParts.{parts_of, front_bytes}
use Rattle.inst.proofs.Starts.{fits_starts, parts_same}
use lib.Dec.{T}
use Rattle.std.specs.declared.option.Option.{Option}
use Rattle.std.specs.declared.option.Option.TheVariants.{None, Some}

-- ---- the kind of a scalar's, a vector's and a matrix's type is one

number : (k : ℕ) (j : Kind) → k ≡ kind_no j → T (kind_number k)
number k j p = subst (λ (n : ℕ). T (kind_number n)) (sym p) (is_number j)

module _ {d : ℕ} {ty : List ℕ} {o : ℕ} (p : Standing d ty o) where
  pub scalar_kind : {k : ℕ} → HeadAt d ty o (Scalar k) → T (kind_number k)
  scalar_kind h = let x = scalar_is p.stands (h p.type p.end p.stands) in number _ x.kind x.no

  pub vector_kind : {n k : ℕ} → HeadAt d ty o (Vector n k) → T (kind_number k)
  vector_kind h = let x = vector_is p.stands (h p.type p.end p.stands) in number _ x.kind x.no

  pub matrix_kind : {c w k : ℕ} → HeadAt d ty o (Matrix c w k) → T (kind_number k)
  matrix_kind h = let x = matrix_is p.stands (h p.type p.end p.stands) in number _ x.kind x.no

-- ---- a value by its type's front

module _ (s : List ℕ) (at : ℕ) where
  -- X holds of the type t, which is g of some kind
  leaf_says : (X : Ty → ℕ → Type 0) (Q : ℕ → Type 0) (g : Kind → Ty) (j : Kind) (k : ℕ) (t : Ty) (v : Option ℕ) (z : ℕ) → k ≡ kind_no j
      → t ≡ g j → Q z
      → ((i : Kind) → k ≡ kind_no i → Told (X (g i)) v) → Says (X t) Q (pair_of v z)
  leaf_says X Q g j k t v z p i e f = rw i (says_pair (X (g j)) Q v z (f j p) e)

  module _ {d : ℕ} {ty : List ℕ} {o : ℕ} {t : Ty} {q : ℕ} (w : Stands d ty o t q) where
    pub scalar_says : {k : ℕ} (v : Option ℕ) → Scalar k ≡ head_of t → LiteralAt s at k v → Says (Fits s at t) (λ z. z ≡ q) (pair_of v (o + 3))
    scalar_says {k} v h f = let x = scalar_is w h in leaf_says (Fits s at) (λ z. z ≡ q) Ts x.kind k t v (o + 3) x.no x.is x.end f

    pub scalars_say : (n : ℕ) {k : ℕ} (v : Option ℕ) → Scalar k ≡ head_of t → Literals s at n k v
        → Says (FitsAll s at (copies n t)) (λ z. 1 ≤ n → z ≡ q) (pair_of v (o + 3))
    scalars_say n {k} v h f = let x = scalar_is w h in leaf_says (λ u. FitsAll s at (copies n u)) (λ z. 1 ≤ n → z ≡ q) Ts x.kind k t v
        (o + 3) x.no x.is (λ i. x.end) f

    pub vector_says : {n k : ℕ} (v : Option ℕ) → Vector n k ≡ head_of t → VectorAt s at n k v
        → Says (Fits s at t) (λ z. z ≡ q) (pair_of v (o + 6))
    vector_says {n} {k} v h f = let x = vector_is w h in leaf_says (Fits s at) (λ z. z ≡ q) (Tv n) x.kind k t v (o + 6) x.no x.is
        x.end f

    pub vectors_say : (n : ℕ) {r k : ℕ} (v : Option ℕ) → Vector r k ≡ head_of t → Columns s at n r k v
        → Says (FitsAll s at (copies n t)) (λ z. 1 ≤ n → z ≡ q) (pair_of v (o + 6))
    vectors_say n {r} {k} v h f = let x = vector_is w h in leaf_says (λ u. FitsAll s at (copies n u)) (λ z. 1 ≤ n → z ≡ q) (Tv r) x.kind k t
        v (o + 6) x.no x.is (λ i. x.end) f

    pub matrix_says : {c r k : ℕ} (v : Option ℕ) → Matrix c r k ≡ head_of t → MatrixAt s at c r k v
        → Says (Fits s at t) (λ z. z ≡ q) (pair_of v (o + 7))
    matrix_says {c} {r} {k} v h f = let x = matrix_is w h in leaf_says (Fits s at) (λ z. z ≡ q) (Tm c r) x.kind k t v (o + 7) x.no x.is
        x.end f

    module _ {n : ℕ} (h : Array n ≡ head_of t) where
      pub array_unlike : (Starts s at (86 ∷ 97 ∷ n % 256 ∷ n / 256 % 256 ∷ []) → ⊥) → (e : ℕ) → Fits s at t e → ⊥
      unfolding front_bytes le
      array_unlike f e v = let x = array_is w h in f (fits_starts s at (Ta n x.elem) x.some e
          (subst (λ (u : Ty). Fits s at u e) x.is v))

      pub array_says : (r : Option (ℕ × ℕ)) → Starts s at (86 ∷ 97 ∷ n % 256 ∷ n / 256 % 256 ∷ []) → ReadEach (d - 1) ty (o + 4) s (at + 4) n r
          → Says (Fits s at t) (λ z. z ≡ q) r
      unfolding front_bytes parts_of le
      array_says r b f =
          let x = array_is w h in
          rw x.is (says_as (parts_same s at (Ta n x.elem) x.some b) (λ z g. g x.some) r (f x.elem q x.part))

    module _ {i n : ℕ} (h : Struct i n ≡ head_of t) where
      struct_front_lem : (x : StructIs d ty o i n t q) → front_bytes (Tu i x.members) ≡ 86 ∷ 117 ∷ i % 256 ∷ i / 256 % 256 ∷ n % 256 ∷ n /
          256 % 256 ∷ []
      unfolding front_bytes le
      struct_front_lem x = rw x.parts.count

      pub struct_unlike : (Starts s at (86 ∷ 117 ∷ i % 256 ∷ i / 256 % 256 ∷ n % 256 ∷ n / 256 % 256 ∷ []) → ⊥) → (e : ℕ) → Fits s at t e
          → ⊥
      struct_unlike f e v =
          let x = struct_is w h in
          f (subst (Starts s at) (struct_front_lem x) (fits_starts s at (Tu i x.members) tt e (subst (λ (u : Ty). Fits s at u e) x.is v)))

      pub struct_says : (r : Option (ℕ × ℕ)) → Starts s at (86 ∷ 117 ∷ i % 256 ∷ i / 256 % 256 ∷ n % 256 ∷ n / 256 % 256 ∷ [])
          → ReadAll (d - 1) ty (o + 6) s (at + 6) n r → Says (Fits s at t) (λ z. z ≡ q) r
      unfolding parts_of
      struct_says r b f =
          let x = struct_is w h in
          let m = x.members in
          let c : length (front_bytes (Tu i m)) ≡ 6 = ap length (struct_front_lem x) in
          let g : Same (FitsAll s (at + 6) m) (Fits s at (Tu i m)) =
          subst (λ (k : ℕ). Same (FitsAll s (at + k) m) (Fits s at (Tu i m))) c
          (parts_same s at (Tu i m) tt (subst (Starts s at) (sym (struct_front_lem x)) b)) in
          rw x.is (says_as g (λ z y. y) r (f m q x.parts))

-- ---- the loop over members: what is left of them

pub record MembersLeft (d : ℕ) (ty s : List ℕ) (at : ℕ) (m₀ : Tys) (q₀ i q left : ℕ) : Type 0 where
  pub types : Tys
  pub stands : StandAll d ty q left types q₀
  pub same : Same (FitsAll s i types) (FitsAll s at m₀)

module _ {d : ℕ} {ty s : List ℕ} {at : ℕ} {m₀ : Tys} {q₀ i q left : ℕ} (w : MembersLeft d ty s at m₀ q₀ i q left) where
  module _ (h : 0 < left) where
    firstly : FirstIs d ty q left w.types q₀
    firstly = first_is w.stands h

    pub left_first : Standing d ty q
    left_first = record { type = firstly.type; end = firstly.mid; stands = firstly.first }

    pub left_none : ReadAs d ty q s i None → (e : ℕ) → FitsAll s at m₀ e → ⊥
    left_none r e v =
        none_on s i firstly.type firstly.others (r firstly.type firstly.mid firstly.first) e
        (subst (λ (m : Tys). FitsAll s i m e) firstly.is ((w.same e).1 v))

  pub left_again : {m e p : ℕ} → left ≡ m + 1 → ReadAs d ty q s i (Some (e, p)) → MembersLeft d ty s at m₀ q₀ e p m
  left_again {m} {e} h r =
      let k : 0 < left = omega arith in
      let l : left - 1 ≡ m = omega arith in
      let f = firstly k in
      let x = r f.type f.mid f.first in
      record {
        types = f.others;
        stands = rw x.1 (rw l at f.rest);
        same = same_trans (one_on s i f.type f.others e x.0)
            (subst (λ (z : Tys). Same (FitsAll s i z) (FitsAll s at m₀)) f.is w.same);
      }

  pub left_end : left ≡ 0 → i ≤ length s → FitsAll s at m₀ i × (q ≡ q₀)
  left_end h l =
      let x = none_is w.stands h in
      ((w.same i).0 (subst (λ (m : Tys). FitsAll s i m i) (sym x.0) (nil_fits s i l)), x.1)
