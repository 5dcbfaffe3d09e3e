-- A type's record that stands at a place, by its mark or by its front: what its parts are, and where they stand.
use mathlib.Core.Path.{◌≡◌, refl, sym, ap, ◌∙◌, subst}
use mathlib.Core.List.{List, [], ◌∷◌, ◌++◌, append_assoc}
use mathlib.Core.Bool.{◌&&◌}
use Prim.Native.Nat.{ℕ, ◌+◌, ◌-◌, ◌*◌, ◌≤◌, ◌<◌, ◌/◌, ◌%◌}
use native.Mathlib.Omega.{arith}
use lib.Dec.{leb, leb→le}
use lib.ListN.{length, get_or, drop, length-append}
use Rattle.meaning.specs.Kinds.{Kind, kind_no}
use Rattle.meaning.specs.Trees.{Ty, Ts, Tv, Tm, Ta, Tu, Tys, [·], ◌▸◌, tys_list, depth, depths}
use Rattle.meaning.specs.Records.{‘s’, ‘v’, ‘m’, ‘a’, ‘u’, ty_bytes, tys_bytes, shaped_ty, shaped_tys, u16, le}
use Rattle.laws.proofs.Back.{and_l, and_r, two_bytes}
use Rattle.ty.specs.Stands.{Stands, StandAll, Standing}
use Rattle.ty.specs.Heads.{head_of, HeadAt}
use Rattle.ty.specs.declared.Head.{Head}
use Rattle.ty.specs.declared.Head.TheVariants.{Scalar, Vector, Matrix, Array, Struct}
use Rattle.record.proofs.Places.{at_of, past}

-- ---- what each front says of the type t that stands at `at` and ends at e

module _ (d : ℕ) (s : List ℕ) (at : ℕ) where
  pub record ScalarIs (k : ℕ) (t : Ty) (e : ℕ) : Type 0 where
    pub kind : Kind
    pub no : k ≡ kind_no kind
    pub is : t ≡ Ts kind
    pub end : at + 3 ≡ e

  pub record VectorIs (n k : ℕ) (t : Ty) (e : ℕ) : Type 0 where
    pub kind : Kind
    pub no : k ≡ kind_no kind
    pub is : t ≡ Tv n kind
    pub end : at + 6 ≡ e

  pub record MatrixIs (c r k : ℕ) (t : Ty) (e : ℕ) : Type 0 where
    pub kind : Kind
    pub no : k ≡ kind_no kind
    pub is : t ≡ Tm c r kind
    pub end : at + 7 ≡ e

  pub record ArrayIs (n : ℕ) (t : Ty) (e : ℕ) : Type 0 where
    pub elem : Ty
    pub is : t ≡ Ta n elem
    pub part : Stands (d - 1) s (at + 4) elem e
    pub some : 1 ≤ n
    pub deep : 1 ≤ d
    pub room : at + 4 ≤ e

  pub record StructIs (i n : ℕ) (t : Ty) (e : ℕ) : Type 0 where
    pub members : Tys
    pub is : t ≡ Tu i members
    pub parts : StandAll (d - 1) s (at + 6) n members e
    pub deep : 1 ≤ d
    pub room : at + 6 ≤ e

-- ---- by the mark

mark_of_lem : Head → ℕ
mark_of_lem (Scalar k) = ‘s’
mark_of_lem (Vector n k) = ‘v’
mark_of_lem (Matrix c r k) = ‘m’
mark_of_lem (Array n) = ‘a’
mark_of_lem (Struct i n) = ‘u’

module _ {d : ℕ} {s : List ℕ} {at : ℕ} where
  mark_is : {t : Ty} {e : ℕ} → Stands d s at t e → get_or s (at + 1) 0 ≡ mark_of_lem (head_of t)
  unfolding mark_of_lem head_of ty_bytes
  mark_is {t = Ts k} w = at_of s _ at w.here 1
  mark_is {t = Tv n k} w = at_of s _ at w.here 1
  mark_is {t = Tm c r k} w = at_of s _ at w.here 1
  mark_is {t = Ta n u} w = at_of s _ at w.here 1
  mark_is {t = Tu i m} w = at_of s _ at w.here 1

  -- a record is at least as long as a scalar's
  pub any_front : {t : Ty} {e : ℕ} → Stands d s at t e → at + 3 ≤ length s
  unfolding ty_bytes le
  any_front {t = Ts k} w = omega (arith, w.size, w.within)
  any_front {t = Tv n k} w = omega (arith, w.size, w.within)
  any_front {t = Tm c r k} w = omega (arith, w.size, w.within)
  any_front {t = Ta n u} w = omega (arith, w.size, w.within)
  any_front {t = Tu i m} w = omega (arith, w.size, w.within)

  pub scalar_by : {t : Ty} {e : ℕ} → Stands d s at t e → get_or s (at + 1) 0 ≡ ‘s’ → ScalarIs d s at (get_or s (at + 2) 0) t e
  unfolding mark_of_lem head_of ty_bytes
  scalar_by {t = Ts k} w g = record { kind = k; no = at_of s _ at w.here 2; is = refl; end = sym w.size }
  scalar_by {t = Tv n k} w g = absurd (omega (arith, mark_is w))
  scalar_by {t = Tm c r k} w g = absurd (omega (arith, mark_is w))
  scalar_by {t = Ta n u} w g = absurd (omega (arith, mark_is w))
  scalar_by {t = Tu i m} w g = absurd (omega (arith, mark_is w))

  pub vector_by : {t : Ty} {e : ℕ} → Stands d s at t e → get_or s (at + 1) 0 ≡ ‘v’
      → VectorIs d s at (get_or s (at + 2) 0) (get_or s (at + 5) 0) t e
  unfolding mark_of_lem head_of ty_bytes
  vector_by {t = Tv n k} w g = record { kind = k; no = at_of s _ at w.here 5; is = rw (at_of s _ at w.here 2); end = sym w.size }
  vector_by {t = Ts k} w g = absurd (omega (arith, mark_is w))
  vector_by {t = Tm c r k} w g = absurd (omega (arith, mark_is w))
  vector_by {t = Ta n u} w g = absurd (omega (arith, mark_is w))
  vector_by {t = Tu i m} w g = absurd (omega (arith, mark_is w))

  pub matrix_by : {t : Ty} {e : ℕ} → Stands d s at t e → get_or s (at + 1) 0 ≡ ‘m’
      → MatrixIs d s at (get_or s (at + 2) 0) (get_or s (at + 3) 0) (get_or s (at + 6) 0) t e
  unfolding mark_of_lem head_of ty_bytes
  matrix_by {t = Tm c r k} w g = record {
    kind = k;
    no = at_of s _ at w.here 6;
    is = rw (at_of s _ at w.here 2, at_of s _ at w.here 3);
    end = sym w.size;
  }
  matrix_by {t = Ts k} w g = absurd (omega (arith, mark_is w))
  matrix_by {t = Tv n k} w g = absurd (omega (arith, mark_is w))
  matrix_by {t = Ta n u} w g = absurd (omega (arith, mark_is w))
  matrix_by {t = Tu i m} w g = absurd (omega (arith, mark_is w))

  pub array_by : {t : Ty} {e : ℕ} → Stands d s at t e → get_or s (at + 1) 0 ≡ ‘a’
      → ArrayIs d s at (get_or s (at + 2) 0 + 256 * get_or s (at + 3) 0) t e
  unfolding mark_of_lem head_of ty_bytes le shaped_ty u16 depth
  array_by {t = Ta n u} {e} w g =
      let c = and_l (leb 1 n && leb n 65535) (shaped_ty u) w.shaped in
      let least : 1 ≤ n = leb→le 1 n (and_l (leb 1 n) (leb n 65535) c) in
      let most : n ≤ 65535 = leb→le n 65535 (and_r (leb 1 n) (leb n 65535) c) in
      let q : get_or s (at + 2) 0 + 256 * get_or s (at + 3) 0 ≡ n = rw (at_of s _ at w.here 2, at_of s _ at w.here 3)
      (two_bytes n most) in
      record {
        elem = u;
        is = rw q;
        part = record {
          here = past s (84 ∷ 97 ∷ n % 256 ∷ n / 256 % 256 ∷ []) (ty_bytes u ++ drop e s) at w.here;
          size = omega (arith, w.size);
          within = w.within;
          shaped = and_r (leb 1 n && leb n 65535) (shaped_ty u) w.shaped;
          deep = omega (arith, w.deep);
        };
        some = omega arith;
        deep = omega (arith, w.deep);
        room = omega (arith, w.size);
      }
  array_by {t = Ts k} w g = absurd (omega (arith, mark_is w))
  array_by {t = Tv n k} w g = absurd (omega (arith, mark_is w))
  array_by {t = Tm c r k} w g = absurd (omega (arith, mark_is w))
  array_by {t = Tu i m} w g = absurd (omega (arith, mark_is w))

  pub struct_by : {t : Ty} {e : ℕ} → Stands d s at t e → get_or s (at + 1) 0 ≡ ‘u’
      → StructIs d s at (get_or s (at + 2) 0 + 256 * get_or s (at + 3) 0) (get_or s (at + 4) 0 + 256 * get_or s (at + 5) 0) t e
  unfolding mark_of_lem head_of ty_bytes le shaped_ty u16 depth
  struct_by {t = Tu i m} {e} w g =
      let n : ℕ = length (tys_list m) in
      let c = and_l (leb i 65535 && leb 1 n && leb n 1023) (shaped_tys m) w.shaped in
      let il : i ≤ 65535 = leb→le i 65535 (and_l (leb i 65535) (leb 1 n) (and_l (leb i 65535 && leb 1 n) (leb n 1023) c)) in
      let nl : n ≤ 1023 = leb→le n 1023 (and_r (leb i 65535 && leb 1 n) (leb n 1023) c) in
      let p : get_or s (at + 2) 0 + 256 * get_or s (at + 3) 0 ≡ i = rw (at_of s _ at w.here 2, at_of s _ at w.here 3) (two_bytes i il) in
      let q : get_or s (at + 4) 0 + 256 * get_or s (at + 5) 0 ≡ n = rw (at_of s _ at w.here 4, at_of s _ at w.here 5)
      (two_bytes n (omega arith)) in
      record {
        members = m;
        is = rw p;
        parts = record {
          here = past s (84 ∷ 117 ∷ i % 256 ∷ i / 256 % 256 ∷ n % 256 ∷ n / 256 % 256 ∷ []) (tys_bytes m ++ drop e s) at w.here;
          size = omega (arith, w.size);
          within = w.within;
          shaped = and_r (leb i 65535 && leb 1 n && leb n 1023) (shaped_tys m) w.shaped;
          deep = omega (arith, w.deep);
          count = sym q;
        };
        deep = omega (arith, w.deep);
        room = omega (arith, w.size);
      }
  struct_by {t = Ts k} w g = absurd (omega (arith, mark_is w))
  struct_by {t = Tv n k} w g = absurd (omega (arith, mark_is w))
  struct_by {t = Tm c r k} w g = absurd (omega (arith, mark_is w))
  struct_by {t = Ta n u} w g = absurd (omega (arith, mark_is w))

  -- none of the other marks
  pub last_mark : {t : Ty} {e : ℕ} → Stands d s at t e → (get_or s (at + 1) 0 ≡ ‘s’ → ⊥) → (get_or s (at + 1) 0 ≡ ‘v’ → ⊥)
      → (get_or s (at + 1) 0 ≡ ‘m’ → ⊥)
      → (get_or s (at + 1) 0 ≡ ‘a’ → ⊥) → get_or s (at + 1) 0 ≡ ‘u’
  unfolding mark_of_lem head_of
  last_mark {t = Ts k} w f g h i = absurd (f (mark_is w))
  last_mark {t = Tv n k} w f g h i = absurd (g (mark_is w))
  last_mark {t = Tm c r k} w f g h i = absurd (h (mark_is w))
  last_mark {t = Ta n u} w f g h i = absurd (i (mark_is w))
  last_mark {t = Tu j m} w f g h i = mark_is w

  -- by the mark there is room for the whole front
  pub vector_room : {t : Ty} {e : ℕ} → Stands d s at t e → get_or s (at + 1) 0 ≡ ‘v’ → at + 6 ≤ length s
  vector_room w g = let x = vector_by w g in omega (arith, w.within)

  pub matrix_room : {t : Ty} {e : ℕ} → Stands d s at t e → get_or s (at + 1) 0 ≡ ‘m’ → at + 7 ≤ length s
  matrix_room w g = let x = matrix_by w g in omega (arith, w.within)

  pub array_room : {t : Ty} {e : ℕ} → Stands d s at t e → get_or s (at + 1) 0 ≡ ‘a’ → at + 4 ≤ length s
  array_room w g = let x = array_by w g in omega (arith, w.within)

  pub struct_room : {t : Ty} {e : ℕ} → Stands d s at t e → (get_or s (at + 1) 0 ≡ ‘s’ → ⊥) → (get_or s (at + 1) 0 ≡ ‘v’ → ⊥)
      → (get_or s (at + 1) 0 ≡ ‘m’ → ⊥) → (get_or s (at + 1) 0 ≡ ‘a’ → ⊥) → at + 6 ≤ length s
  struct_room w f g h i = let x = struct_by w (last_mark w f g h i) in omega (arith, w.within)

  -- ---- the front that the bytes say

  module _ {t : Ty} {e : ℕ} where
    pub scalar_head : {k : ℕ} → ScalarIs d s at k t e → Scalar k ≡ head_of t
    unfolding head_of
    scalar_head x = ap Scalar x.no ∙ ap head_of (sym x.is)

    pub vector_head : {n k : ℕ} → VectorIs d s at n k t e → Vector n k ≡ head_of t
    unfolding head_of
    vector_head {n} x = ap (Vector n) x.no ∙ ap head_of (sym x.is)

    pub matrix_head : {c r k : ℕ} → MatrixIs d s at c r k t e → Matrix c r k ≡ head_of t
    unfolding head_of
    matrix_head {c} {r} x = ap (Matrix c r) x.no ∙ ap head_of (sym x.is)

    pub array_head : {n : ℕ} → ArrayIs d s at n t e → Array n ≡ head_of t
    unfolding head_of
    array_head x = ap head_of (sym x.is)

    pub struct_head : {i n : ℕ} → StructIs d s at i n t e → Struct i n ≡ head_of t
    unfolding head_of
    struct_head {i} x = ap (Struct i) (sym x.parts.count) ∙ ap head_of (sym x.is)

  -- ---- by the front

  module _ {t : Ty} {e : ℕ} (w : Stands d s at t e) where
    pub scalar_is : {k : ℕ} → Scalar k ≡ head_of t → ScalarIs d s at k t e
    unfolding mark_of_lem head_of
    scalar_is h = let x = scalar_by w (mark_is w ∙ ap mark_of_lem (sym h)) in
        record { kind = x.kind; no = cc (ap head_of x.is); is = x.is; end = x.end }

    pub vector_is : {n k : ℕ} → Vector n k ≡ head_of t → VectorIs d s at n k t e
    unfolding mark_of_lem head_of
    vector_is h = let x = vector_by w (mark_is w ∙ ap mark_of_lem (sym h)) in
        record { kind = x.kind; no = cc (ap head_of x.is); is = cc (ap head_of x.is, x.is); end = x.end }

    pub matrix_is : {c r k : ℕ} → Matrix c r k ≡ head_of t → MatrixIs d s at c r k t e
    unfolding mark_of_lem head_of
    matrix_is h = let x = matrix_by w (mark_is w ∙ ap mark_of_lem (sym h)) in
        record { kind = x.kind; no = cc (ap head_of x.is); is = cc (ap head_of x.is, x.is); end = x.end }

    pub array_is : {n : ℕ} → Array n ≡ head_of t → ArrayIs d s at n t e
    unfolding mark_of_lem head_of
    array_is {n} h =
        let x = array_by w (mark_is w ∙ ap mark_of_lem (sym h)) in
        let q : get_or s (at + 2) 0 + 256 * get_or s (at + 3) 0 ≡ n = cc (array_head x) in
        subst (λ (j : ℕ). ArrayIs d s at j t e) q x

    pub struct_is : {i n : ℕ} → Struct i n ≡ head_of t → StructIs d s at i n t e
    unfolding mark_of_lem
    struct_is {i} {n} h =
        let x = struct_by w (mark_is w ∙ ap mark_of_lem (sym h)) in
        let y = struct_head x in
        let p : get_or s (at + 2) 0 + 256 * get_or s (at + 3) 0 ≡ i = cc in
        let q : get_or s (at + 4) 0 + 256 * get_or s (at + 5) 0 ≡ n = cc in
        subst (λ (j : ℕ). StructIs d s at j n t e) p (subst (λ (j : ℕ). StructIs d s at (get_or s (at + 2) 0 + 256 * get_or s (at + 3) 0) j t
        e) q x)

-- ---- after `head_at`: what it said of whichever type stands there

module _ {d : ℕ} {s : List ℕ} {at : ℕ} (p : Standing d s at) {r : Head} (h : HeadAt d s at r) where
  pub array_here : {n : ℕ} → r ≡ Array n → ArrayIs d s at n p.type p.end
  array_here q = array_is p.stands (sym q ∙ h p.type p.end p.stands)

  pub struct_here : {i n : ℕ} → r ≡ Struct i n → StructIs d s at i n p.type p.end
  struct_here q = struct_is p.stands (sym q ∙ h p.type p.end p.stands)

-- ---- types in a row

-- the first of some types
pub record FirstIs (d : ℕ) (s : List ℕ) (at n : ℕ) (m : Tys) (e : ℕ) : Type 0 where
  pub type : Ty
  pub others : Tys
  pub mid : ℕ
  pub is : m ≡ type ▸ others
  pub first : Stands d s at type mid
  pub rest : StandAll d s mid (n - 1) others e

module _ {d : ℕ} {s : List ℕ} {at n e : ℕ} where
  pub first_is : {m : Tys} → StandAll d s at n m e → 0 < n → FirstIs d s at n m e
  unfolding ty_bytes tys_list shaped_tys depths
  first_is {m = [·]} w h = absurd (omega (arith, w.count))
  first_is {m = t ▸ m} w h =
      let l = length-append (ty_bytes t) (tys_bytes m) in
      let g : drop at s ≡ ty_bytes t ++ (tys_bytes m ++ drop e s) = w.here ∙ append_assoc (ty_bytes t) (tys_bytes m) (drop e s) in
      let f : drop (at + length (ty_bytes t)) s ≡ tys_bytes m ++ drop e s = past s (ty_bytes t) (tys_bytes m ++ drop e s) at g in
      record {
        type = t;
        others = m;
        mid = at + length (ty_bytes t);
        is = refl;
        first = record {
          here = rw f g;
          size = refl;
          within = omega (arith, w.size, w.within);
          shaped = and_l (shaped_ty t) (shaped_tys m)
              w.shaped;
          deep = omega (arith, w.deep);
        };
        rest = record {
          here = f;
          size = omega (arith, w.size);
          within = w.within;
          shaped = and_r (shaped_ty t) (shaped_tys m) w.shaped;
          deep = omega (arith, w.deep);
          count = omega (arith, w.count);
        };
      }

  pub none_is : {m : Tys} → StandAll d s at n m e → n ≡ 0 → (m ≡ [·]) × (at ≡ e)
  unfolding ty_bytes tys_list
  none_is {m = [·]} w h = (refl, omega (arith, w.size))
  none_is {m = t ▸ m} w h = absurd (omega (arith, w.count))
