-- The bytes at a place, up to a record's parts, and the types that stand there.
use mathlib.Core.Path.{◌≡◌, refl, sym, ap, ◌∙◌, subst}
use mathlib.Core.List.{List, [], ◌∷◌, ◌++◌, append_assoc}
use mathlib.Core.Bool.{◌&&◌}
use Prim.Native.Nat.{ℕ, ◌+◌, ◌-◌, ◌*◌, ◌/◌, ◌%◌, ◌≤◌}
use native.Mathlib.Omega.{arith}
use native.Mathlib.Nat.{add-zero}
use lib.Dec.{T, leb, le→leb, leb→le}
use lib.ListN.{length, get_or, drop, length-append}
use Rattle.meaning.specs.Kinds.{Kind, is_float}
use Rattle.meaning.specs.Trees.{Ty, Ts, Tv, Tm, Ta, Tu, Tys, tys_list, depth}
use Rattle.meaning.specs.Records.{ty_bytes, tys_bytes, shaped_ty, shaped_tys, side, u16, le}
use Rattle.laws.proofs.Back.{and_l, and_r}
use Rattle.laws.proofs.Same.{both}
use Rattle.laws.proofs.Sound.{Bytes}
use Rattle.record.proofs.Numbers.{halves}
use Rattle.ty.specs.Stands.{Stands, StandAll, Ends, EndAll}
use Rattle.ty.specs.TypeFronts.{float_number, ScalarAt, VectorAt, MatrixAt, ArrayAt, StructAt, Parted}
use Rattle.ty.proofs.Numbers.{kind_of_lem, is_number, float_number_lem}
use Rattle.record.proofs.Places.{at_of, past, view3, view4, view6}
use Rattle.ty.proofs.Heads.{array_by, struct_by}

-- ---- from the bytes to a type

module _ {d : ℕ} {s : List ℕ} {at : ℕ} where
  scalar_stands : (w : ScalarAt s at) → Stands d s at (Ts (kind_of_lem (get_or s (at + 2) 0) w.kind).kind) (at + 3)
  unfolding ty_bytes shaped_ty depth
  scalar_stands w =
      let k = kind_of_lem (get_or s (at + 2) 0) w.kind in
      record {
        here = cc (view3 s at w.room, w.first, w.second, k.no);
        size = refl;
        within = w.room;
        shaped = tt;
        deep = omega arith;
      }

  pub scalar_ends : ScalarAt s at → Ends d s at (at + 3)
  scalar_ends w = record { type = _; stands = scalar_stands w }

-- a type whose record is the bytes a and then bs, where both stand
module _ {d : ℕ} {s : List ℕ} {at : ℕ} (a bs : List ℕ) (t : Ty) {e : ℕ} where
  behind : drop at s ≡ a ++ drop (at + length a) s → drop (at + length a) s ≡ bs ++ drop e s → e ≡ at + length a + length bs → e ≤ length s
      → ty_bytes t ≡ a ++ bs → T (shaped_ty t) → depth t ≤ d → Stands d s at t e
  behind p h z i q g r =
      record {
        here = p ∙ (ap (λ (l : List ℕ). a ++ l) h ∙ (sym (append_assoc a bs (drop e s)) ∙ ap (λ (l : List ℕ). l ++ drop e s) (sym q)));
        size = omega (arith, ap length q, length-append a bs);
        within = i;
        shaped = g;
        deep = r;
      }

module _ {d : ℕ} {s : List ℕ} {at : ℕ} where
  pub vector_ends : VectorAt d s at → Ends d s at (at + 6)
  unfolding ty_bytes shaped_ty depth
  vector_ends w =
      let n = get_or s (at + 2) 0 in
      let x = w.scalar in
      let t = Tv n (kind_of_lem (get_or s (at + 3 + 2) 0) x.kind).kind in
      let p : drop at s ≡ (84 ∷ 118 ∷ n ∷ []) ++ drop (at + 3) s = cc (view3 s at (omega (arith, x.room)), w.first, w.second) in
      let y = scalar_stands {d = 0} x in
      let q : at + 3 + 3 ≡ at + 6 = omega arith in
      record { type = t; stands = rw q at (behind (84 ∷ 118 ∷ n ∷ []) _ t p y.here y.size y.within refl w.wide w.deep) }

  pub matrix_ends : MatrixAt d s at → Ends d s at (at + 7)
  unfolding ty_bytes shaped_ty depth
  matrix_ends w =
      let c = get_or s (at + 2) 0 in
      let r = get_or s (at + 3) 0 in
      let x = w.scalar in
      let k = kind_of_lem (get_or s (at + 4 + 2) 0) x.kind in
      let t = Tm c r k.kind in
      let p : drop at s ≡ (84 ∷ 109 ∷ c ∷ r ∷ []) ++ drop (at + 4) s = cc (view4 s at (omega (arith, x.room)), w.first, w.second) in
      let y = scalar_stands {d = 0} x in
      let q : at + 4 + 3 ≡ at + 7 = omega arith in
      let i : at + 6 ≡ at + 4 + 2 = omega arith in
      let f : T (is_float k.kind) = subst T (ap float_number (ap (λ (j : ℕ). get_or s j 0) i ∙ k.no) ∙ float_number_lem k.kind) w.float in
      record {
        type = t;
        stands = rw q at (behind (84 ∷ 109 ∷ c ∷ r ∷ []) _ t p y.here y.size y.within refl
            (both (side c && side r) (is_float k.kind) (both (side c) (side r) w.wide w.high) f) w.deep);
      }

  -- ---- an array and a struct from their parts

  pub array_stands : {n : ℕ} {u : Ty} {e : ℕ} → drop at s ≡ (84 ∷ 97 ∷ n % 256 ∷ n / 256 % 256 ∷ []) ++ drop (at + 4) s → 1 ≤ n → n ≤ 65535
      → 1 ≤ d
      → Stands (d - 1) s (at + 4) u e → Stands d s at (Ta n u) e
  unfolding ty_bytes shaped_ty depth le u16
  array_stands {n} {u} p h i g w =
      behind (84 ∷ 97 ∷ n % 256 ∷ n / 256 % 256 ∷ []) (ty_bytes u) (Ta n u) p w.here w.size w.within refl
      (both (leb 1 n && leb n 65535) (shaped_ty u) (both (leb 1 n) (leb n 65535) (le→leb 1 n h) (le→leb n 65535 i)) w.shaped)
      (omega (arith, w.deep))

  pub struct_stands : {i n : ℕ} {m : Tys} {e : ℕ} → drop at s ≡ (84 ∷ 117 ∷ i % 256 ∷ i / 256 % 256 ∷ n % 256 ∷ n / 256 % 256 ∷ []) ++ drop
      (at + 6) s → i ≤ 65535
      → 1 ≤ n → n ≤ 1023 → 1 ≤ d → StandAll (d - 1) s (at + 6) n m e → Stands d s at (Tu i m) e
  unfolding ty_bytes shaped_ty depth le u16
  struct_stands {i} {n} {m} p h j k g w =
      let c : length (tys_list m) ≡ n = w.count in
      let l : ℕ = length (tys_list m) in
      behind (84 ∷ 117 ∷ i % 256 ∷ i / 256 % 256 ∷ n % 256 ∷ n / 256 % 256 ∷ []) (tys_bytes m) (Tu i m) p w.here w.size w.within
      (rw c refl)
      (both (leb i 65535 && leb 1 l && leb l 1023) (shaped_tys m)
      (both (leb i 65535 && leb 1 l) (leb l 1023) (both (leb i 65535) (leb 1 l) (le→leb i 65535 h) (le→leb 1 l (omega arith)))
      (le→leb l 1023 (omega arith))) w.shaped)
      (omega (arith, w.deep))

  -- ---- the front of a record with parts

  module _ (b : Bytes s) where
    pub array_parted : ArrayAt d s at → Parted d s at (at + 4) (Ends (d - 1) s (at + 4))
    array_parted w =
        let l = get_or s (at + 2) 0 in
        let h = get_or s (at + 3) 0 in
        let x = b (at + 2) in
        let y = b (at + 3) in
        let p = halves l h x y in
        record {
          deep = w.deep;
          room = w.room;
          same = λ e. (
            (λ z. record {
              type = Ta (l + 256 * h) z.type;
              stands = array_stands {n = l + 256 * h} (rw (p.0, p.1) (cc (view4 s at w.room, w.first, w.second))) w.count
                  (omega arith) w.deep z.stands;
            }),
            λ z. let a = array_by z.stands w.second in record { type = a.elem; stands = a.part },
          );
        }

    pub struct_parted : StructAt d s at → Parted d s at (at + 6) (EndAll (d - 1) s (at + 6) (get_or s (at + 4) 0 + 256 * get_or s (at + 5) 0))
    struct_parted w =
        let il = get_or s (at + 2) 0 in
        let ih = get_or s (at + 3) 0 in
        let nl = get_or s (at + 4) 0 in
        let nh = get_or s (at + 5) 0 in
        let x = b (at + 2) in
        let y = b (at + 3) in
        let p = halves il ih x y in
        let q = halves nl nh (b (at + 4)) (b (at + 5)) in
        record {
          deep = w.deep;
          room = w.room;
          same = λ e. (
            (λ z. record {
              type = Tu (il + 256 * ih) z.types;
              stands = struct_stands {i = il + 256 * ih} {n = nl + 256 * nh}
                  (rw (p.0, p.1, q.0, q.1) (cc (view6 s at w.room, w.first, w.second))) (omega arith) w.some w.most
                  w.deep z.stands;
            }),
            λ z. let a = struct_by z.stands w.second in record { types = a.members; stands = a.parts },
          );
        }

-- ---- from a type to its bytes

first_of : (s b : List ℕ) (at : ℕ) → drop at s ≡ b → get_or s at 0 ≡ get_or b 0 0
first_of s b at h = rw add-zero at (at_of s b at h 0)

module _ {s : List ℕ} where
  scalar_at : {d at : ℕ} {k : Kind} {e : ℕ} → Stands d s at (Ts k) e → ScalarAt s at
  unfolding ty_bytes
  scalar_at {at = at} {k} w =
      record {
        room = omega (arith, w.size, w.within);
        first = first_of s _ at w.here;
        second = at_of s _ at w.here 1;
        kind = rw (at_of s _ at w.here 2) (is_number k);
      }

  vector_at : {d at n : ℕ} {k : Kind} {e : ℕ} → Stands d s at (Tv n k) e → VectorAt d s at
  unfolding ty_bytes shaped_ty depth
  vector_at {at = at} {n} {k} {e} w =
      record {
        first = first_of s _ at w.here;
        second = at_of s _ at w.here 1;
        wide = rw (at_of s _ at w.here 2) w.shaped;
        scalar = scalar_at {d = 0} record {
          here = past s (84 ∷ 118 ∷ n ∷ []) (ty_bytes (Ts k) ++ drop e s) at w.here;
          size = omega
              (arith, w.size);
          within = w.within;
          shaped = tt;
          deep = omega arith;
        };
        deep = w.deep;
      }

  matrix_at : {d at c r : ℕ} {k : Kind} {e : ℕ} → Stands d s at (Tm c r k) e → MatrixAt d s at
  unfolding ty_bytes shaped_ty depth
  matrix_at {at = at} {c} {r} {k} {e} w =
      let g = and_l (side c && side r) (is_float k) w.shaped in
      record {
        first = first_of s _ at w.here;
        second = at_of s _ at w.here 1;
        wide = rw (at_of s _ at w.here 2) (and_l (side c) (side r) g);
        high = rw (at_of s _ at w.here 3) (and_r (side c) (side r) g);
        scalar = scalar_at {d = 0} record {
          here = past s (84 ∷ 109 ∷ c ∷ r ∷ []) (ty_bytes (Ts k) ++ drop e s) at w.here;
          size = omega
              (arith, w.size);
          within = w.within;
          shaped = tt;
          deep = omega arith;
        };
        float = rw (at_of s _ at w.here 6, float_number_lem k) (and_r (side c && side r) (is_float k) w.shaped);
        deep = w.deep;
      }

  array_at : {d at n : ℕ} {u : Ty} {e : ℕ} → Stands d s at (Ta n u) e → ArrayAt d s at
  unfolding ty_bytes shaped_ty depth le u16
  array_at {at = at} {n} {u} w =
      let g = and_l (leb 1 n && leb n 65535) (shaped_ty u) w.shaped in
      record {
        room = omega (arith, w.size, w.within);
        first = first_of s _ at w.here;
        second = at_of s _ at w.here 1;
        count = omega (
          arith,
          at_of s _ at w.here 2,
          at_of s _ at w.here 3,
          leb→le 1 n (and_l (leb 1 n) (leb n 65535) g),
          leb→le n
              65535 (and_r (leb 1 n) (leb n 65535) g),
        );
        deep = omega (arith, w.deep);
      }

  struct_at : {d at i : ℕ} {m : Tys} {e : ℕ} → Stands d s at (Tu i m) e → StructAt d s at
  unfolding ty_bytes shaped_ty depth le u16
  struct_at {at = at} {i} {m} w =
      let n : ℕ = length (tys_list m) in
      let g = and_l (leb i 65535 && leb 1 n && leb n 1023) (shaped_tys m) w.shaped in
      let x : 1 ≤ n = leb→le 1 n (and_r (leb i 65535) (leb 1 n) (and_l (leb i 65535 && leb 1 n) (leb n 1023) g)) in
      let y : n ≤ 1023 = leb→le n 1023 (and_r (leb i 65535 && leb 1 n) (leb n 1023) g) in
      record {
        room = omega (arith, w.size, w.within);
        first = first_of s _ at w.here;
        second = at_of s _ at w.here 1;
        some = omega (arith, at_of s _ at w.here 4, at_of s _ at w.here 5);
        most = omega (arith, at_of s _ at w.here 4, at_of s _ at w.here 5);
        deep = omega (arith, w.deep);
      }

  -- no front, no type
  module _ {d at : ℕ} where
    none_stands : (ScalarAt s at → ⊥) → (VectorAt d s at → ⊥) → (MatrixAt d s at → ⊥) → (ArrayAt d s at → ⊥) → (StructAt d s at → ⊥)
        → {t : Ty} {e : ℕ} → Stands d s at t e → ⊥
    none_stands f g h i j {t = Ts k} w = f (scalar_at w)
    none_stands f g h i j {t = Tv n k} w = g (vector_at w)
    none_stands f g h i j {t = Tm c r k} w = h (matrix_at w)
    none_stands f g h i j {t = Ta n u} w = i (array_at w)
    none_stands f g h i j {t = Tu n m} w = j (struct_at w)

    pub none_ends : (ScalarAt s at → ⊥) → (VectorAt d s at → ⊥) → (MatrixAt d s at → ⊥) → (ArrayAt d s at → ⊥) → (StructAt d s at → ⊥)
        → (e : ℕ) → Ends d s at e → ⊥
    none_ends f g h i j e z = none_stands f g h i j z.stands
