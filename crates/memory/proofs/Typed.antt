-- What is read from memory by a type is a well-shaped value of that type.
use mathlib.Core.Path.{◌≡◌, refl, sym, ap, ap₂, ◌∙◌}
use mathlib.Core.List.{List, map}
use mathlib.Core.Bool.{◌&&◌}
use Prim.Native.Nat.{ℕ, zero, suc, ◌+◌, ◌*◌}
use native.Mathlib.Omega.{arith}
use native.Mathlib.Nat.{suc-mul, zero-mul}
use lib.Dec.{T, eqb, leb, eqb_refl}
use lib.ListN.{length, drop, length-append, length-map}
use lib.Seq.{get_or-drop}
use Rattle.meaning.specs.Kinds.{Kind}
use Rattle.meaning.specs.Trees.{Ty, Ts, Tv, Tm, Ta, Tu, Tys, [·], ◌▸◌, Val, type_of, types_of, count_vals, vals_of, tys_list}
use Rattle.meaning.specs.Records.{every, good_lit, shaped_ty, shaped_tys, shaped_val, shaped_vals, all_same, u16}
use Rattle.meaning.specs.Read.{flat}
use Rattle.meaning.specs.Layout.{laid_kind, has_layout, have_layouts, scalar_size, round_up, align_of, col_stride, size_of, stride, apart}
use Rattle.meaning.specs.Layout.{mem_scalar, mem_scalars, mem_value, mem_values}
use Rattle.laws.proofs.AgreeConv.{AllTy, all_same_lem, first_all, every_append}
use Rattle.laws.proofs.Back.{and_l, and_r}
use Rattle.laws.proofs.Same.{both}
use Rattle.laws.proofs.Sound.{Bytes}
use Rattle.memory.proofs.Numbers.{scalar_good}

-- ---- how many

pub apart_len : (n w : ℕ) (s : List ℕ) → length (apart n w s) ≡ n
unfolding apart
apart_len zero w s = refl
apart_len (suc n) w s = ap suc (apart_len n w (drop w s))

pub scalars_len : (n : ℕ) (k : Kind) (s : List ℕ) → length (mem_scalars n k s) ≡ n
unfolding mem_scalars
scalars_len n k s = length-map (apart n (scalar_size k) s) (mem_scalar k) ∙ apart_len n (scalar_size k) s

cols_len : (c r : ℕ) (k : Kind) (s : List ℕ) → length (flat (map (mem_scalars r k) (apart c (col_stride r k) s))) ≡ c * r
unfolding flat apart
cols_len zero r k s = sym (zero-mul r)
cols_len (suc c) r k s =
    length-append (mem_scalars r k s) (flat (map (mem_scalars r k) (apart c (col_stride r k) (drop (col_stride r k) s))))
    ∙ omega (arith, scalars_len r k s, cols_len c r k (drop (col_stride r k) s), suc-mul c r)

-- ---- payloads

pub drop_bytes : (n : ℕ) (s : List ℕ) → Bytes s → Bytes (drop n s)
drop_bytes n s b i = rw (get_or-drop n s i 0) (b (n + i))

module _ (k : Kind) (h : T (laid_kind k)) where
  scalars_good : (n : ℕ) (s : List ℕ) → Bytes s → T (every (good_lit k) (mem_scalars n k s))
  unfolding mem_scalars apart every
  scalars_good zero s b = tt
  scalars_good (suc n) s b = both (good_lit k (mem_scalar k s)) (every (good_lit k) (mem_scalars n k (drop (scalar_size k) s)))
      (scalar_good k h s b) (scalars_good n (drop (scalar_size k) s) (drop_bytes (scalar_size k) s b))

  cols_good : (c r : ℕ) (s : List ℕ) → Bytes s → T (every (good_lit k) (flat (map (mem_scalars r k) (apart c (col_stride r k) s))))
  unfolding flat apart every
  cols_good zero r s b = tt
  cols_good (suc c) r s b =
      let x = mem_scalars r k s in
      let y = flat (map (mem_scalars r k) (apart c (col_stride r k) (drop (col_stride r k) s))) in
      rw (every_append (good_lit k) x y) (both (every (good_lit k) x) (every (good_lit k) y) (scalars_good r s b)
      (cols_good c r (drop (col_stride r k) s) (drop_bytes (col_stride r k) s b)))

-- ---- values

-- n values, each read from its place by f
module _ (f : List ℕ → Val) where
  pub each_typed : (t : Ty) → ((s : List ℕ) → type_of (f s) ≡ t) → (n w : ℕ) (s : List ℕ) → AllTy t (vals_of (map f (apart n w s)))
      × (count_vals (vals_of (map f (apart n w s))) ≡ n)
  unfolding apart vals_of count_vals
  each_typed t e zero w s = (tt, refl)
  each_typed t e (suc n) w s = let r = each_typed t e n w (drop w s) in ((e s, r.0), ap suc r.1)

  each_shaped : ((s : List ℕ) → Bytes s → T (shaped_val (f s))) → (n w : ℕ) (s : List ℕ) → Bytes s
      → T (shaped_vals (vals_of (map f (apart n w s))))
  unfolding apart vals_of shaped_val
  each_shaped e zero w s b = tt
  each_shaped e (suc n) w s b = both (shaped_val (f s)) (shaped_vals (vals_of (map f (apart n w (drop w s))))) (e s b)
      (each_shaped e n w (drop w s) (drop_bytes w s b))

module _ (n : ℕ) (t : Ty) (g : T (shaped_ty (Ta n t))) where
  pub elem_shaped : T (shaped_ty t)
  unfolding shaped_ty
  elem_shaped = and_r (leb 1 n && u16 n) (shaped_ty t) g

  some_elem : T (leb 1 n)
  unfolding shaped_ty
  some_elem = and_l (leb 1 n) (u16 n) (and_l (leb 1 n && u16 n) (shaped_ty t) g)

pub members_shaped : (i : ℕ) (m : Tys) → T (shaped_ty (Tu i m)) → T (shaped_tys m)
unfolding shaped_ty
members_shaped i m g = and_r (u16 i && leb 1 (length (tys_list m)) && leb (length (tys_list m)) 1023) (shaped_tys m) g

mutual
  unfolding mem_value type_of shaped_tys

  pub mem_typed : (t : Ty) (s : List ℕ) → T (shaped_ty t) → type_of (mem_value t s) ≡ t
  mem_typed (Ts k) s g = refl
  mem_typed (Tv n k) s g = ap (λ (i : ℕ). Tv i k) (scalars_len n k s)
  mem_typed (Tm c r k) s g = refl
  mem_typed (Ta n t) s g =
      let l = vals_of (map (mem_value t) (apart n (stride t) s)) in
      let e = each_typed (mem_value t) t (λ u. mem_typed t u (elem_shaped n t g)) n (stride t) s in
      ap₂ Ta e.1 (first_all t l e.0 (rw e.1 (some_elem n t g)))
  mem_typed (Tu i m) s g = ap (Tu i) (all_typed 0 m s (members_shaped i m g))

  pub all_typed : (at : ℕ) (m : Tys) (s : List ℕ) → T (shaped_tys m) → types_of (mem_values at m s) ≡ m
  all_typed at [·] s g = refl
  all_typed at (t ▸ m) s g =
      let start = round_up (align_of t) at in
      ap₂ ◌▸◌ (mem_typed t (drop start s) (and_l (shaped_ty t) (shaped_tys m) g))
      (all_typed (start + size_of t) m s (and_r (shaped_ty t) (shaped_tys m) g))

mutual
  unfolding mem_value has_layout shaped_tys shaped_val

  pub mem_shaped : (t : Ty) (s : List ℕ) → Bytes s → T (shaped_ty t) → T (has_layout t) → T (shaped_val (mem_value t s))
  mem_shaped (Ts k) s b g h = scalar_good k h s b
  mem_shaped (Tv n k) s b g h = scalars_good k h n s b
  mem_shaped (Tm c r k) s b g h =
      let ps = flat (map (mem_scalars r k) (apart c (col_stride r k) s)) in
      both (every (good_lit k) ps) (eqb (length ps) (c * r)) (cols_good k h c r s b) (rw (cols_len c r k s) (eqb_refl (c * r)))
  mem_shaped (Ta n t) s b g h =
      let l = vals_of (map (mem_value t) (apart n (stride t) s)) in
      let gt = elem_shaped n t g in
      both (all_same (types_of l)) (shaped_vals l) (all_same_lem t l (each_typed (mem_value t) t (λ u. mem_typed t u gt) n (stride t) s).0)
      (each_shaped (mem_value t) (λ u c. mem_shaped t u c gt h) n (stride t) s b)
  mem_shaped (Tu i m) s b g h = all_shaped 0 m s b (members_shaped i m g) h

  all_shaped : (at : ℕ) (m : Tys) (s : List ℕ) → Bytes s → T (shaped_tys m) → T (have_layouts m) → T (shaped_vals (mem_values at m s))
  all_shaped at [·] s b g h = tt
  all_shaped at (t ▸ m) s b g h =
      let start = round_up (align_of t) at in
      both (shaped_val (mem_value t (drop start s))) (shaped_vals (mem_values (start + size_of t) m s))
      (mem_shaped t (drop start s) (drop_bytes start s b) (and_l (shaped_ty t) (shaped_tys m) g) (and_l (has_layout t) (have_layouts m) h))
      (all_shaped (start + size_of t) m s b (and_r (shaped_ty t) (shaped_tys m) g) (and_r (has_layout t) (have_layouts m) h))
