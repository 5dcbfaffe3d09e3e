-- The front of a value of which nothing is known: what its bytes say of its type.
use mathlib.Core.Path.{◌≡◌, refl, sym, ap, ap₂, ◌∙◌, subst}
use mathlib.Core.Option.{Option, none, some}
use mathlib.Core.Bool.{false, ◌&&◌}
use mathlib.Core.List.{List, ◌∷◌}
use Prim.Native.Nat.{ℕ, ◌+◌, ◌-◌, ◌*◌, ◌≤◌}
use native.Mathlib.Omega.{arith}
use native.Mathlib.Nat.{add-zero}
use lib.Dec.{T, leb, leb→le}
use lib.ListN.{length, get_or}
use Rattle.kind.specs.Ends as kinds
use Rattle.kind.specs.Ends.{of_kind}
use Rattle.meaning.specs.Kinds.{Kind, kind_no, kind_of, is_float}
use Rattle.meaning.specs.Trees.{Ty, Ts, Tv, Tm, Ta, Tu, Tys, tys_list, depth, val_len, lit_len}
use Rattle.meaning.specs.Records.{‘s’, ‘v’, ‘m’, ‘a’, ‘u’, le, lit_bytes, shaped_ty, shaped_tys, side, u16}
use Rattle.laws.proofs.AgreeLit.{kind_back}
use Rattle.laws.proofs.Back.{and_l, and_r, two_bytes}
use Rattle.laws.proofs.Same.{both}
use Rattle.laws.proofs.Sound.{Bytes, some_inj}
use Rattle.ty.specs.TypeFronts.{kind_number, float_number}
use Rattle.ty.proofs.Numbers.{kind_of_lem, float_number_lem, is_number}
use Rattle.record.proofs.Places.{at_of, view4, view6}
use Rattle.record.proofs.Numbers.{halves}
use Rattle.inst.specs.Values.{Fits, FitsAll, Typed, copies}
use Rattle.record.specs.Bytes.{Starts}
use Rattle.derive.specs.Derives.{Marked, LeafFront, ArrayFront, StructFront}
use Rattle.inst.proofs.ValueRows.{fits_end, first_fits, copies_more}
use Rattle.inst.proofs.Lits.{lit_at}
use Rattle.inst.proofs.ValueParts.{Parted, parts_of, front_bytes}
use Rattle.inst.proofs.Starts.{fits_starts, parts_same}

-- the second letter of a type's mark, which is that of its values' too
unfoldable pub tag_of : Ty → ℕ
tag_of (Ts k) = ‘s’
tag_of (Tv n k) = ‘v’
tag_of (Tm c r k) = ‘m’
tag_of (Ta n t) = ‘a’
tag_of (Tu i m) = ‘u’

-- ---- kinds

kind_inj : (j k : Kind) → kind_no j ≡ kind_no k → j ≡ k
kind_inj j k e = some_inj (sym (kind_back j) ∙ (ap kind_of e ∙ kind_back k))

float_kind_lem : (n : ℕ) → T (float_number n) → T (kind_number n)
unfolding of_kind kinds.known
float_kind_lem n h = go (kind_of n) h
  where
    go : (o : Option Kind) → T (of_kind false is_float o) → T (of_kind false kinds.known o)
    go none h = h
    go (some k) h = tt

pub side_two : (n : ℕ) → T (side n) → 2 ≤ n
unfolding side
side_two n h = leb→le 2 n (and_l (leb 2 n) (leb n 4) h)

-- ---- where the kind stands

module _ (s : List ℕ) where
  -- there is room for n bytes, and the next is k's number
  record KindAt (at n : ℕ) (k : Kind) : Type 0 where
    room : at + n + 1 ≤ length s
    is : get_or s (at + n) 0 ≡ kind_no k

  scalar_kind : (at : ℕ) (k : Kind) (e : ℕ) → Fits s at (Ts k) e → KindAt at 2 k
  unfolding lit_bytes val_len lit_len
  scalar_kind at k e w = record { room = omega (arith, fits_end s at (Ts k) e w, w.within); is = at_of s _ at (lit_at s at k e w).here 2 }

  -- the first part of a value
  first_part : (at : ℕ) (t u : Ty) (n e : ℕ) → Parted t → parts_of t ≡ copies n u → 1 ≤ n → Fits s at t e → (mid : ℕ)
      × Fits s (at + length (front_bytes t)) u mid
  first_part at t u n e p q h w =
      let f = first_fits s (at + length (front_bytes t)) u (copies (n - 1) u) e
      (subst (λ (m : Tys). FitsAll s (at + length (front_bytes t)) m e) (q ∙ copies_more n u h)
      ((parts_same s at t p (fits_starts s at t p e w) e).1 w)) in
      (f.mid, f.first)

  vector_kind : (at n : ℕ) (k : Kind) (e : ℕ) → Fits s at (Tv n k) e → 2 ≤ n → KindAt at 5 k
  unfolding parts_of front_bytes
  vector_kind at n k e w h =
      let f = first_part at (Tv n k) (Ts k) n e tt refl (omega arith) w in
      let x = scalar_kind (at + 3) k f.0 f.1 in
      let i : at + 3 + 2 ≡ at + 5 = omega arith in
      record { room = omega (arith, x.room); is = rw i at x.is }

  matrix_kind : (at c r : ℕ) (k : Kind) (e : ℕ) → Fits s at (Tm c r k) e → 2 ≤ c → 2 ≤ r → KindAt at 9 k
  unfolding parts_of front_bytes
  matrix_kind at c r k e w h i =
      let f = first_part at (Tm c r k) (Tv r k) c e tt refl (omega arith) w in
      let x = vector_kind (at + 4) r k f.0 f.1 i in
      let j : at + 4 + 5 ≡ at + 9 = omega arith in
      record { room = omega (arith, x.room); is = rw j at x.is }

module _ (d : ℕ) (s : List ℕ) (at : ℕ) where
  some_elements : (n : ℕ) (t : Ty) → T (shaped_ty (Ta n t)) → 1 ≤ n
  unfolding shaped_ty u16
  some_elements n t g = leb→le 1 n (and_l (leb 1 n) (leb n 65535) (and_l (leb 1 n && leb n 65535) (shaped_ty t) g))

  -- ---- the mark says which

  starts_marked : (m : ℕ) (l : List ℕ) → 1 ≤ length l → Starts s at (86 ∷ m ∷ l) → Marked s at m
  starts_marked m l h w = record {
    room = omega (arith, w.room);
    first = rw add-zero at (at_of s _ at w.here 0);
    second = at_of s
        _ at w.here 1;
  }

  pub marked : (t : Ty) (e : ℕ) → Typed d s at t e → Marked s at (tag_of t)
  unfolding tag_of front_bytes le lit_bytes val_len lit_len
  marked (Ts k) e w =
      let x = lit_at s at k e w.fits in
      record {
        room = omega (arith, fits_end s at (Ts k) e w.fits, w.fits.within);
        first = rw add-zero at (at_of s _ at x.here 0);
        second = at_of s _ at x.here 1;
      }
  marked (Tv n k) e w = starts_marked 118 _ (omega arith) (fits_starts s at (Tv n k) tt e w.fits)
  marked (Tm c r k) e w = starts_marked 109 _ (omega arith) (fits_starts s at (Tm c r k) tt e w.fits)
  marked (Ta n u) e w = starts_marked 97 _ (omega arith) (fits_starts s at (Ta n u) (some_elements n u w.shaped) e w.fits)
  marked (Tu i m) e w = starts_marked 117 _ (omega arith) (fits_starts s at (Tu i m) tt e w.fits)

  other : (t : Ty) (e m : ℕ) → Typed d s at t e → Marked s at m → m ≡ tag_of t
  other t e m w x = sym x.second ∙ (marked t e w).second

  -- ---- scalars

  record ScalarOnly (t : Ty) : Type 0 where
    kind : Kind
    is : t ≡ Ts kind
    byte : get_or s (at + 2) 0 ≡ kind_no kind

  scalar_only : Marked s at 115 → (t : Ty) (e : ℕ) → Typed d s at t e → ScalarOnly t
  unfolding tag_of
  scalar_only m (Ts k) e w = record { kind = k; is = refl; byte = (scalar_kind s at k e w.fits).is }
  scalar_only m (Tv n k) e w = absurd (omega (arith, other _ e 115 w m))
  scalar_only m (Tm c r k) e w = absurd (omega (arith, other _ e 115 w m))
  scalar_only m (Ta n u) e w = absurd (omega (arith, other _ e 115 w m))
  scalar_only m (Tu i l) e w = absurd (omega (arith, other _ e 115 w m))

  pub scalar_fronted : Marked s at 115 → T (kind_number (get_or s (at + 2) 0)) → LeafFront d s at Ts (get_or s (at + 2) 0)
  unfolding shaped_ty depth
  scalar_fronted m h =
      let k = kind_of_lem (get_or s (at + 2) 0) h in
      record {
        kind = k.kind;
        no = k.no;
        shaped = tt;
        deep = omega arith;
        only = λ t e w. let x = scalar_only m t e w in x.is ∙ ap Ts (kind_inj x.kind k.kind (sym x.byte ∙ k.no));
      }

  pub scalar_known : Marked s at 115 → (t : Ty) (e : ℕ) → Typed d s at t e → T (kind_number (get_or s (at + 2) 0))
  scalar_known m t e w = let x = scalar_only m t e w in rw x.byte (is_number x.kind)

  -- ---- vectors

  pub record VectorOnly (t : Ty) : Type 0 where
    pub count : ℕ
    pub kind : Kind
    pub is : t ≡ Tv count kind
    pub size : get_or s (at + 2) 0 ≡ count
    pub byte : get_or s (at + 5) 0 ≡ kind_no kind
    pub room : at + 6 ≤ length s
    pub wide : T (side (get_or s (at + 2) 0))
    pub known : T (kind_number (get_or s (at + 5) 0))
    pub deep : 1 ≤ d

  pub vector_only : Marked s at 118 → (t : Ty) (e : ℕ) → Typed d s at t e → VectorOnly t
  unfolding tag_of front_bytes shaped_ty depth
  vector_only m (Tv n k) e w =
      let b = fits_starts s at (Tv n k) tt e w.fits in
      let z : get_or s (at + 2) 0 ≡ n = at_of s _ at b.here 2 in
      let x = vector_kind s at n k e w.fits (side_two n w.shaped) in
      record {
        count = n;
        kind = k;
        is = refl;
        size = z;
        byte = x.is;
        room = omega (arith, x.room);
        wide = rw z w.shaped;
        known = rw x.is (is_number k);
        deep = w.deep;
      }
  vector_only m (Ts k) e w = absurd (omega (arith, other _ e 118 w m))
  vector_only m (Tm c r k) e w = absurd (omega (arith, other _ e 118 w m))
  vector_only m (Ta n u) e w = absurd (omega (arith, other _ e 118 w m))
  vector_only m (Tu i l) e w = absurd (omega (arith, other _ e 118 w m))

  pub vector_fronted : Marked s at 118 → T (side (get_or s (at + 2) 0)) → T (kind_number (get_or s (at + 5) 0)) → 1 ≤ d
      → LeafFront d s at (Tv (get_or s (at + 2) 0)) (get_or s (at + 5) 0)
  unfolding shaped_ty depth
  vector_fronted m g h i =
      let k = kind_of_lem (get_or s (at + 5) 0) h in
      record {
        kind = k.kind;
        no = k.no;
        shaped = g;
        deep = i;
        only = λ t e w. let x = vector_only m t e w in x.is ∙ ap₂ Tv (sym x.size)
            (kind_inj x.kind k.kind (sym x.byte ∙ k.no));
      }

  -- ---- matrices

  pub record MatrixOnly (t : Ty) : Type 0 where
    pub columns : ℕ
    pub rows : ℕ
    pub kind : Kind
    pub is : t ≡ Tm columns rows kind
    pub across : get_or s (at + 2) 0 ≡ columns
    pub down : get_or s (at + 3) 0 ≡ rows
    pub byte : get_or s (at + 9) 0 ≡ kind_no kind
    pub room : at + 10 ≤ length s
    pub wide : T (side (get_or s (at + 2) 0))
    pub high : T (side (get_or s (at + 3) 0))
    pub float : T (float_number (get_or s (at + 9) 0))
    pub deep : 2 ≤ d

  pub matrix_only : Marked s at 109 → (t : Ty) (e : ℕ) → Typed d s at t e → MatrixOnly t
  unfolding tag_of front_bytes shaped_ty depth
  matrix_only m (Tm c r k) e w =
      let b = fits_starts s at (Tm c r k) tt e w.fits in
      let y : get_or s (at + 2) 0 ≡ c = at_of s _ at b.here 2 in
      let z : get_or s (at + 3) 0 ≡ r = at_of s _ at b.here 3 in
      let g = and_l (side c && side r) (is_float k) w.shaped in
      let x = matrix_kind s at c r k e w.fits (side_two c (and_l (side c) (side r) g)) (side_two r (and_r (side c) (side r) g)) in
      record {
        columns = c;
        rows = r;
        kind = k;
        is = refl;
        across = y;
        down = z;
        byte = x.is;
        room = omega (arith, x.room);
        wide = rw y (and_l (side c) (side r) g);
        high = rw z (and_r (side c) (side r) g);
        float = rw (x.is, float_number_lem k) (and_r (side c && side r) (is_float k) w.shaped);
        deep = w.deep;
      }
  matrix_only m (Ts k) e w = absurd (omega (arith, other _ e 109 w m))
  matrix_only m (Tv n k) e w = absurd (omega (arith, other _ e 109 w m))
  matrix_only m (Ta n u) e w = absurd (omega (arith, other _ e 109 w m))
  matrix_only m (Tu i l) e w = absurd (omega (arith, other _ e 109 w m))

  pub matrix_fronted : Marked s at 109 → T (side (get_or s (at + 2) 0)) → T (side (get_or s (at + 3) 0)) → T (float_number (get_or s (at + 9) 0))
      → 2 ≤ d
      → LeafFront d s at (Tm (get_or s (at + 2) 0) (get_or s (at + 3) 0)) (get_or s (at + 9) 0)
  unfolding shaped_ty depth
  matrix_fronted m g h f i =
      let k = kind_of_lem (get_or s (at + 9) 0) (float_kind_lem (get_or s (at + 9) 0) f) in
      let c = get_or s (at + 2) 0 in
      let r = get_or s (at + 3) 0 in
      record {
        kind = k.kind;
        no = k.no;
        shaped = both (side c && side r) (is_float k.kind) (both (side c) (side r) g h)
            (subst T (ap float_number k.no ∙ float_number_lem k.kind) f);
        deep = i;
        only = λ t e w.
            let x = matrix_only m t e w in
            let p : x.columns ≡ c = sym x.across in
            let q : x.rows ≡ r = sym x.down in
            let z : x.kind ≡ k.kind = kind_inj x.kind k.kind (sym x.byte ∙ k.no) in
            x.is ∙ cc;
      }

  -- ---- arrays

  pub record ArrayOnly (t : Ty) : Type 0 where
    pub count : ℕ
    pub elem : Ty
    pub is : t ≡ Ta count elem
    pub size : get_or s (at + 2) 0 + 256 * get_or s (at + 3) 0 ≡ count
    pub room : at + 4 ≤ length s
    pub some : 1 ≤ count
    pub deep : 1 ≤ d

  pub array_only : Marked s at 97 → (t : Ty) (e : ℕ) → Typed d s at t e → ArrayOnly t
  unfolding tag_of front_bytes shaped_ty depth le u16
  array_only m (Ta n u) e w =
      let h = some_elements n u w.shaped in
      let b = fits_starts s at (Ta n u) h e w.fits in
      let l : n ≤ 65535 = leb→le n 65535 (and_r (leb 1 n) (leb n 65535) (and_l (leb 1 n && leb n 65535) (shaped_ty u) w.shaped)) in
      record {
        count = n;
        elem = u;
        is = refl;
        size = rw (at_of s _ at b.here 2, at_of s _ at b.here 3) (two_bytes n l);
        room = b.room;
        some = h;
        deep = omega (arith, w.deep);
      }
  array_only m (Ts k) e w = absurd (omega (arith, other _ e 97 w m))
  array_only m (Tv n k) e w = absurd (omega (arith, other _ e 97 w m))
  array_only m (Tm c r k) e w = absurd (omega (arith, other _ e 97 w m))
  array_only m (Tu i l) e w = absurd (omega (arith, other _ e 97 w m))

  pub array_fronted : Bytes s → Marked s at 97 → at + 4 ≤ length s → (n : ℕ) → n ≡ get_or s (at + 2) 0 + 256 * get_or s (at + 3) 0 → 1 ≤ n
      → 1 ≤ d → ArrayFront d s at n
  array_fronted b m r n q h i =
      let x = b (at + 2) in
      let y = b (at + 3) in
      let p = halves (get_or s (at + 2) 0) (get_or s (at + 3) 0) x y in
      record {
        some = h;
        most = omega arith;
        deep = i;
        starts = record { here = rw (q, p.0, p.1) (cc (view4 s at r, m.first, m.second)); room = r };
        only = λ t e w. let z = array_only m t e w in let g : z.count ≡ n = sym z.size
            ∙ sym q in record { elem = z.elem; is = z.is ∙ ap (λ (k : ℕ). Ta k z.elem) g };
      }

  -- ---- structs

  pub record StructOnly (t : Ty) : Type 0 where
    pub id : ℕ
    pub members : Tys
    pub is : t ≡ Tu id members
    pub name : get_or s (at + 2) 0 + 256 * get_or s (at + 3) 0 ≡ id
    pub size : get_or s (at + 4) 0 + 256 * get_or s (at + 5) 0 ≡ length (tys_list members)
    pub room : at + 6 ≤ length s
    pub some : 1 ≤ length (tys_list members)
    pub most : length (tys_list members) ≤ 1023
    pub deep : 1 ≤ d

  pub struct_only : Marked s at 117 → (t : Ty) (e : ℕ) → Typed d s at t e → StructOnly t
  unfolding tag_of front_bytes shaped_ty depth le u16
  struct_only m (Tu i l) e w =
      let b = fits_starts s at (Tu i l) tt e w.fits in
      let n : ℕ = length (tys_list l) in
      let h : T (leb i 65535 && leb 1 n && leb n 1023) = and_l (leb i 65535 && leb 1 n && leb n 1023) (shaped_tys l) w.shaped in
      let x : i ≤ 65535 = leb→le i 65535 (and_l (leb i 65535) (leb 1 n) (and_l (leb i 65535 && leb 1 n) (leb n 1023) h)) in
      let z : 1 ≤ n = leb→le 1 n (and_r (leb i 65535) (leb 1 n) (and_l (leb i 65535 && leb 1 n) (leb n 1023) h)) in
      let y : n ≤ 1023 = leb→le n 1023 (and_r (leb i 65535 && leb 1 n) (leb n 1023) h) in
      record {
        id = i;
        members = l;
        is = refl;
        name = rw (at_of s _ at b.here 2, at_of s _ at b.here 3) (two_bytes i x);
        size = rw (at_of s _ at b.here 4, at_of s _ at b.here 5) (two_bytes n (omega arith));
        room = b.room;
        some = z;
        most = y;
        deep = omega (arith, w.deep);
      }
  struct_only m (Ts k) e w = absurd (omega (arith, other _ e 117 w m))
  struct_only m (Tv n k) e w = absurd (omega (arith, other _ e 117 w m))
  struct_only m (Tm c r k) e w = absurd (omega (arith, other _ e 117 w m))
  struct_only m (Ta n u) e w = absurd (omega (arith, other _ e 117 w m))

  pub struct_fronted : Bytes s → Marked s at 117 → at + 6 ≤ length s → (i n : ℕ) → i ≡ get_or s (at + 2) 0 + 256 * get_or s (at + 3) 0
      → n ≡ get_or s (at + 4) 0 + 256 * get_or s (at + 5) 0 → 1 ≤ n → n ≤ 1023
      → 1 ≤ d → StructFront d s at i n
  struct_fronted b m r i n o q h j k =
      let x = b (at + 2) in
      let y = b (at + 3) in
      let p = halves (get_or s (at + 2) 0) (get_or s (at + 3) 0) x y in
      let z = halves (get_or s (at + 4) 0) (get_or s (at + 5) 0) (b (at + 4)) (b (at + 5)) in
      record {
        id = omega arith;
        some = h;
        most = j;
        deep = k;
        starts = record { here = rw (o, q, p.0, p.1, z.0, z.1) (cc (view6 s at r, m.first, m.second)); room = r };
        only = λ t e w. let v = struct_only m t e w in let g : v.id ≡ i = sym v.name
            ∙ sym o in record { members = v.members; is = v.is ∙ ap (λ (k : ℕ). Tu k v.members) g; count = sym v.size ∙ sym q };
      }

  -- no mark is right
  pub none_marked : (m : ℕ) → Marked s at m → (m ≡ 115 → ⊥) → (m ≡ 118 → ⊥) → (m ≡ 109 → ⊥) → (m ≡ 97 → ⊥) → (m ≡ 117 → ⊥)
      → (t : Ty) (e : ℕ) → Typed d s at t e → ⊥
  unfolding tag_of
  none_marked m x a b c f g (Ts k) e w = a (other _ e m w x)
  none_marked m x a b c f g (Tv n k) e w = b (other _ e m w x)
  none_marked m x a b c f g (Tm r y k) e w = c (other _ e m w x)
  none_marked m x a b c f g (Ta n u) e w = f (other _ e m w x)
  none_marked m x a b c f g (Tu i l) e w = g (other _ e m w x)
