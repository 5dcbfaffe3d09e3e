-- The type of a value and its record: what a value says of its type, and what the steps of deriving it come to.
use mathlib.Core.Path.{◌≡◌, refl, sym, ap, ◌∙◌, subst}
use mathlib.Core.Option.{Option as Maybe, none, some}
use mathlib.Core.Bool.{◌&&◌}
use mathlib.Core.List.{List, [], ◌∷◌, ◌++◌}
use Prim.Native.Nat.{ℕ, suc, ◌+◌, ◌-◌, ◌/◌, ◌%◌, ◌≤◌, ◌<◌}
use native.Mathlib.Omega.{arith}
use lib.Dec.{T, leb, le→leb}
use lib.ListN.{length, drop, length-append}
use Rattle.meaning.specs.Kinds.{Kind, kind_no}
use Rattle.meaning.specs.Trees.{Ty, Ts, Tv, Tm, Ta, Tu, Tys, [·], ◌▸◌, Val, type_of, tys_list, depth, depths}
use Rattle.meaning.specs.Records.{le, ty_bytes, tys_bytes, shaped_ty, shaped_tys, u16}
use Rattle.meaning.specs.Read.{p_val}
use Rattle.laws.proofs.Back.{and_l, and_r}
use Rattle.laws.proofs.BackVal.{val_back}
use Rattle.laws.proofs.Same.{both}
use Rattle.ty.specs.Stands.{Stands, Standing}
use Rattle.ty.specs.TypeFronts.{Same}
use Rattle.record.specs.Bytes.{Starts}
use Rattle.record.proofs.Puts.{put_nil, put_length, put_put}
use Rattle.ty.proofs.Places.{put_stands}
use Rattle.inst.specs.Values.{Fits, FitsAll, Typed, TypedAll, copies}
use Rattle.inst.specs.Reading.{ReadAs}
use Rattle.derive.specs.Derives.{LeafFront, ArrayFront, StructFront, FrontIs, Wrote, type_front, Found, Derives, DerivesAll}
use Rattle.ty.specs.declared.Head.{Head}
use Rattle.ty.specs.declared.Head.TheVariants.{Scalar, Vector, Matrix, Array, Struct}
use Rattle.inst.proofs.ValueRows.{nil_fits, cons_fits, first_fits, each_on, copies_more, fits_end}
use Rattle.inst.proofs.ValueParts.{parts_of, front_bytes}
use Rattle.inst.proofs.Starts.{parts_same}
use Rattle.std.specs.declared.option.Option.{Option}
use Rattle.std.specs.declared.option.Option.TheVariants.{None, Some}

-- ---- a value that stands there has one type

module _ (d d' : ℕ) (s : List ℕ) (at : ℕ) (t t' : Ty) (e e' : ℕ) (w : Typed d s at t e) (w' : Typed d' s at t' e') where
  pub same_value : w.fits.value ≡ w'.fits.value
  same_value =
      ap (λ (o : Maybe (Val × List ℕ)). let x : Val = elim o [ none ↦ w.fits.value | some r ↦ r.0 ] in x)
      (sym (back d t e w (omega arith)) ∙ back d' t' e' w' (omega arith))
    where
      n : ℕ
      n = suc (depth t + depth t')

      back : (d : ℕ) (t : Ty) (e : ℕ) (w : Typed d s at t e) → depth t < n → p_val n (drop at s) ≡ some (w.fits.value, drop e s)
      back d t e w h =
          let v = w.fits in
          rw v.here (val_back v.value n v.shaped (subst (λ (u : Ty). T (shaped_ty u)) (sym v.type) w.shaped)
          (subst (λ (u : Ty). depth u < n) (sym v.type) h) (drop e s))

  pub same_typed : t ≡ t'
  same_typed = sym w.fits.type ∙ (ap type_of same_value ∙ w'.fits.type)

-- ---- bytes written one after another

module _ {out out₁ out₂ : List ℕ} {to : ℕ} {a b : List ℕ} {p r : ℕ} (w : Wrote out to a p out₁) where
  pub wrote_both : Wrote out₁ p b r out₂ → Wrote out to (a ++ b) r out₂
  wrote_both v = record { put = put_put w.put v.put; room = omega (arith, v.room, put_length w.put) }

-- ---- types without parts

-- the only type of a value that stands there, and its record, which was written
pub record LeafAt (d : ℕ) (s : List ℕ) (at : ℕ) (out : List ℕ) (o p : ℕ) (out₁ : List ℕ) : Type 0 where
  pub type : Ty
  pub shaped : T (shaped_ty type)
  pub deep : depth type ≤ d
  pub only : (t : Ty) (e : ℕ) → Typed d s at t e → t ≡ type
  pub wrote : Wrote out o (ty_bytes type) p out₁

module _ {d : ℕ} {s : List ℕ} {at : ℕ} {out : List ℕ} {o p : ℕ} {out₁ : List ℕ} where
  -- F is how a type of that shape is written, by its kind's number
  leaf_at : (g : Kind → Ty) (F : ℕ → List ℕ) {k : ℕ} → ((j : Kind) → F (kind_no j) ≡ ty_bytes (g j)) → LeafFront d s at g k
      → Wrote out o (F k) p out₁ → LeafAt d s at out o p out₁
  leaf_at g F q f w =
      record {
        type = g f.kind;
        shaped = f.shaped;
        deep = f.deep;
        only = f.only;
        wrote = subst (λ (b : List ℕ). Wrote out o b p out₁)
            (ap F f.no ∙ q f.kind) w;
      }

  -- the front that was found and written, of no array and no struct
  pub front_leaf : (f : Head) → ((n : ℕ) → f ≡ Array n → ⊥) → ((i n : ℕ) → f ≡ Struct i n → ⊥) → FrontIs d s at (Some f)
      → Wrote out o (type_front f) p out₁ → LeafAt d s at out o p out₁
  unfolding ty_bytes
  front_leaf (Scalar k) a b x w = leaf_at Ts (λ i. type_front (Scalar i)) (λ j. refl) x w
  front_leaf (Vector n k) a b x w = leaf_at (Tv n) (λ i. type_front (Vector n i)) (λ j. refl) x w
  front_leaf (Matrix c r k) a b x w = leaf_at (Tm c r) (λ i. type_front (Matrix c r i)) (λ j. refl) x w
  front_leaf (Array n) a b x w = absurd (a n refl)
  front_leaf (Struct i n) a b x w = absurd (b i n refl)

  module _ (l : LeafAt d s at out o p out₁) where
    stood : Stands d out₁ o l.type p
    stood = put_stands l.type l.shaped l.deep l.wrote.put l.wrote.room

    pub leaf_stands : Standing d out₁ o
    leaf_stands = record { type = l.type; end = p; stands = stood }

    pub leaf_derives : (r : Option (ℕ × ℕ)) → ReadAs d out₁ o s at r → Derives d s at out o r out₁
    leaf_derives (Some (e, q)) h =
        let x = h l.type p stood in
        record { type = l.type; typed = record { fits = x.0; shaped = l.shaped; deep = l.deep }; wrote = rw x.1 l.wrote }
    leaf_derives None h = λ t e v. absurd (h l.type p stood e (subst (λ (u : Ty). Fits s at u e) (l.only t e v) v.fits))

-- ---- there is no room for the front

pub front_full : (d : ℕ) (s : List ℕ) (at : ℕ) (f : Head) → FrontIs d s at (Some f) → (out : List ℕ) (o : ℕ)
    → length out < o + length (type_front f)
    → (t : Ty) (e : ℕ) → Typed d s at t e → length out < o + length (ty_bytes t)
unfolding ty_bytes le
front_full d s at (Scalar k) x out o h t e w = rw (x.only t e w) h
front_full d s at (Vector n k) x out o h t e w = rw (x.only t e w) h
front_full d s at (Matrix c r k) x out o h t e w = rw (x.only t e w) h
front_full d s at (Array n) x out o h t e w = rw (x.only t e w).is (omega arith)
front_full d s at (Struct i n) x out o h t e w = rw (x.only t e w).is (omega arith)

-- ---- a type that was found stands where its record was written

pub found_stands : {d : ℕ} {s : List ℕ} {at : ℕ} {out : List ℕ} {o e q : ℕ} {out' : List ℕ} (x : Found d s at out o e q out')
    → Stands d out' o x.type q
found_stands x = put_stands x.type x.typed.shaped x.typed.deep x.wrote.put x.wrote.room

-- ---- arrays

module _ {d : ℕ} {s : List ℕ} {at n : ℕ} (f : ArrayFront d s at n) where
  array_typed : (t : Ty) (mid e : ℕ) → Typed (d - 1) s (at + 4) t mid → FitsAll s mid (copies (n - 1) t) e → Typed d s at (Ta n t) e
  unfolding parts_of front_bytes shaped_ty depth le u16
  array_typed t mid e v l =
      let h = f.deep in
      let i = f.some in
      record {
        fits = (parts_same s at (Ta n t) i f.starts e).0 ((each_on (n - 1) (omega arith) v.fits e).0 l);
        shaped = both (leb 1 n && leb n 65535) (shaped_ty t) (both (leb 1 n) (leb n 65535) (le→leb 1 n i) (le→leb n 65535 f.most))
            v.shaped;
        deep = omega (arith, v.deep);
      }

  -- the first element and the others
  pub record Split (u : Ty) (e : ℕ) : Type 0 where
    pub mid : ℕ
    pub first : Typed (d - 1) s (at + 4) u mid
    pub rest : FitsAll s mid (copies (n - 1) u) e

  pub array_apart : (u : Ty) (e : ℕ) → Typed d s at (Ta n u) e → Split u e
  unfolding parts_of front_bytes shaped_ty depth le u16
  array_apart u e v =
      let l : FitsAll s (at + 4) (copies n u) e = (parts_same s at (Ta n u) f.some f.starts e).1 v.fits in
      let x = first_fits s (at + 4) u (copies (n - 1) u) e (subst (λ (m : Tys). FitsAll s (at + 4) m e) (copies_more n u f.some) l) in
      record {
        mid = x.mid;
        first = record {
          fits = x.first;
          shaped = and_r (leb 1 n && leb n 65535) (shaped_ty u) v.shaped;
          deep = omega (arith, v.deep);
        };
        rest = x.rest;
      }

  module _ {out : List ℕ} {o p : ℕ} {out₁ : List ℕ} (w : Wrote out o (type_front (Array n)) p out₁) where
    pub array_stop : ((t : Ty) (e : ℕ) → Typed (d - 1) s (at + 4) t e → length out₁ < p + length (ty_bytes t))
        → (t : Ty) (e : ℕ) → Typed d s at t e → length out < o + length (ty_bytes t)
    unfolding ty_bytes le
    array_stop h t e v =
        let a = f.only t e v in
        let y = array_apart a.elem e (subst (λ (u : Ty). Typed d s at u e) a.is v) in
        let z = h a.elem y.mid y.first in
        rw a.is (omega (arith, z, w.put.end, put_length w.put))

    pub array_found : {out₂ : List ℕ} {mid q e : ℕ} (x : Found (d - 1) s (at + 4) out₁ p mid q out₂) → FitsAll s mid (copies (n - 1) x.type) e
        → Found d s at out o e q out₂
    unfolding ty_bytes le
    array_found {e = e} x l =
        record { type = Ta n x.type; typed = array_typed x.type _ e x.typed l; wrote = wrote_both w x.wrote }

    pub array_unlike : {out₂ : List ℕ} {mid q : ℕ} (x : Found (d - 1) s (at + 4) out₁ p mid q out₂)
        → ((e : ℕ) → FitsAll s mid (copies (n - 1) x.type) e → ⊥)
        → (t : Ty) (e : ℕ) → Typed d s at t e → length out < o + length (ty_bytes t)
    array_unlike {mid = mid} x h t e v =
        let a = f.only t e v in
        let y = array_apart a.elem e (subst (λ (u : Ty). Typed d s at u e) a.is v) in
        let i : a.elem ≡ x.type = same_typed (d - 1) (d - 1) s (at + 4) a.elem x.type y.mid mid y.first x.typed in
        let j : y.mid ≡ mid = fits_end s (at + 4) a.elem y.mid y.first.fits
        ∙ sym (fits_end s (at + 4) a.elem mid (subst (λ (u : Ty). Fits s (at + 4) u mid) (sym i) x.typed.fits)) in
        absurd (h e (subst (λ (u : Ty). FitsAll s mid (copies (n - 1) u) e) i
        (subst (λ (k : ℕ). FitsAll s k (copies (n - 1) a.elem) e) j y.rest)))

-- ---- structs

module _ {d : ℕ} {s : List ℕ} {at i n : ℕ} (f : StructFront d s at i n) where
  front_bytes_lem : (m : Tys) → length (tys_list m) ≡ n → front_bytes (Tu i m) ≡ 86 ∷ 117 ∷ i % 256 ∷ i / 256 % 256 ∷ n % 256 ∷ n / 256 % 256 ∷ []
  unfolding front_bytes le
  front_bytes_lem m c = rw c

  struct_same : (m : Tys) → length (tys_list m) ≡ n → Same (FitsAll s (at + 6) m) (Fits s at (Tu i m))
  unfolding parts_of
  struct_same m c =
      subst (λ (k : ℕ). Same (FitsAll s (at + k) m) (Fits s at (Tu i m))) (ap length (front_bytes_lem m c))
      (parts_same s at (Tu i m) tt (subst (Starts s at) (sym (front_bytes_lem m c)) f.starts))

  struct_typed : (m : Tys) (e : ℕ) → TypedAll (d - 1) s (at + 6) n m e → Typed d s at (Tu i m) e
  unfolding shaped_ty depth u16
  struct_typed m e v =
      let c : length (tys_list m) ≡ n = v.count in
      let l : ℕ = length (tys_list m) in
      let h = f.deep in
      record {
        fits = (struct_same m c e).0 v.fits;
        shaped = both (leb i 65535 && leb 1 l && leb l 1023) (shaped_tys m)
            (both (leb i 65535 && leb 1 l) (leb l 1023) (both (leb i 65535) (leb 1 l) (le→leb i 65535 f.id)
            (le→leb 1 l (omega (arith, f.some)))) (le→leb l 1023 (omega (arith, f.most)))) v.shaped;
        deep = omega (arith, v.deep);
      }

  pub struct_apart : (m : Tys) (e : ℕ) → length (tys_list m) ≡ n → Typed d s at (Tu i m) e → TypedAll (d - 1) s (at + 6) n m e
  unfolding shaped_ty depth u16
  struct_apart m e c v =
      let l : ℕ = length (tys_list m) in
      record {
        fits = (struct_same m c e).1 v.fits;
        shaped = and_r (leb i 65535 && leb 1 l && leb l 1023) (shaped_tys m) v.shaped;
        deep = omega (arith, v.deep);
        count = c;
      }

  type_bytes : (m : Tys) → length (tys_list m) ≡ n → ty_bytes (Tu i m) ≡ type_front (Struct i n) ++ tys_bytes m
  unfolding ty_bytes le
  type_bytes m c = rw c

  pub struct_derives : {out : List ℕ} {o p : ℕ} {out₁ : List ℕ} (out₂ : List ℕ) → Wrote out o (type_front (Struct i n)) p out₁
      → (r : Option (ℕ × ℕ)) → DerivesAll (d - 1) s (at + 6) n out₁ p r out₂ → Derives d s at out o r out₂
  struct_derives {out} {o} out₂ w (Some (e, q)) x =
      record {
        type = Tu i x.types;
        typed = struct_typed x.types e x.typed;
        wrote = subst (λ (b : List ℕ). Wrote out o b q out₂) (sym (type_bytes x.types x.typed.count)) (wrote_both w x.wrote);
      }
  struct_derives out₂ w None h = λ t e v.
      let a = f.only t e v in
      let z = h a.members e (struct_apart a.members e a.count (subst (λ (u : Ty). Typed d s at u e) a.is v)) in
      let y : length (ty_bytes (Tu i a.members)) ≡ length (type_front (Struct i n) ++ tys_bytes a.members) = ap length
      (type_bytes a.members a.count) in
      rw a.is (omega (arith, z, y, w.put.end, put_length w.put))

-- ---- the loop over members

-- the first of some values, and the others
pub record Firstly (d : ℕ) (s : List ℕ) (i left : ℕ) (m : Tys) (e : ℕ) : Type 0 where
  pub type : Ty
  pub others : Tys
  pub mid : ℕ
  pub is : m ≡ type ▸ others
  pub one : Typed d s i type mid
  pub rest : TypedAll d s mid (left - 1) others e

module _ {d : ℕ} {s : List ℕ} {i : ℕ} where
  pub firstly : {left : ℕ} {m : Tys} {e : ℕ} → 0 < left → TypedAll d s i left m e → Firstly d s i left m e
  unfolding tys_list shaped_tys depths
  firstly {m = [·]} h w = absurd (omega (arith, w.count))
  firstly {m = t ▸ m} {e} h w =
      let x = first_fits s i t m e w.fits in
      record {
        type = t;
        others = m;
        mid = x.mid;
        is = refl;
        one = record { fits = x.first; shaped = and_l (shaped_ty t) (shaped_tys m) w.shaped; deep = omega (arith, w.deep) };
        rest = record {
          fits = x.rest;
          shaped = and_r (shaped_ty t) (shaped_tys m) w.shaped;
          deep = omega (arith, w.deep);
          count = omega
              (arith, w.count);
        };
      }

module _ (d : ℕ) (s : List ℕ) (i : ℕ) (out : List ℕ) (p : ℕ) where
  pub members_end : (left : ℕ) → left ≡ 0 → i ≤ length s → p ≤ length out → DerivesAll d s i left out p (Some (i, p)) out
  unfolding tys_list shaped_tys depths ty_bytes
  members_end left z h l =
      record {
        types = [·];
        typed = record { fits = nil_fits s i h; shaped = tt; deep = omega arith; count = sym z };
        wrote = record { put = put_nil out p; room = l };
      }

  module _ (left : ℕ) (h : 0 < left) (out₁ : List ℕ) where
    pub members_stop : Derives d s i out p None out₁ → DerivesAll d s i left out p None out₁
    unfolding tys_bytes
    members_stop g m e w =
        let x = firstly h w in
        rw x.is (omega (arith, g x.type x.mid x.one, length-append (ty_bytes x.type) (tys_bytes x.others)))

    pub members_on : (others : ℕ) → left ≡ others + 1 → {e q : ℕ} → Found d s i out p e q out₁ → (r : Option (ℕ × ℕ)) (out₂ : List ℕ)
        → DerivesAll d s e others out₁ q r out₂ → DerivesAll d s i left out p r out₂
    unfolding tys_list shaped_tys depths tys_bytes
    members_on others c {e} x (Some (z, y)) out₂ v =
        record {
          types = x.type ▸ v.types;
          typed = record {
            fits = cons_fits s i x.type v.types e z x.typed.fits v.typed.fits;
            shaped = both (shaped_ty x.type) (shaped_tys v.types) x.typed.shaped v.typed.shaped;
            deep = omega (arith, x.typed.deep, v.typed.deep);
            count = omega (arith, v.typed.count);
          };
          wrote = wrote_both x.wrote v.wrote;
        }
    members_on others c {e} x None out₂ g = λ m z w.
        let f = firstly h w in
        let a : left - 1 ≡ others = omega arith in
        let j : f.type ≡ x.type = same_typed d d s i f.type x.type f.mid e f.one x.typed in
        let k : f.mid ≡ e = fits_end s i f.type f.mid f.one.fits
        ∙ sym (fits_end s i f.type e (subst (λ (u : Ty). Fits s i u e) (sym j) x.typed.fits)) in
        let y = g f.others z (rw (k, a) at f.rest) in
        let b : length (ty_bytes f.type) ≡ length (ty_bytes x.type) = ap (λ (u : Ty). length (ty_bytes u)) j in
        rw f.is (omega (
          arith,
          y,
          b,
          x.wrote.put.end,
          put_length x.wrote.put,
          length-append (ty_bytes f.type)
              (tys_bytes f.others),
        ))
