-- The arms of `walk_extent`, and the loop over members: size, alignment and the table.
use mathlib.Core.Path.{◌≡◌, refl, sym, ap, ◌∙◌, subst}
use mathlib.Core.List.{List}
use mathlib.Core.Bool.{◌&&◌}
use Prim.Native.Nat.{ℕ, ◌+◌, ◌-◌, ◌*◌, ◌^◌, ◌≤◌, ◌<◌, max}
use native.Mathlib.Omega.{arith}
use lib.Dec.{T, leb, leb→le}
use lib.ListN.{length, set}
use lib.Seq.{get_or-set_same, get_or-set_other}
use Rattle.meaning.specs.Kinds.{Kind, kind_no, is_float}
use Rattle.meaning.specs.Trees.{Ty, Ts, Tv, Tm, Ta, Tu, Tys}
use Rattle.meaning.specs.Records.{ty_bytes, tys_bytes, side, shaped_ty}
use Rattle.meaning.specs.Layout.{scalar_size, vec_align, round_up, align_of, most_align, col_stride, size_of, past_last, stride}
use Rattle.laws.proofs.Back.{and_l, and_r}
use Rattle.ty.specs.Stands.{StandAll, Standing}
use Rattle.ty.specs.Heads.{HeadAt}
use Rattle.ty.specs.declared.Head.TheVariants.{Scalar, Vector, Matrix, Array, Struct}
use Rattle.ty.proofs.Heads.{any_front, scalar_is, vector_is, matrix_is, array_is, struct_is, first_is, none_is, FirstIs}
use Rattle.ty.proofs.Lens.{times_more}
use Rattle.memory.specs.Sizes.{Align}
use Rattle.memory.specs.Padding.{Padded, PaddedAll}
use Rattle.memory.proofs.Length.{type_long, past_more}
use Rattle.memory.proofs.Sizes.{size_of_lem, size_small}
use Rattle.memory.proofs.RoundUp.{align_some, up_more, vec_align_lem, align_is, most_align_lem}
use Rattle.layout.specs.Extents.{extent, past_of, ScalarExtent, VectorExtent, Times, Rounds, Outside, Extended, Extends}
use Rattle.layout.specs.Extents.{ExtendedAll, ExtendsAll}
use Rattle.layout.specs.declared.Extent.{Extent}
use Rattle.layout.proofs.Extents.{extent_is, extent_long, is_extent, SizeIs, long_extent, is_past, long_past}
use Rattle.layout.proofs.Extents.{vector_fits}
use Rattle.layout.proofs.Tables.{Agree, padded_same, padded_all_same, set_past, none_outside, set_outside, both_outside}
use Rattle.std.specs.declared.option.Option.{Option}
use Rattle.std.specs.declared.option.Option.TheVariants.{None, Some}

-- ---- what is worked out for each type

scalar_small : (j : Kind) → scalar_size j ≤ 4
scalar_small j = omega (arith, size_small (kind_no j), size_of_lem j)

module _ {pads : List ℕ} {at e : ℕ} where
  too_long : (t : Ty) {pads' : List ℕ} → 2 ^ 64 ≤ size_of t → Extended t at e pads None pads'
  too_long t l =
      record {
        is = sym (extent_long e (size_of t) (align_of t) l);
        table = λ f. absurd (omega arith);
        others = λ f. absurd (omega arith);
      }

  scalar_at : (j : Kind) {x : Extent} {a : ℕ} → a ≡ e → x ≡ extent a (scalar_size j) (scalar_size j)
      → Extended (Ts j) at e pads (Some x) pads
  unfolding size_of align_of Padded
  scalar_at j i h =
      record {
        is = rw (h, i) (sym (extent_is e (scalar_size j) (scalar_size j) (omega (arith, scalar_small j))));
        table = λ f. tt;
        others = λ f. none_outside at e pads;
      }

  vector_at : (n : ℕ) (j : Kind) {x : Extent} {a : ℕ} → n ≤ 4 → a ≡ e → x ≡ extent a (n * scalar_size j) (vec_align n j)
      → Extended (Tv n j) at e pads (Some x) pads
  unfolding size_of align_of Padded
  vector_at n j m i h =
      let l = vector_fits {w = n} {s = scalar_size j} (omega arith) (scalar_small j) in
      record {
        is = rw (h, i) (sym (extent_is e (n * scalar_size j) (vec_align n j) (omega arith)));
        table = λ f. tt;
        others = λ f. none_outside at e pads;
      }

  array_long : (n : ℕ) (u : Ty) {pads' : List ℕ} → 1 ≤ n → 2 ^ 64 ≤ round_up (align_of u) (size_of u)
      → Extended (Ta n u) at e pads None pads'
  unfolding size_of stride
  array_long n u g l = too_long (Ta n u) (omega (arith, times_more n (round_up (align_of u) (size_of u)) g))

  module _ {pads₁ : List ℕ} where
    matrix_long : (c l : ℕ) (j : Kind) {x : Extent} {a : ℕ} → 1 ≤ c → a ≡ e
        → x ≡ extent a (l * scalar_size j) (vec_align l j)
        → Rounds x at pads None pads₁ → Extended (Tm c l j) at e pads None pads₁
    unfolding size_of col_stride
    matrix_long c l j {x} g i h z =
        let n : ℕ = l * scalar_size j in
        let v : ℕ = vec_align l j in
        let z' = subst (λ (y : Extent). Rounds y at pads None pads₁) h z in
        too_long (Tm c l j) (omega (arith, times_more c (round_up v n) g, long_extent _ (round_up v n) v z'.is))

    matrix_at : (c l : ℕ) (j : Kind) {x y : Extent} {r : Option Extent} {a : ℕ} → 1 ≤ c → at < e → at < length pads
        → a ≡ e
        → x ≡ extent a (l * scalar_size j) (vec_align l j) → Rounds x at pads (Some y) pads₁
        → Times c y r → Extended (Tm c l j) at e pads r pads₁
    unfolding size_of align_of Padded col_stride
    matrix_at c l j {x} {y} {r} g k f i h z o =
        let n : ℕ = l * scalar_size j in
        let v : ℕ = vec_align l j in
        let z' = subst (λ (u : Extent). Rounds u at pads (Some y) pads₁) (rw i at h) z in
        let q = is_extent e (round_up v n) v z'.is in
        let m = z'.table q.fits in
        record {
          is = subst (λ (u : Extent). Times c u r) q.is o;
          table = λ u. rw m (get_or-set_same pads at (round_up v n - n) 0 f);
          others = λ u. rw m (set_outside at e at (round_up v n - n) (omega arith) (omega arith) (omega arith) k
              (none_outside at e pads));
        }

    array_past : (n : ℕ) (u : Ty) → 1 ≤ n → Extended u (at + 4) e pads None pads₁
        → Extended (Ta n u) at e pads None pads₁
    array_past n u g p =
        array_long n u g
        (omega (arith, up_more (align_of u) (align_is u) (size_of u), long_extent e (size_of u) (align_of u) p.is))

    struct_past : (i : ℕ) (m : Tys) → ExtendedAll m (at + 6) e pads None pads₁ → Extended (Tu i m) at e pads None pads₁
    unfolding size_of
    struct_past i m p =
        too_long (Tu i m)
        (let l = long_extent e (past_last 0 m) (most_align m) p.is in
        omega (arith, up_more (most_align m) (most_align_lem m) (past_last 0 m)))

    module _ {x : Extent} {pads₂ : List ℕ} where
      array_over : (n : ℕ) (u : Ty) → 1 ≤ n → Extended u (at + 4) e pads (Some x) pads₁ → Rounds x at pads₁ None pads₂
          → Extended (Ta n u) at e pads None pads₂
      array_over n u g p z =
          let q = is_extent e (size_of u) (align_of u) p.is in
          let z' = subst (λ (y : Extent). Rounds y at pads₁ None pads₂) q.is z in
          array_long n u g (long_extent e (round_up (align_of u) (size_of u)) (align_of u) z'.is)

      array_at : (n : ℕ) (u : Ty) {y : Extent} {r : Option Extent} → e ≡ at + 4 + length (ty_bytes u)
          → at < length pads₁
          → Extended u (at + 4) e pads (Some x) pads₁ → Rounds x at pads₁ (Some y) pads₂
          → Times n y r → Extended (Ta n u) at e pads r pads₂
      unfolding size_of align_of Padded stride
      array_at n u {y} {r} k f p z o =
          let w : ℕ = round_up (align_of u) (size_of u) in
          let i = is_extent e (size_of u) (align_of u) p.is in
          let z' = subst (λ (v : Extent). Rounds v at pads₁ (Some y) pads₂) i.is z in
          let q = is_extent e w (align_of u) z'.is in
          let m = z'.table q.fits in
          record {
            is = subst (λ (v : Extent). Times n v r) q.is o;
            table = λ v. rw m (
              get_or-set_same pads₁ at (w - size_of u) 0 f,
              padded_same pads₁ (set pads₁ at (w - size_of u)) (at + 4) u
                  (get_or-set_other pads₁ at (at + 4) (w - size_of u) 0 (λ t. omega arith))
                  (set_past pads₁ at (w - size_of u) _ _ (omega arith)) (p.table i.fits),
            );
            others = λ v. rw m
                (set_outside at e at (w - size_of u) (omega arith) (omega arith) (omega arith) (omega arith) (p.others i.fits));
          }

      struct_at : (i : ℕ) (m : Tys) {r : Option Extent} → e ≡ at + 6 + length (tys_bytes m) → at < length pads₁
          → ExtendedAll m (at + 6) e pads (Some x) pads₁ → Rounds x at pads₁ r pads₂
          → Extended (Tu i m) at e pads r pads₂
      unfolding size_of align_of Padded
      struct_at i m {r} k f p z =
          let n : ℕ = past_last 0 m in
          let w : ℕ = round_up (most_align m) n in
          let q = is_extent e n (most_align m) p.is in
          let z' = subst (λ (v : Extent). Rounds v at pads₁ r pads₂) q.is z in
          record {
            is = z'.is;
            table = λ v. rw (z'.table v) (
              get_or-set_same pads₁ at (w - n) 0 f,
              padded_all_same pads₁ (set pads₁ at (w - n)) (at + 6) 0 m (set_past pads₁ at (w - n) _ _ (omega arith))
                  (p.table q.fits),
            );
            others = λ v. rw (z'.table v)
                (set_outside at e at (w - n) (omega arith) (omega arith) (omega arith) (omega arith)
                (p.others q.fits));
          }

-- ---- by the front

side_small : (n : ℕ) → T (side n) → (1 ≤ n) × (n ≤ 4)
unfolding side
side_small n h = (omega (arith, leb→le 2 n (and_l (leb 2 n) (leb n 4) h)), leb→le n 4 (and_r (leb 2 n) (leb n 4) h))

vector_side : (n : ℕ) (k : Kind) → T (shaped_ty (Tv n k)) → n ≤ 4
unfolding shaped_ty
vector_side n k h = (side_small n h).1

matrix_side : (c r : ℕ) (k : Kind) → T (shaped_ty (Tm c r k)) → 1 ≤ c
unfolding shaped_ty
matrix_side c r k h = (side_small c (and_l (side c) (side r) (and_l (side c && side r) (is_float k) h))).0

module _ {d : ℕ} {s : List ℕ} {at : ℕ} {pads : List ℕ} where
  pub scalar_extended : {k : ℕ} {x : Extent} → HeadAt d s at (Scalar k) → ScalarExtent (at + 3) k x
      → Extends d s at pads (Some x) pads
  scalar_extended h z t e w = let y = scalar_is w (h t e w) in rw y.is (scalar_at y.kind y.end (z y.kind y.no))

  pub vector_extended : {n k : ℕ} {x : Extent} → HeadAt d s at (Vector n k) → VectorExtent (at + 6) n k x
      → Extends d s at pads (Some x) pads
  vector_extended {n} h z t e w =
      let y = vector_is w (h t e w) in
      let g = vector_side n y.kind (subst (λ (u : Ty). T (shaped_ty u)) y.is w.shaped) in
      rw y.is (vector_at n y.kind g y.end (z y.kind y.no))

  module _ {c b k : ℕ} (h : HeadAt d s at (Matrix c b k)) {x : Extent} (v : VectorExtent (at + 7) b k x) {pads₁ : List ℕ} where
    pub matrix_past : Rounds x at pads None pads₁ → Extends d s at pads None pads₁
    matrix_past z t e w =
        let y = matrix_is w (h t e w) in
        let g = matrix_side c b y.kind (subst (λ (u : Ty). T (shaped_ty u)) y.is w.shaped) in
        rw y.is (matrix_long c b y.kind g y.end (v y.kind y.no) z)

    pub matrix_extended : {y : Extent} {r : Option Extent} {n : ℕ} → length s ≤ length pads
        → Rounds x at pads (Some y) pads₁ → n ≡ c
        → Times n y r → Extends d s at pads r pads₁
    matrix_extended {y = u} {r} l z o i t e w =
        let y = matrix_is w (h t e w) in
        let g = matrix_side c b y.kind (subst (λ (u : Ty). T (shaped_ty u)) y.is w.shaped) in
        rw y.is (matrix_at c b y.kind g (omega (arith, y.end)) (omega (arith, any_front w)) y.end (v y.kind y.no) z
        (subst (λ (n : ℕ). Times n u r) o i))

  module _ {n : ℕ} (h : HeadAt d s at (Array n)) {pads₁ : List ℕ} where
    pub array_too : Extends (d - 1) s (at + 4) pads None pads₁ → Extends d s at pads None pads₁
    array_too v t e w = let y = array_is w (h t e w) in rw y.is (array_past n y.elem y.some (v y.elem e y.part))

    module _ {x : Extent} (v : Extends (d - 1) s (at + 4) pads (Some x) pads₁) {pads₂ : List ℕ} where
      pub array_rounded : Rounds x at pads₁ None pads₂ → Extends d s at pads None pads₂
      array_rounded z t e w = let y = array_is w (h t e w) in rw y.is (array_over n y.elem y.some (v y.elem e y.part) z)

      pub array_extended : {y : Extent} {r : Option Extent} → length s ≤ length pads₁ → Rounds x at pads₁ (Some y) pads₂
          → Times n y r → Extends d s at pads r pads₂
      array_extended l z i t e w =
          let y = array_is w (h t e w) in
          rw y.is (array_at n y.elem y.part.size (omega (arith, any_front w)) (v y.elem e y.part) z i)

  module _ {i n : ℕ} (h : HeadAt d s at (Struct i n)) {pads₁ : List ℕ} where
    pub struct_too : ExtendsAll (d - 1) s (at + 6) n pads None pads₁ → Extends d s at pads None pads₁
    struct_too v t e w = let y = struct_is w (h t e w) in rw y.is (struct_past i y.members (v y.members e y.parts))

    pub struct_extended : {x : Extent} {r : Option Extent} {pads₂ : List ℕ}
        → ExtendsAll (d - 1) s (at + 6) n pads (Some x) pads₁
        → length s ≤ length pads₁ → Rounds x at pads₁ r pads₂ → Extends d s at pads r pads₂
    struct_extended v l z t e w =
        let y = struct_is w (h t e w) in
        rw y.is (struct_at i y.members y.parts.size (omega (arith, any_front w)) (v y.members e y.parts) z)

-- what is rounded is aligned: after `head_at`, for the type that stands there
module _ {d : ℕ} {s : List ℕ} {at : ℕ} (p : Standing d s at) {x : Extent} where
  pub matrix_aligned : {c l k : ℕ} → HeadAt d s at (Matrix c l k) → VectorExtent (at + 7) l k x → Align x.align
  matrix_aligned {l = l} h v =
      let y = matrix_is p.stands (h p.type p.end p.stands) in rw (v y.kind y.no) (vec_align_lem l y.kind)

  pub array_aligned : {n : ℕ} {pads pads₁ : List ℕ} → HeadAt d s at (Array n)
      → Extends (d - 1) s (at + 4) pads (Some x) pads₁
      → Align x.align
  array_aligned h v =
      let y = array_is p.stands (h p.type p.end p.stands) in
      rw (is_extent p.end (size_of y.elem) (align_of y.elem) (v y.elem p.end y.part).is).align (align_is y.elem)

  pub struct_aligned : {i n : ℕ} {pads pads₁ : List ℕ} → HeadAt d s at (Struct i n)
      → ExtendsAll (d - 1) s (at + 6) n pads (Some x) pads₁ → Align x.align
  struct_aligned h v =
      let y = struct_is p.stands (h p.type p.end p.stands) in
      rw (is_extent p.end (past_last 0 y.members) (most_align y.members) (v y.members p.end y.parts).is).align
      (most_align_lem y.members)

-- ---- the loop over members

-- of the members m₀, whose types stand from `at` on, those from i on are left; any table that agrees with this one
-- before i, and is that of what is left from there on, is that of the whole
pub record ExtentLeft (d : ℕ) (s : List ℕ) (m₀ : Tys) (e at : ℕ) (pads₀ : List ℕ) (i end most left : ℕ) (pads : List ℕ) : Type 0 where
  pub types : Tys
  pub stands : StandAll d s i left types e
  pub from : at ≤ i
  pub sums : past_last end types ≡ past_last 0 m₀
  pub aligns : max most (most_align types) ≡ most_align m₀
  pub others : Outside at i pads₀ pads
  pub makes : (q : List ℕ) → Agree pads q at i → PaddedAll q i end types → PaddedAll q at 0 m₀

pub extent_all : {d : ℕ} {s : List ℕ} {m : Tys} {e at n left : ℕ} {pads : List ℕ} → left ≡ n → StandAll d s at n m e
    → ExtentLeft d s m e at pads at 0 1 left pads
extent_all {m = m} {at = at} {pads = pads} k w =
    record {
      types = m;
      stands = rw k w;
      from = omega arith;
      sums = refl;
      aligns = omega
          (arith, align_some (most_align m) (most_align_lem m));
      others = none_outside at at pads;
      makes = λ q a x. x;
    }

module _ {d : ℕ} {s : List ℕ} {m₀ : Tys} {e at : ℕ} {pads₀ : List ℕ} {i end most left : ℕ} {pads : List ℕ}
    (w : ExtentLeft d s m₀ e at pads₀ i end most left pads) where
  module _ (h : 0 < left) where
    firstly : FirstIs d s i left w.types e
    firstly = first_is w.stands h

    pub extent_first : Standing d s i
    extent_first = record { type = firstly.type; end = firstly.mid; stands = firstly.first }

    pub extent_front : i + 3 ≤ length s
    extent_front = any_front firstly.first

    past : ℕ
    past = round_up (align_of firstly.type) end + size_of firstly.type

    ends : past_last 0 m₀ ≡ past_last past firstly.others
    unfolding past_last past
    ends = sym w.sums ∙ ap (past_last end) firstly.is

    -- where this member is past 64 bits, all are
    over : {x : List ℕ} → 2 ^ 64 ≤ past → ExtendedAll m₀ at e pads₀ None x
    over l =
        let a : 2 ^ 64 ≤ past_last 0 m₀ = omega (arith, ends, past_more past firstly.others) in
        record {
          is = sym (extent_long e (past_last 0 m₀) (most_align m₀) a);
          table = λ f. absurd (omega arith);
          others = λ f. absurd (omega arith);
        }

    pub extent_too : {x pads₁ : List ℕ} → Extends d s i pads None pads₁ → ExtendedAll m₀ at e pads₀ None x
    unfolding past
    extent_too q =
        let f = firstly in
        over (omega (arith, long_extent f.mid (size_of f.type) (align_of f.type) (q f.type f.mid f.first).is))

    module _ {y : Extent} {pads₁ : List ℕ} (q : Extends d s i pads (Some y) pads₁) where
      its : Extended firstly.type i firstly.mid pads (Some y) pads₁
      its = q firstly.type firstly.mid firstly.first

      said : SizeIs y firstly.mid (size_of firstly.type) (align_of firstly.type)
      said = is_extent firstly.mid (size_of firstly.type) (align_of firstly.type) its.is

      pub extent_align : Align y.align
      extent_align = rw said.align (align_is firstly.type)

      module _ {g : ℕ} (b : g ≡ round_up y.align end - end) where
        comes : end + g + y.size ≡ past
        unfolding past
        comes =
            let u = up_more y.align extent_align end in
            let v : round_up y.align end ≡ round_up (align_of firstly.type) end = ap (λ (x : ℕ). round_up x end) said.align in
            omega (arith, said.size)

        pub extent_over : {x : List ℕ} → None ≡ past_of (end + g + y.size) → ExtendedAll m₀ at e pads₀ None x
        extent_over z = over (omega (arith, comes, long_past (end + g + y.size) z))

        pub extent_again : {p v left' : ℕ} → Some p ≡ past_of (end + g + y.size) → v ≡ max most y.align
            → left' ≡ left - 1
            → length pads₁ ≡ length pads → length pads ≡ length pads₀ → length s ≤ length pads₀
            → ExtentLeft d s m₀ e at pads₀ y.end p v left' (set pads₁ (i + 1) g)
        unfolding PaddedAll past most_align
        extent_again {p = p} z u k l₁ l₀ l =
            let f = firstly in
            let x = said in
            let xe = x.end in
            let fs = f.first.size in
            let fw = f.first.within in
            let long = type_long f.type in
            let wf = w.from in
            let o = its.others x.fits in
            let c : p ≡ past = (is_past p (end + g + y.size) z).0 ∙ comes in
            let b' : g ≡ round_up (align_of f.type) end - end = rw x.align at b in
            record {
              types = f.others;
              stands = rw (x.end, k) f.rest;
              from = omega arith;
              sums = rw c (sym ends);
              aligns = omega (arith, w.aligns, ap most_align f.is, x.align);
              others = rw x.end (set_outside at f.mid (i + 1) g (omega arith) (omega arith) (omega arith) (omega arith)
                  (both_outside wf (omega arith) w.others o));
              makes = λ u agree rest.
                  w.makes u (λ j lo hi. agree j lo (omega arith) ∙
                  (get_or-set_other pads₁ (i + 1) j g 0 (λ t. omega arith) ∙ o.below j hi)) (
                  subst (λ (m : Tys). PaddedAll u i end m) (sym f.is) (
                    agree (i + 1) (omega arith) (omega arith) ∙ (get_or-set_same pads₁ (i + 1) g 0 (omega arith) ∙ b'),
                    padded_same pads₁ u i f.type
                        (agree i wf (omega arith) ∙ get_or-set_other pads₁ (i + 1) i g 0 (λ t. omega arith))
                        (λ j lo hi. agree j (omega arith) (omega arith) ∙ get_or-set_other pads₁ (i + 1) j g 0 (λ t. omega arith))
                        (its.table x.fits),
                    subst (λ (j : ℕ). PaddedAll u j past f.others) (xe ∙ fs)
                        (subst (λ (j : ℕ). PaddedAll u y.end j f.others) c rest),
                  )
                  );
            }

  pub extent_none : left ≡ 0 → end < 2 ^ 64 → 1 ≤ most → ExtendedAll m₀ at e pads₀ (Some (extent i end most)) pads
  unfolding PaddedAll past_last most_align
  extent_none h l o =
      let x = none_is w.stands h in
      let a : end ≡ past_last 0 m₀ = ap (past_last end) (sym x.0) ∙ w.sums in
      let b : most ≡ most_align m₀ = omega (arith, ap (λ (y : Tys). max most (most_align y)) (sym x.0) ∙ w.aligns) in
      record {
        is = rw (x.1, ← a, ← b) (sym (extent_is e end most l));
        table = λ f. w.makes pads (λ j u v. refl) (rw x.0 tt);
        others = λ f. subst (λ (j : ℕ). Outside at j pads₀ pads) x.1 w.others;
      }
