-- The rank between two types by their records, and what the one argument of `conversion_rank` has to be.
use mathlib.Core.Path.{◌≡◌, refl, sym, ap, ap₂, ◌∙◌, subst}
use mathlib.Core.Option.{Option, none, some}
use mathlib.Core.List.{List, [], ◌∷◌, ◌++◌, append-nil}
use mathlib.Core.Bool.{Bool, true, false, ◌&&◌, cond}
use Prim.Native.Nat.{ℕ, ◌-◌, ◌/◌, ◌%◌, ◌^◌, ◌≤◌}
use native.Mathlib.Omega.{arith}
use lib.Dec.{T, leb, eqb}
use lib.ListN.{length, get_or, length-append}
use lib.Seq.{take_at}
use Rattle.meaning.specs.Kinds.{Kind, bool, aint, afloat, i32, u32, f32, f16, kind_no, kind_rank, from_same, from_aint, from_afloat}
use Rattle.meaning.specs.Kinds.{is_float, same_kind}
use Rattle.meaning.specs.Scalars.{some?}
use Rattle.meaning.specs.Trees.{Ty, Ts, Tv, Tm, Ta, Tu, Target, Of, Tr, leaf, set_leaf, same_ty}
use Rattle.meaning.specs.Records.{le, ty_bytes, joined, every, side, u16, shaped_ty, good_ty, good_arg, good_tys}
use Rattle.meaning.specs.Read.{read_tys, read_target}
use Rattle.meaning.specs.Answers.{Result, no, or_no, ◌>>=◌, ◌>>◌}
use Rattle.meaning.specs.Convert.{rank, leaf_rank, converts}
use Rattle.meaning.specs.Entries.{only, rank_one, type_target, rank_answer}
use Rattle.laws.proofs.AgreeCommon.{set_set}
use Rattle.laws.proofs.AgreeConv.{set_same, none_some}
use Rattle.laws.proofs.AgreeLit.{kind_back}
use Rattle.laws.proofs.AgreeVec.{converts_lit}
use Rattle.laws.proofs.Back.{and_l, and_r}
use Rattle.laws.proofs.Exact.{tys_exact}
use Rattle.laws.proofs.Length.{bytes_same}
use Rattle.laws.proofs.Same.{both, same_ty_lem, same_refl}
use Rattle.laws.proofs.Sound.{Bytes}
use Rattle.kind.specs.Ends.{of_kind, numbered}
use Rattle.kind.proofs.Numbers.{table}
use Rattle.std.specs.Option.{ok_or, is_some}
use Rattle.std.specs.declared.option.Option as rust
use Rattle.error.specs.Refusals.{paper}
use Rattle.error.specs.declared.Refusal.TheVariants.{NoConversion}
use Rattle.rank.specs.Ranked.{rank_of, rank_between, kinds_from, KindConverts, front, rank_read}
use Rattle.ty.specs.Targets.{TypeTarget}
use Rattle.ty.specs.Heads.{leaf_of}
use Rattle.record.specs.Bytes.{same_bytes}
use Rattle.ty.proofs.Heads.{ScalarIs}
use Rattle.ty.proofs.Equal.{same_records}
use Rattle.ty.proofs.Leaves.{leaf_last}
use Rattle.ty.proofs.Bottom.{kind_is, struct_is}
use Rattle.ty.proofs.Targets.{whole_bytes, whole_good, of_target}
use Rattle.record.proofs.Places.{at_of}
use Rattle.record.proofs.Equal.{both_ways, bytes_path, bytes_refl}
use Rattle.ty.specs.Stands.{Whole}
use Rattle.std.specs.declared.option.Option.TheVariants.{None, Some}

-- opens what a rank between kinds computes by, as `table` does of one kind
unfoldable pub ranks : ℕ → ℕ → Option ℕ
unfolding table from_same from_aint from_afloat kind_rank kinds_from rank_of rank_between
ranks = rank_between

some_rank : (o : Option ℕ) → is_some (rank_of o) ≡ some? o
unfolding rank_of some?
some_rank none = refl
some_rank (some m) = refl

pub between : {j k : ℕ} (a b : Kind) → j ≡ kind_no a → k ≡ kind_no b → rank_between j k ≡ kind_rank a b
unfolding rank_between of_kind
between a b e f = rw (e, f, kind_back a, kind_back b)

-- ---- scalars by their kinds

pub for_kinds : (P : Kind → Type 0) → P bool → P aint → P afloat → P i32 → P u32 → P f32 → P f16 → (k : Kind) → P k
for_kinds P p q r s t u v bool = p
for_kinds P p q r s t u v aint = q
for_kinds P p q r s t u v afloat = r
for_kinds P p q r s t u v i32 = s
for_kinds P p q r s t u v u32 = t
for_kinds P p q r s t u v f32 = u
for_kinds P p q r s t u v f16 = v

-- the bit of b among the kinds to which a converts
abbrev BitIs : Kind → Kind → Type 0
BitIs a b = eqb (kinds_from a / 2 ^ kind_no b % 2) 1 ≡ some? (kind_rank a b)

bit_is : (a b : Kind) → BitIs a b
unfolding some? kind_rank from_same from_aint from_afloat same_kind kind_no kinds_from
bit_is bool = for_kinds (BitIs bool) refl refl refl refl refl refl refl
bit_is aint = for_kinds (BitIs aint) refl refl refl refl refl refl refl
bit_is afloat = for_kinds (BitIs afloat) refl refl refl refl refl refl refl
bit_is i32 = for_kinds (BitIs i32) refl refl refl refl refl refl refl
bit_is u32 = for_kinds (BitIs u32) refl refl refl refl refl refl refl
bit_is f32 = for_kinds (BitIs f32) refl refl refl refl refl refl refl
bit_is f16 = for_kinds (BitIs f16) refl refl refl refl refl refl refl

pub kind_most : (k : Kind) → kind_no k ≤ 6
unfolding kind_no
kind_most = for_kinds (λ k. kind_no k ≤ 6) (omega arith) (omega arith) (omega arith) (omega arith) (omega arith) (omega arith) (omega arith)

pub kind_goes : {from to : ℕ} (a b : Kind) → from ≡ kind_no a → to ≡ kind_no b
    → eqb (numbered kinds_from from / 2 ^ to % 2) 1 ≡ converts (Ts a) (Ts b)
unfolding of_kind
kind_goes a b e f = rw (e, f, kind_back a) (bit_is a b ∙ sym (converts_lit a b))

-- a type of three bytes is a scalar
pub three_scalar : {s : List ℕ} {t : Ty} → Whole s t → length s ≡ 3 → ScalarIs 15 s 0 (get_or s 2 0) t (length s)
unfolding ty_bytes le
three_scalar {s} {t = Ts k} w h = record { kind = k; no = at_of s _ 0 w.here 2; is = refl; end = sym h }
three_scalar {t = Tv n k} w h = absurd (omega (arith, w.size))
three_scalar {t = Tm c r k} w h = absurd (omega (arith, w.size))
three_scalar {t = Ta n u} w h = absurd (omega (arith, w.size))
three_scalar {t = Tu i m} w h = absurd (omega (arith, w.size))

pub scalars_convert : {a b : List ℕ} {t u : Ty} → Whole a t → length a ≡ 3 → Whole b u → length b ≡ 3 → {r : Bool}
    → KindConverts (get_or a 2 0) (get_or b 2 0) r → r ≡ converts t u
scalars_convert w h v i f =
    let x = three_scalar w h in
    let y = three_scalar v i in
    f x.kind y.kind x.no y.no ∙ ap₂ converts (sym x.is) (sym y.is)

-- ---- the shape of a type is its record but for the last byte

front_of : (s f : List ℕ) (k : ℕ) → s ≡ f ++ (k ∷ []) → front s ≡ f
front_of s f k e = ap front e ∙ take_at f (k ∷ []) (length (f ++ (k ∷ [])) - 1) (omega (arith, length-append f (k ∷ [])))

-- any shape may have F32 at the bottom
set_shaped : (t : Ty) {j : Kind} → leaf t ≡ some j → T (shaped_ty t) → T (shaped_ty (set_leaf f32 t))
unfolding leaf set_leaf shaped_ty is_float same_kind kind_no
set_shaped (Ts i) h g = g
set_shaped (Tv n i) h g = g
set_shaped (Tm c r i) h g = both (side c && side r) true (and_l (side c && side r) (is_float i) g) tt
set_shaped (Ta n t) h g = both (leb 1 n && u16 n) (shaped_ty (set_leaf f32 t)) (and_l (leb 1 n && u16 n) (shaped_ty t) g)
    (set_shaped t h (and_r (leb 1 n && u16 n) (shaped_ty t) g))
set_shaped (Tu i m) h g = absurd (none_some h)

module _ {a b : List ℕ} {t u : Ty} (w : Whole a t) (v : Whole b u) where
  equal : same_bytes a b ≡ same_ty t u
  equal = rw (whole_bytes w, whole_bytes v) (same_records t u w.shaped v.shaped)

  module _ {j k : Kind} (g : leaf t ≡ some j) (h : leaf u ≡ some k) where
    shape : same_bytes (front a) (front b) ≡ same_ty (set_leaf k t) u
    shape =
        let x = leaf_last t g in
        let y = leaf_last u h in
        let p : front a ≡ x.front = front_of a x.front (kind_no j) (whole_bytes w ∙ x.bytes) in
        let q : front b ≡ y.front = front_of b y.front (kind_no k) (whole_bytes v ∙ y.bytes) in
        both_ways (same_bytes (front a) (front b)) (same_ty (set_leaf k t) u)
        (λ e.
        let f : x.front ≡ y.front = sym p ∙ (bytes_path (front a) (front b) e ∙ q) in
        let z : ty_bytes (set_leaf f32 t) ≡ ty_bytes (set_leaf f32 u) = x.other f32
        ∙ (ap (λ (l : List ℕ). l ++ (kind_no f32 ∷ [])) f ∙ sym (y.other f32)) in
        let m : set_leaf f32 t ≡ set_leaf f32 u = bytes_same (set_leaf f32 t) (set_leaf f32 u) (set_shaped t g w.shaped)
        (set_shaped u h v.shaped) z in
        let n : set_leaf k t ≡ u = sym (set_set f32 k t) ∙ (ap (set_leaf k) m ∙ (set_set f32 k u ∙ set_same u k h)) in
        subst (λ (c : Ty). T (same_ty (set_leaf k t) c)) n (same_refl (set_leaf k t)))
        (λ e.
        let m : ty_bytes u ≡ x.front ++ (kind_no k ∷ []) = ap ty_bytes (sym (same_ty_lem (set_leaf k t) u e)) ∙ x.other k in
        let f : x.front ≡ y.front = sym (front_of (ty_bytes u) x.front (kind_no k) m)
        ∙ front_of (ty_bytes u) y.front (kind_no k) y.bytes in
        subst (λ (l : List ℕ). T (same_bytes (front a) l)) (p ∙ (f ∙ sym q)) (bytes_refl (front a)))

    by_shape : {c : Bool} → c ≡ same_bytes (front a) (front b) → leaf_rank t u (leaf t) (leaf u) ≡ cond c (kind_rank j k) none
    unfolding leaf_rank
    by_shape o = rw (g, h, sym (o ∙ shape))

  -- ---- the rank, by what the code asks

  pub rank_same : {r : Bool} → r ≡ same_bytes a b → r ≡ true → Some 0 ≡ rank_of (rank t u)
  unfolding rank rank_of
  rank_same p q = rw (sym equal ∙ (sym p ∙ q))

  module _ {r : Bool} (p : r ≡ same_bytes a b) (q : r ≡ false) where
    other : rank t u ≡ leaf_rank t u (leaf t) (leaf u)
    unfolding rank
    other = rw (sym equal ∙ (sym p ∙ q))

    pub rank_from_struct : None ≡ leaf_of (leaf t) → None ≡ rank_of (rank t u)
    unfolding leaf_rank rank_of
    rank_from_struct e = rw (other, struct_is (leaf t) e)

    module _ {j : ℕ} (e : Some j ≡ leaf_of (leaf t)) where
      pub rank_to_struct : None ≡ leaf_of (leaf u) → None ≡ rank_of (rank t u)
      unfolding leaf_rank rank_of
      rank_to_struct f = let x = kind_is j (leaf t) e in rw (other, x.is, struct_is (leaf u) f)

      module _ {k : ℕ} (f : Some k ≡ leaf_of (leaf u)) {c : Bool} (o : c ≡ same_bytes (front a) (front b)) where
        shaped : rank t u ≡ cond c (rank_between j k) none
        shaped =
            let x = kind_is j (leaf t) e in
            let y = kind_is k (leaf u) f in
            other ∙ (by_shape x.is y.is o ∙ ap (λ (n : Option ℕ). cond c n none) (sym (between x.kind y.kind x.no y.no)))

        pub rank_shape : c ≡ true → rank_of (rank_between j k) ≡ rank_of (rank t u)
        rank_shape h = rw (shaped, h)

        pub rank_no_shape : c ≡ false → None ≡ rank_of (rank t u)
        unfolding rank_of
        rank_no_shape h = rw (shaped, h)

-- ---- answers

-- no rank is 9
pub rank_told : (o : Option ℕ) {r : rust.Option ℕ} → r ≡ rank_of o → paper (ok_or r NoConversion) ≡ or_no 9 o
unfolding rank_of paper
rank_told none e = rw e refl
rank_told (some m) e = rw e refl

pub rank_converts : (t u : Ty) {r : rust.Option ℕ} → r ≡ rank_of (rank t u) → is_some r ≡ converts t u
unfolding converts
rank_converts t u e = rw e (some_rank (rank t u))

module _ (s args : List ℕ) where
  pub of_answer : {t : Ty} → read_target s ≡ some (Of t) → rank_answer s args ≡ rank_read (Of t) args
  unfolding rank_answer rank_read type_target
  of_answer e = rw e

  pub tr_answer : {t : Ty} → read_target s ≡ some (Tr t) → rank_answer s args ≡ rank_read (Tr t) args
  unfolding rank_answer rank_read type_target
  tr_answer e = rw e

  pub no_answer : {o : Option Target} → read_target s ≡ o → (or_no 1 o >>= type_target) ≡ no 1 → rank_answer s args ≡ no 1
  unfolding rank_answer
  no_answer {o} e h = rw e (go o h)
    where
      go : (o : Option Target) → (or_no 1 o >>= type_target) ≡ no 1 →
          (or_no 1 o >>= λ g. type_target g >> (or_no 2 (read_tys g args) >>= λ l. only l >>= rank_one g)) ≡ no 1
      go none h = refl
      go (some g) h = ap (λ (r : Result (Unit {0})). r >> (or_no 2 (read_tys g args) >>= λ l. only l >>= rank_one g)) h

-- ---- the one argument

module _ (g : Target) (same : (t : Ty) → good_arg g t ≡ good_ty t) {s : List ℕ} where
  pub one_read : (x : TypeTarget s) → rank_read g s ≡ rank_one g x.ends.type
  unfolding rank_read good_tys every joined only good_ty
  one_read x =
      let t = x.ends.type in
      let h : T (good_ty t) = whole_good 4096 x.ends.stands (omega (arith, x.most)) in
      let k : T (good_tys g (t ∷ [])) = both (good_arg g t && true) true (both (good_arg g t) true (rw (same t) h) tt) tt in
      let r : read_tys g s ≡ some (t ∷ []) = ap (read_tys g) (whole_bytes x.ends.stands ∙ sym (append-nil (ty_bytes t)))
      ∙ (tys_exact g).back (t ∷ []) k in
      rw r

  not_one : Bytes s → (TypeTarget s → ⊥) → (t : Ty) → read_tys g s ≡ some (t ∷ []) → ⊥
  unfolding good_tys every joined
  not_one b f t e =
      let y = (tys_exact g).sound s (t ∷ []) b e in
      let h : T (good_arg g t) = and_l (good_arg g t) true (and_l (good_arg g t && true) true y.1) in
      f (of_target t (y.0 ∙ append-nil (ty_bytes t)) (rw (same t) at h))

  pub none_read : Bytes s → (TypeTarget s → ⊥) → no 2 ≡ rank_read g s
  unfolding rank_read only
  none_read b f = go (read_tys g s) refl
    where
      go : (o : Option (List Ty)) → read_tys g s ≡ o → no 2 ≡ (or_no 2 o >>= λ l. only l >>= rank_one g)
      go none e = refl
      go (some []) e = refl
      go (some (t ∷ [])) e = absurd (not_one b f t e)
      go (some (t ∷ u ∷ l)) e = refl
