-- The rules for untemplated shapes, by what the code asks.
use mathlib.Core.Path.{◌≡◌, refl, sym, ap, ◌∙◌, subst}
use mathlib.Core.Option.{Option as Maybe, none, some}
use mathlib.Core.List.{List, [], ◌∷◌, map}
use mathlib.Core.Bool.{Bool, true, false}
use Prim.Native.Nat.{ℕ}
use lib.Dec.{eqb}
use lib.ListN.{length}
use borrow.Author.Tests.{eq-eqb, ne_eqb}
use Rattle.meaning.specs.Kinds.{Kind, aint, kind_no}
use Rattle.meaning.specs.Trees.{Ty, Ts, Tv, Tm, Ta, Tu, Qv, Qm, inner}
use Rattle.meaning.specs.Answers.{Result, ok, no, miscount, or_no, need, need_count, all, map_some, ◌>>=◌, ◌>>◌}
use Rattle.meaning.specs.Convert.{common, float_kind}
use Rattle.meaning.specs.Build.{lit_kind, mat_shape, same_size}
use Rattle.meaning.specs.Typing.{typed, type_qv_one, type_qv, type_qm, type_qm_one, part_of, total}
use Rattle.ty.specs.Heads.{head_of}
use Rattle.ty.specs.declared.Head.TheVariants.{Scalar, Vector}
use Rattle.ty.proofs.Heads.{scalar_is, vector_is}
use Rattle.ty.specs.Stands.{Whole}
use Rattle.ty.proofs.Bottom.{KindIs}
use Rattle.shape.specs.TypeRows.{TypeRow}
use Rattle.shape.specs.Kinds.{found_of}
use Rattle.arg_types.specs.Components.{Gives, Passes, common_kind_from, PartKinds}
use Rattle.arg_types.proofs.Given.{MoreGiven}
use Rattle.arg_types.proofs.KindsLeft.{split_kinds, kinds_common}
use Rattle.infer_type.specs.Shapes.{Names, type_float}
use Rattle.error.specs.declared.Refusal.TheVariants.{NoCommonType}
use Rattle.std.specs.Option.{ok_or}
use Rattle.std.specs.declared.option.Option.{Option}
use Rattle.infer_type.specs.Shapes.{Named}
use Rattle.std.specs.declared.result.Result.TheVariants.{Ok, Err}

pub names_as : {x y : Result Ty} (make : Kind → Ty) (r : Named) → x ≡ y → Names make y r → Names make x r
names_as make (Ok k) e h = (h.0, h.1, e ∙ h.2)
names_as make (Err n) e h = e ∙ h

-- ---- `Qv` of one argument

module _ {args : List ℕ} {a : Ty} (w : Whole args a) (n : ℕ) where
  pub one_scalar : {k : ℕ} → Scalar k ≡ head_of a → Names (Tv n) (type_qv_one n a) (Ok k)
  unfolding type_qv_one
  one_scalar h = let x = scalar_is w h in (x.kind, x.no, ap (type_qv_one n) x.is)

  module _ {m k : ℕ} (h : Vector m k ≡ head_of a) where
    pub one_vector : m ≡ n → Names (Tv n) (type_qv_one n a) (Ok k)
    unfolding type_qv_one
    one_vector q = let x = vector_is w h in (x.kind, x.no, ap (type_qv_one n) x.is ∙ (rw (eq-eqb m n q)))

    pub one_other : (m ≡ n → ⊥) → type_qv_one n a ≡ no 12
    unfolding type_qv_one
    one_other q = ap (type_qv_one n) (vector_is w h).is ∙ (rw (ne_eqb m n q))

-- ---- `Qv` of several

-- the kinds that two types or more bring
pub record KindsOf (s : List ℕ) (l : List Ty) : Type 0 where
  pub first : Kind
  pub others : List Kind
  pub kinds : PartKinds s l first others

pub kinds_of : {s : List ℕ} {l : List Ty} → TypeRow s 0 l → MoreGiven l → {r : Bool} → Passes 12 (all part_of l) r → r ≡ true → KindsOf s l
kinds_of {s} {l} x m p h =
    let g : Gives (all part_of l) = subst (Passes 12 (all part_of l)) h p in
    let y = split_kinds m.first (m.second ∷ m.others) (subst (λ (u : List Ty). all part_of u ≡ ok g.value) m.is g.is) in
    record { first = y.head; others = y.tail; kinds = record { row = x; parts = g.is ∙ ap ok y.is } }

-- from the kinds on
kinds_name : ℕ → List Kind → Result Ty
kinds_name n ks = or_no 10 (common (map Ts ks)) >>= λ t. or_no 10 (lit_kind t) >>= λ k. ok (Tv n k)

module _ (n : ℕ) (l : List Ty) where
  by_parts : {x : Result (List Kind)} → all part_of l ≡ x → type_qv n l ≡
      (x >>= λ ks. need_count (eqb (total l) n) n (length l) >> kinds_name n ks)
  unfolding type_qv kinds_name
  by_parts e = rw e

  pub qv_not : {r : Bool} → Passes 12 (all part_of l) r → r ≡ false → type_qv n l ≡ no 12
  qv_not p h = by_parts (subst (Passes 12 (all part_of l)) h p)

  module _ {s : List ℕ} {k : Kind} {ks : List Kind} (x : PartKinds s l k ks) where
    pub qv_miscount : (total l ≡ n → ⊥) → type_qv n l ≡ miscount n (length l)
    qv_miscount q = by_parts x.parts ∙ (rw (ne_eqb (total l) n q))

    module _ (q : total l ≡ n) where
      by_kinds : {o : Maybe Kind} → common_kind_from (some k) ks ≡ o → type_qv n l ≡
          (or_no 10 (map_some Ts o) >>= λ t. or_no 10 (lit_kind t) >>= λ k. ok (Tv n k))
      unfolding kinds_name common map_some
      by_kinds e = by_parts x.parts ∙ (rw (eq-eqb (total l) n q)
          (ap (λ (o : Maybe Ty). or_no 10 o >>= λ t. or_no 10 (lit_kind t) >>= λ k. ok (Tv n k))
          (kinds_common (some k) ks ∙ ap (map_some Ts) e)))

      -- the common kind, or none
      pub qv_named : {r : Option ℕ} → r ≡ found_of (common_kind_from (some k) ks)
          → Names (Tv n) (type_qv n l) (ok_or r NoCommonType)
      unfolding found_of map_some lit_kind
      qv_named p = rw p (go (common_kind_from (some k) ks) refl)
        where
          go : (o : Maybe Kind) → common_kind_from (some k) ks ≡ o
              → Names (Tv n) (type_qv n l) (ok_or (found_of o) NoCommonType)
          go none e = by_kinds e
          go (some j) e = (j, refl, by_kinds e)

module _ (n : ℕ) {l : List Ty} where
  pub qv_none : l ≡ [] → Names (Tv n) (typed (Qv n) l) (Ok 1)
  unfolding typed kind_no
  qv_none e = (aint, refl, rw e)

  pub qv_one_lem : {a : Ty} → l ≡ a ∷ [] → typed (Qv n) l ≡ type_qv_one n a
  unfolding typed
  qv_one_lem e = rw e

  pub qv_more : MoreGiven l → typed (Qv n) l ≡ type_qv n l
  unfolding typed
  qv_more x = ap (typed (Qv n)) x.is ∙ ap (type_qv n) (sym x.is)

-- ---- `Qm` by the common type

module _ (c r n : ℕ) (t : Ty) where
  pub float_named : {k : ℕ} (x : KindIs k (float_kind (inner t))) → type_float c r n t ≡ (mat_shape c r t n >> ok (Tm c r x.kind))
  unfolding type_float
  float_named x = let z = x.is in rw z

  pub float_none : float_kind (inner t) ≡ none → type_float c r n t ≡ no 13
  unfolding type_float
  float_none h = rw h

module _ (c r : ℕ) (l : List Ty) where
  pub qm_never : common l ≡ none → type_qm c r l ≡ no 10
  unfolding type_qm
  qm_never h = rw h

  pub qm_some : {n : ℕ} {t : Ty} → n ≡ length l → common l ≡ some t → type_qm c r l ≡ type_float c r n t
  unfolding type_qm type_float
  qm_some e h = rw (h, e)

-- ---- `Qm` of one matrix

module _ (c r : ℕ) {t : Ty} where
  -- of whichever size
  pub qm_sized : {a b : ℕ} {k : Kind} → t ≡ Tm a b k → {s : Bool} → same_size c r a b ≡ s
      → type_qm_one c r t ≡ (need s 7 >> ok (Tm a b k))
  unfolding type_qm_one
  qm_sized e q = rw (e, q)

  pub qm_other : ((a b : ℕ) (k : Kind) → t ≡ Tm a b k → ⊥) → type_qm_one c r t ≡ type_qm c r (t ∷ [])
  unfolding type_qm_one
  qm_other f = go t f
    where
      go : (u : Ty) → ((a b : ℕ) (k : Kind) → u ≡ Tm a b k → ⊥) → type_qm_one c r u ≡ type_qm c r (u ∷ [])
      go (Ts k) f = refl
      go (Tv n k) f = refl
      go (Tm a b k) f = absurd (f a b k refl)
      go (Ta n u) f = refl
      go (Tu i m) f = refl

module _ (c r : ℕ) {l : List Ty} where
  pub qm_none : l ≡ [] → typed (Qm c r) l ≡ no 11
  unfolding typed
  qm_none e = rw e

  pub qm_one_lem : {a : Ty} → l ≡ a ∷ [] → typed (Qm c r) l ≡ type_qm_one c r a
  unfolding typed
  qm_one_lem e = rw e

  pub qm_more : MoreGiven l → typed (Qm c r) l ≡ type_qm c r l
  unfolding typed
  qm_more x = ap (typed (Qm c r)) x.is ∙ ap (type_qm c r) (sym x.is)
