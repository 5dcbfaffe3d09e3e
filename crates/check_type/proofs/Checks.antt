-- The rules for a type record as the target, by what the code asks.
use mathlib.Core.Path.{◌≡◌, refl, sym, ap, ◌∙◌, subst}
use mathlib.Core.Option.{none}
use mathlib.Core.List.{List, [], ◌∷◌}
use mathlib.Core.Bool.{Bool, true, false}
use Prim.Native.Nat.{ℕ}
use native.Mathlib.Omega.{arith}
use lib.Dec.{eqb}
use lib.ListN.{length}
use borrow.Author.Tests.{eq-eqb, ne_eqb}
use Rattle.meaning.specs.Kinds.{Kind, kind_no, is_abstract}
use Rattle.meaning.specs.Trees.{Ty, Ts, Tv, Tm, Ta, Tu, Tys, Of, tys_list}
use Rattle.meaning.specs.Records.{every}
use Rattle.meaning.specs.Answers.{Result, ok, no, miscount, need, need_count, all, ◌>>◌}
use Rattle.meaning.specs.Convert.{converts}
use Rattle.meaning.specs.Build.{lit_kind}
use Rattle.meaning.specs.Typing.{typed, typeable, type_one, type_more, type_scalar, type_vec_one, type_vec, type_array, type_struct, part_to}
use Rattle.meaning.specs.Typing.{total, memberwise_ty}
use Rattle.laws.proofs.AgreeLit.{kind_back}
use Rattle.kind.specs.Ends.{of_kind, tested}
use Rattle.ty.specs.Heads.{head_of}
use Rattle.ty.specs.declared.Head.TheVariants.{Scalar, Vector}
use Rattle.ty.proofs.Heads.{scalar_is, vector_is}
use Rattle.ty.specs.Stands.{Whole}
use Rattle.rank.specs.Ranked.{KindConverts}
use Rattle.ty.proofs.Bottom.{KindIs}
use Rattle.arg_types.specs.Given.{Given, Members}
use Rattle.arg_types.specs.Components.{Passes}
use Rattle.arg_types.proofs.Given.{MoreGiven}
use Rattle.check_type.specs.Rules.{Rules, StructIs}
use Rattle.check_type.specs.Rules.{Checked}
use Rattle.std.specs.declared.result.Result.TheVariants.{Ok, Err}

pub rules_as : {A : Type 0} {x y : Result A} (a : A) (r : Checked) → x ≡ y → Rules y a r → Rules x a r
rules_as a (Ok u) e h = e ∙ h
rules_as a (Err n) e h = e ∙ h

-- ---- the target is refused whatever the arguments are, or it is not

pub of_refused : (t : Ty) (l : List Ty) {n : ℕ} → typeable t ≡ no n → typed (Of t) l ≡ no n
unfolding typed
of_refused t [] h = rw h
of_refused t (a ∷ []) h = rw h
of_refused t (a ∷ b ∷ l) h = rw h

module _ (t : Ty) (h : typeable t ≡ ok tt) {l : List Ty} where
  pub of_none : l ≡ [] → typed (Of t) l ≡ ok t
  unfolding typed
  of_none e = rw (e, h)

  pub of_one : {a : Ty} → l ≡ a ∷ [] → typed (Of t) l ≡ type_one t a
  unfolding typed
  of_one e = rw (e, h)

  pub of_more : MoreGiven l → typed (Of t) l ≡ type_more t l
  unfolding typed
  of_more x = let e = x.is in ap (typed (Of t)) e ∙ (rw h (ap (type_more t) (sym e)))

module _ {k : ℕ} (j : Kind) (e : k ≡ kind_no j) {r : Bool} (p : r ≡ tested is_abstract k) where
  is_abstract_lem : r ≡ is_abstract j
  unfolding of_kind
  is_abstract_lem = p ∙ (rw (e, kind_back j))

  pub scalar_abstract : r ≡ true → typeable (Ts j) ≡ no 4
  unfolding typeable
  scalar_abstract h = rw (sym is_abstract_lem ∙ h)

  pub scalar_typeable : r ≡ false → typeable (Ts j) ≡ ok tt
  unfolding typeable
  scalar_typeable h = rw (sym is_abstract_lem ∙ h)

  pub vector_abstract : (m : ℕ) → r ≡ true → typeable (Tv m j) ≡ no 16
  unfolding typeable
  vector_abstract m h = rw (sym is_abstract_lem ∙ h)

  pub vector_typeable : (m : ℕ) → r ≡ false → typeable (Tv m j) ≡ ok tt
  unfolding typeable
  vector_typeable m h = rw (sym is_abstract_lem ∙ h)

-- ---- a scalar

pub scalar_more : (j : Kind) (l : List Ty) → type_more (Ts j) l ≡ no 5
unfolding type_more
scalar_more j l = refl

pub scalar_one : (j : Kind) (a : Ty) {k : ℕ} → KindIs k (lit_kind a) → type_one (Ts j) a ≡ ok (Ts j)
unfolding type_one type_scalar lit_kind
scalar_one j (Ts i) x = refl
scalar_one j (Tv n i) x = absurd (let q = x.is in let z : ◌≡◌ {A = ℕ} 0 1 = cc in omega arith)
scalar_one j (Tm c r i) x = absurd (let q = x.is in let z : ◌≡◌ {A = ℕ} 0 1 = cc in omega arith)
scalar_one j (Ta n t) x = absurd (let q = x.is in let z : ◌≡◌ {A = ℕ} 0 1 = cc in omega arith)
scalar_one j (Tu i m) x = absurd (let q = x.is in let z : ◌≡◌ {A = ℕ} 0 1 = cc in omega arith)

pub scalar_not : (j : Kind) (a : Ty) → lit_kind a ≡ none → type_one (Ts j) a ≡ no 5
unfolding type_one type_scalar lit_kind
scalar_not j (Ts i) h = absurd (let z : ◌≡◌ {A = ℕ} 0 1 = cc in omega arith)
scalar_not j (Tv n i) h = refl
scalar_not j (Tm c r i) h = refl
scalar_not j (Ta n t) h = refl
scalar_not j (Tu i m) h = refl

-- ---- a vector

pub vector_one : (m : ℕ) (j : Kind) (a : Ty) → type_one (Tv m j) a ≡ type_vec_one m j a
unfolding type_one
vector_one m j a = refl

pub vector_more : (m : ℕ) (j : Kind) (l : List Ty) → type_more (Tv m j) l ≡ type_vec m j l
unfolding type_more
vector_more m j l = refl

module _ {args : List ℕ} {a : Ty} (w : Whole args a) (m : ℕ) (j : Kind) where
  module _ {i k : ℕ} (h : Scalar i ≡ head_of a) (e : k ≡ kind_no j) {r : Bool} (f : KindConverts i k r) where
    by_kinds : type_vec_one m j a ≡ (need r 7 >> ok (Tv m j))
    unfolding type_vec_one
    by_kinds = let x = scalar_is w h in ap (type_vec_one m j) x.is ∙ ap (λ (b : Bool). need b 7 >> ok (Tv m j))
        (sym (f x.kind j x.no e))

    pub one_converts : r ≡ true → type_vec_one m j a ≡ ok (Tv m j)
    one_converts q = by_kinds ∙ (rw q)

    pub one_not : r ≡ false → type_vec_one m j a ≡ no 7
    one_not q = by_kinds ∙ (rw q)

  module _ {p k : ℕ} (h : Vector p k ≡ head_of a) where
    pub one_same : p ≡ m → type_vec_one m j a ≡ ok (Tv m j)
    unfolding type_vec_one
    one_same q = ap (type_vec_one m j) (vector_is w h).is ∙ (rw (eq-eqb p m q))

    pub one_other : (p ≡ m → ⊥) → type_vec_one m j a ≡ no 7
    unfolding type_vec_one
    one_other q = ap (type_vec_one m j) (vector_is w h).is ∙ (rw (ne_eqb p m q))

module _ (m : ℕ) (j : Kind) (l : List Ty) {r : Bool} (p : Passes 12 (all (part_to j) l) r) where
  pub parts_not : r ≡ false → type_vec m j l ≡ no 12
  unfolding type_vec
  parts_not h = let z : all (part_to j) l ≡ no 12 = subst (Passes 12 (all (part_to j) l)) h p in ap
      (λ (x : Result (List Kind)). x >> (need_count (eqb (total l) m) m (length l) >> ok (Tv m j))) z

  module _ (h : r ≡ true) where
    counted : type_vec m j l ≡ (need_count (eqb (total l) m) m (length l) >> ok (Tv m j))
    unfolding type_vec
    counted = ap (λ (x : Result (List Kind)). x >> (need_count (eqb (total l) m) m (length l) >> ok (Tv m j)))
        (subst (Passes 12 (all (part_to j) l)) h p).is

    pub parts_miscount : (total l ≡ m → ⊥) → type_vec m j l ≡ miscount m (length l)
    parts_miscount q = counted ∙ (rw (ne_eqb (total l) m q))

    pub parts_pass : total l ≡ m → type_vec m j l ≡ ok (Tv m j)
    parts_pass q = counted ∙ (rw (eq-eqb (total l) m q))

-- ---- an array

module _ (m : ℕ) (t : Ty) (l : List Ty) where
  array_typed : (l : List Ty) → typed (Of (Ta m t)) l ≡ type_array m t l
  unfolding typed typeable type_one type_more type_array every
  array_typed [] = refl
  array_typed (a ∷ []) = refl
  array_typed (a ∷ b ∷ l) = refl

  module _ {r : Bool} (p : r ≡ every (λ a. converts a t) l) where
    pub array_no : r ≡ false → typed (Of (Ta m t)) l ≡ no 7
    unfolding type_array
    array_no h = array_typed l ∙ (rw (sym p ∙ h))

    pub array_pass : r ≡ true → typed (Of (Ta m t)) l ≡ ok (Ta m t)
    unfolding type_array
    array_pass h = array_typed l ∙ (rw (sym p ∙ h))

-- ---- a struct

module _ (i : ℕ) (ms : Tys) where
  pub struct_typeable : typeable (Tu i ms) ≡ ok tt
  unfolding typeable
  struct_typeable = refl

  module _ (l : List Ty) (f : l ≡ [] → ⊥) where
    struct_typed : typed (Of (Tu i ms)) l ≡ type_struct i ms l
    unfolding typed typeable type_one type_more
    struct_typed = go l f
      where
        go : (l : List Ty) → (l ≡ [] → ⊥) → typed (Of (Tu i ms)) l ≡ type_struct i ms l
        go [] f = absurd (f refl)
        go (a ∷ []) f = refl
        go (a ∷ b ∷ l) f = refl

    pub struct_miscount : (length l ≡ length (tys_list ms) → ⊥) → typed (Of (Tu i ms)) l ≡ miscount (length (tys_list ms)) (length l)
    unfolding type_struct
    struct_miscount q = struct_typed ∙ (rw (ne_eqb (length l) (length (tys_list ms)) q))

    module _ (q : length l ≡ length (tys_list ms)) {r : Bool} (p : r ≡ memberwise_ty (tys_list ms) l) where
      pub struct_no : r ≡ false → typed (Of (Tu i ms)) l ≡ no 9
      unfolding type_struct
      struct_no h = struct_typed ∙ (rw (eq-eqb (length l) (length (tys_list ms)) q, sym p ∙ h))

      pub struct_pass : r ≡ true → typed (Of (Tu i ms)) l ≡ ok (Tu i ms)
      unfolding type_struct
      struct_pass h = struct_typed ∙ (rw (eq-eqb (length l) (length (tys_list ms)) q, sym p ∙ h))

pub members_of : {target args : List ℕ} {n m : ℕ} {ms : Tys} {l : List Ty} → StructIs target m ms → Given args n l → n ≡ m
    → Members args target l (tys_list ms)
members_of x g e = record { given = g.row; members = x.members; equal = omega (arith, x.count, g.count) }
