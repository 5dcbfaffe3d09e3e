-- Parts and their common type: a scalar's, and then every argument is a literal or a vector; or another, and then none is.
use mathlib.Core.Path.{◌≡◌, refl, sym, ap, ap₂, ◌∙◌, subst}
use mathlib.Core.Option.{Option, none, some}
use mathlib.Core.List.{List, [], ◌∷◌, ◌++◌, map}
use mathlib.Core.Bool.{Bool, true, false, ◌&&◌}
use Prim.Native.Nat.{ℕ}
use lib.Dec.{T}
use lib.ListN.{length, get_or}
use borrow.Author.Tests.{eq-eqb, ne_eqb}
use Rattle.meaning.specs.Kinds.{Kind, kind_no}
use Rattle.meaning.specs.Scalars.{some?}
use Rattle.meaning.specs.Trees.{Ty, Ts, Tv, Tm, Ta, Tu, Val, Vs, Vv, Vm, Va, Vu, type_of, set_leaf}
use Rattle.meaning.specs.Records.{‘s’, ty_bytes, every, side, shaped_ty}
use Rattle.meaning.specs.Answers.{Result, ok, no, miscount, or_no, ◌>>=◌, all_some, map_some}
use Rattle.meaning.specs.Convert.{converts, conv_val, common}
use Rattle.meaning.specs.Build.{parts, flattened, payload, lit_kind, qv_parts}
use Rattle.laws.proofs.AgreeBuild.{AllOk}
use Rattle.laws.proofs.AgreeCommon.{common_all}
use Rattle.laws.proofs.AgreeConv.{How, stays, changes, how, none_some, every_append}
use Rattle.laws.proofs.AgreeVec.{to_scalar, scalar_append, not_to_scalar}
use Rattle.laws.proofs.Back.{and_l, and_r}
use Rattle.laws.proofs.Same.{both}
use Rattle.ty.specs.Stands.{Stands}
use Rattle.record.proofs.Places.{at_of}
use Rattle.ty.proofs.Heads.{ScalarIs, scalar_by}
use Rattle.args.specs.Row.{Row}
use Rattle.args.proofs.ArgumentRows.{each_ok}
use Rattle.common_type.specs.CommonTypes.{CommonIs}
use Rattle.convert_all.specs.Lists.{all_to, AskedFit}
use Rattle.convert_all.proofs.ConvertedLists.{common_to}
use Rattle.shape.proofs.Downs.{some_of, none_of}
use Rattle.vector.specs.VectorParts.{flat, pay_to}
use Rattle.vector.specs.VectorRules.{InCommon}
use Rattle.vector.proofs.Lits.{to_pays, pays_back}

-- ---- the count (8), and no common type (10)

pub qv_miscount : (n m : ℕ) (l : List Val) → (m ≡ n → ⊥) → m ≡ length l → qv_parts n l ≡ miscount n m
unfolding qv_parts
qv_miscount n m l h e = rw (sym e, ne_eqb m n h)

pub qv_never : (n m : ℕ) (l : List Val) → m ≡ n → m ≡ length l → common (map type_of l) ≡ none → qv_parts n l ≡ no 10
unfolding qv_parts
qv_never n m l q e h = rw (sym e, eq-eqb m n q, h)

-- ---- the common type that was found

pub in_common : {n m : ℕ} {args ty : List ℕ} {l : List Val} → Row args 0 l → (f : CommonIs (common (map type_of (flattened l))) ty)
    → m ≡ length (flattened l) → m ≡ n → InCommon n args ty l f.type
in_common x f e h = record { row = x; whole = f.whole; is = f.is; count = sym e ∙ h }

-- ---- to a scalar's type only literals convert

part_flat : (k : Kind) (v : Val) → T (to_scalar k (parts v)) → T (flat v)
unfolding parts flat to_scalar every type_of lit_kind
part_flat k (Vs j p) h = tt
part_flat k (Vv j ps) h = tt
part_flat k (Vm c r j ps) h = rw (not_to_scalar (Tm c r j) k refl) at h
part_flat k (Va l) h = rw (not_to_scalar (type_of (Va l)) k refl) at h
part_flat k (Vu i l) h = rw (not_to_scalar (type_of (Vu i l)) k refl) at h

scalars_flat : (k : Kind) (l : List Val) → T (to_scalar k (flattened l)) → T (every flat l)
unfolding flattened every
scalars_flat k [] h = tt
scalars_flat k (v ∷ l) h =
    let g : T (to_scalar k (parts v) && to_scalar k (flattened l)) = subst T (scalar_append k (parts v) (flattened l)) h in
    both (flat v) (every flat l) (part_flat k v (and_l (to_scalar k (parts v)) (to_scalar k (flattened l)) g))
    (scalars_flat k l (and_r (to_scalar k (parts v)) (to_scalar k (flattened l)) g))

-- ---- to another type no literal does

not_from_scalar : (j : Kind) (t : Ty) → T (converts (Ts j) t) → lit_kind t ≡ none → ⊥
unfolding lit_kind set_leaf
not_from_scalar j t c h = go (how (Ts j) t c)
  where
    go : How (Ts j) t → ⊥
    go (stays e f) = none_some (sym h ∙ ap lit_kind (sym e))
    go (changes i k e f q r) = none_some (sym h ∙ ap lit_kind (sym q))

-- so each argument is one part
part_whole : (t : Ty) (v : Val) → T (shaped_ty (type_of v)) → lit_kind t ≡ none → T (all_to t (parts v)) → parts v ≡ v ∷ []
unfolding parts type_of every shaped_ty side
part_whole t (Vs j p) g h c = refl
part_whole t (Vv j []) g h c = absurd g
part_whole t (Vv j (p ∷ ps)) g h c = absurd (not_from_scalar j t (and_l (converts (Ts j) t) (all_to t (map (Vs j) ps)) c) h)
part_whole t (Vm x y j ps) g h c = refl
part_whole t (Va l) g h c = refl
part_whole t (Vu i l) g h c = refl

parts_whole : (t : Ty) (l : List Val) → AllOk l → lit_kind t ≡ none → T (all_to t (flattened l)) → flattened l ≡ l
unfolding flattened
parts_whole t [] g h c = refl
parts_whole t (v ∷ l) g h c =
    let d : T (all_to t (parts v) && all_to t (flattened l)) = subst T (every_append (λ w. converts (type_of w) t) (parts v) (flattened l))
    c in
    ap₂ ◌++◌ (part_whole t v g.1 h (and_l (all_to t (parts v)) (all_to t (flattened l)) d))
    (parts_whole t l g.2 h (and_r (all_to t (parts v)) (all_to t (flattened l)) d))

-- ---- the common type t, by its record

other_kind : {d : ℕ} {s : List ℕ} {e : ℕ} (t : Ty) → Stands d s 0 t e → (get_or s 1 0 ≡ ‘s’ → ⊥) → lit_kind t ≡ none
unfolding lit_kind ty_bytes
other_kind {s = s} (Ts k) w h = absurd (h (at_of s _ 0 w.here 1))
other_kind (Tv n k) w h = refl
other_kind (Tm c r k) w h = refl
other_kind (Ta n t) w h = refl
other_kind (Tu i m) w h = refl

-- building from the common type on
rest : Ty → Option Kind → Option (List Val) → Result Val
rest t o x = or_no 10 x >>= λ ws. or_no 12 o >>= λ k. or_no 12 (all_some payload ws) >>= λ ps. ok (Vv k ps)

module _ {n : ℕ} {args ty : List ℕ} {l : List Val} {t : Ty} (x : InCommon n args ty l t) where
  by_common : qv_parts n (flattened l) ≡ rest t (lit_kind t) (all_some (conv_val t) (flattened l))
  unfolding qv_parts rest
  by_common = rw (eq-eqb (length (flattened l)) n x.count, x.is)

  all_to_lem : T (all_to t (flattened l))
  all_to_lem = common_to (flattened l) t x.is

  -- ---- a scalar's

  module _ (m : get_or ty 1 0 ≡ ‘s’) where
    scalar : ScalarIs 15 ty 0 (get_or ty 2 0) t (length ty)
    scalar = scalar_by x.whole m

    pub common_kind : Kind
    common_kind = scalar.kind

    pub common_no : get_or ty 2 0 ≡ kind_no common_kind
    unfolding common_kind
    common_no = scalar.no

    pub common_flat : T (every flat l)
    unfolding common_kind to_scalar
    common_flat = scalars_flat common_kind l (subst (λ (u : Ty). T (every (λ a. converts a u) (map type_of (flattened l)))) scalar.is
        (common_all (map type_of (flattened l)) t x.is))

    by_pays : qv_parts n (flattened l) ≡ (or_no 10 (all_some (pay_to common_kind) (flattened l)) >>= λ ps. ok (Vv common_kind ps))
    unfolding common_kind rest lit_kind map_some
    by_pays = by_common ∙ (ap (λ (u : Ty). rest u (lit_kind u) (all_some (conv_val u) (flattened l))) scalar.is
        ∙ (ap (rest (Ts scalar.kind) (some scalar.kind)) (to_pays scalar.kind (flattened l))
        ∙ go (all_some (pay_to scalar.kind) (flattened l))))
      where
        go : (o : Option (List ℕ)) → rest (Ts scalar.kind) (some scalar.kind) (map_some (map (Vs scalar.kind)) o) ≡
            (or_no 10 o >>= λ ps. ok (Vv scalar.kind ps))
        go none = refl
        go (some ps) = rw (pays_back scalar.kind ps)

    pub qv_none : all_some (pay_to common_kind) (flattened l) ≡ none → qv_parts n (flattened l) ≡ no 10
    qv_none e = by_pays ∙ (rw e)

    pub qv_some : (ps : List ℕ) → all_some (pay_to common_kind) (flattened l) ≡ some ps → qv_parts n (flattened l) ≡ ok (Vv common_kind ps)
    qv_some ps e = by_pays ∙ (rw e)

  -- ---- another

  module _ (m : get_or ty 1 0 ≡ ‘s’ → ⊥) where
    no_scalar : lit_kind t ≡ none
    no_scalar = other_kind t x.whole m

    whole : flattened l ≡ l
    whole = parts_whole t l (each_ok l x.row.each) no_scalar all_to_lem

    pub asked_fit : AskedFit args 0 15 ty 0
    asked_fit = record {
      values = l;
      row = x.row;
      type = t;
      end = length ty;
      stands = x.whole;
      converts = subst
          (λ (a : List Val). T (all_to t a)) whole all_to_lem;
    }

    by_whole : qv_parts n (flattened l) ≡ rest t none (all_some (conv_val t) l)
    by_whole = by_common ∙ (ap (λ (o : Option Kind). rest t o (all_some (conv_val t) (flattened l))) no_scalar
        ∙ ap (λ (a : List Val). rest t none (all_some (conv_val t) a)) whole)

    module _ {r : Bool} (f : r ≡ some? (all_some (conv_val t) l)) where
      pub qv_unfit : r ≡ false → qv_parts n (flattened l) ≡ no 10
      unfolding rest
      qv_unfit e = by_whole ∙ ap (rest t none) (none_of (all_some (conv_val t) l) (sym e ∙ f))

      pub qv_not_scalar : r ≡ true → qv_parts n (flattened l) ≡ no 12
      unfolding rest
      qv_not_scalar e = by_whole ∙ ap (rest t none) (some_of (all_some (conv_val t) l) (sym e ∙ f)).1
