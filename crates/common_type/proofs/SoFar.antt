-- The common type, item by item: the type so far and the types that the items left bring come to the whole.
use mathlib.Core.Path.{◌≡◌, refl, sym, ap, ◌∙◌, subst}
use mathlib.Core.Option.{Option as Maybe, none, some}
use mathlib.Core.List.{List, [], ◌∷◌, map}
use mathlib.Core.Bool.{Bool}
use Prim.Native.Nat.{ℕ, ◌≤◌, ◌<◌}
use native.Mathlib.Omega.{arith}
use lib.ListN.{length, take}
use Rattle.meaning.specs.Trees.{Ty, Val, type_of}
use Rattle.meaning.specs.Records.{ty_bytes}
use Rattle.meaning.specs.Convert.{meet, common_from, common}
use Rattle.laws.proofs.AgreeBuild.{AllOk}
use Rattle.laws.proofs.AgreeCommon.{from_none}
use Rattle.ty.specs.Stands.{Stands, Whole}
use Rattle.ty.proofs.Places.{put_stands}
use Rattle.ty.proofs.FrontOfBuffer.{front_whole}
use Rattle.ty.proofs.Targets.{whole_bytes}
use Rattle.record.specs.Bytes.{Put}
use Rattle.shape.specs.TypeRows.{EndsAt, TypeRow}
use Rattle.shape.proofs.TypeRows.{type_walk, type_at, type_rest}
use Rattle.args.specs.Row.{Row}
use Rattle.args.proofs.ArgumentRows.{row_walk, each_ok}
use Rattle.common_type.specs.Brought.{brought, part_type, part_types, Parts}
use Rattle.common_type.specs.CommonTypes.{CommonAt, Commons, Meets, Goes, GoesTypes}
use Rattle.common_type.proofs.Meets.{brought_common}
use Rattle.std.specs.declared.option.Option.{Option}
use Rattle.std.specs.declared.option.Option.TheVariants.{None, Some}

pub record SoFar {A : Type 0} (f : List A → List Ty) (q : ℕ) (ty : List ℕ) (o : Maybe Ty) (l : List A) : Type 0 where
  pub type : Ty
  pub stands : Stands 15 ty 0 type q
  pub same : common_from (some type) (f l) ≡ o

-- the next item brings the type u
module _ {A : Type 0} {f : List A → List Ty} {q : ℕ} {ty : List ℕ} {o : Maybe Ty} {a : A} {l : List A} (g : SoFar f q ty o (a ∷ l))
    {u : Ty} (b : f (a ∷ l) ≡ u ∷ f l) where
  pub so_same : common_from (meet (some g.type) u) (f l) ≡ o
  unfolding common_from
  so_same = ap (common_from (some g.type)) (sym b) ∙ g.same

  unfoldable pub so_at : {n : ℕ} {ty' : List ℕ} → CommonAt (meet (some g.type) u) n ty' → SoFar f n ty' o l
  so_at z = record { type = z.type; stands = z.stands; same = ap (λ (v : Maybe Ty). common_from v (f l)) (sym z.is) ∙ so_same }

  pub so_none : meet (some g.type) u ≡ none → o ≡ none
  so_none z = sym so_same ∙ (ap (λ (v : Maybe Ty). common_from v (f l)) z ∙ from_none (f l))

  module _ {next : List ℕ} (w : Whole next u) (r : Option ℕ) (ty' : List ℕ) (x : Meets ty q next r ty') where
    met : {c : Option ℕ} → r ≡ c → Commons (meet (some g.type) u) c ty'
    met e = subst (λ (z : Option ℕ). Commons (meet (some g.type) u) z ty') e (x g.type u g.stands w)

    pub so_on : {n : ℕ} → r ≡ Some n → SoFar f n ty' o l
    so_on h = so_at (met h)

    pub so_never : r ≡ None → o ≡ none
    so_never h = so_none (met h)

pub so_end : {A : Type 0} {f : List A → List Ty} {q : ℕ} {ty : List ℕ} {o : Maybe Ty} → SoFar f q ty o [] → f [] ≡ [] → CommonAt o q ty
unfolding common_from
so_end g b = record { type = g.type; is = sym g.same ∙ ap (common_from (some g.type)) b; stands = g.stands }

-- ---- the type that is kept

pub kept_stands : {s out out' : List ℕ} {t : Ty} {q : ℕ} → Whole s t → Put out 0 s q out' → length s ≤ length out → Stands 15 out' 0 t q
kept_stands {s = s} {out = out} {out' = out'} {t = t} {q = q} w p h =
    let e : s ≡ ty_bytes t = whole_bytes w in
    put_stands t w.shaped w.deep (subst (λ (b : List ℕ). Put out 0 b q out') e p) (omega (arith, p.end))

-- ---- arguments

-- from the first argument's type to the common one
pub first_common : {flat : Bool} {s : List ℕ} (l : List Val) → Row s 0 l → 0 < length s → {e q : ℕ} {ty : List ℕ} → Parts flat s 0 e q ty
    → (r : Option ℕ) (ty' : List ℕ)
    → Goes flat s e ty q r ty' → Commons (common (map type_of (brought flat l))) r ty'
first_common {flat} {s} l w h x r ty' y =
    let m = (row_walk s).next w h in
    let z = x m.item m.others (subst (Row s 0) m.is w) in
    let a : AllOk (m.item ∷ m.others) = subst AllOk m.is (each_ok l w.each) in
    let b : common (map type_of (brought flat l)) ≡ common_from (some (part_type flat (type_of m.item))) (part_types flat m.others) =
    ap (λ (k : List Val). common (map type_of (brought flat k))) m.is ∙ brought_common flat m.item m.others a in
    subst (λ (o : Maybe Ty). Commons o r ty') (sym b) (y m.others _ z.next.rest z.stands)

-- ---- types

pub none_common : common [] ≡ none
unfolding common
none_common = refl

-- from the first type, which was kept, to the common one
pub first_types : {s : List ℕ} (l : List Ty) → TypeRow s 0 l → 0 < length s → {e : ℕ} → EndsAt 15 s 0 e → {q : ℕ} {ty : List ℕ}
    → ((t : Ty) → Whole (take e s) t → Stands 15 ty 0 t q)
    → (r : Option ℕ) (ty' : List ℕ) → GoesTypes s e ty q r ty' → Commons (common l) r ty'
unfolding common
first_types {s} l w h f p r ty' y =
    let m = (type_walk s).next w h in
    let x = subst (TypeRow s 0) m.is w in
    subst (λ (k : List Ty). Commons (common k) r ty') (sym m.is) (y m.others m.item (type_rest x f) (p m.item (front_whole (type_at x f))))
