-- A scalar so far, which literals meet by their kinds.
use mathlib.Core.Path.{◌≡◌, refl, sym, ap, ◌∙◌, subst}
use mathlib.Core.Option.{Option as Maybe, none, some}
use mathlib.Core.List.{List, ◌∷◌}
use mathlib.Core.Bool.{Bool, true, false}
use Prim.Native.Nat.{ℕ, ◌+◌, ◌≤◌}
use native.Mathlib.Omega.{arith}
use lib.ListN.{length, get_or, drop, set, length-set}
use Rattle.meaning.specs.Kinds.{Kind, kind_no}
use Rattle.meaning.specs.Trees.{Ty, Ts, Val, type_of, depth, lit_len}
use Rattle.meaning.specs.Records.{‘T’, ‘s’, ty_bytes, shaped_ty}
use Rattle.meaning.specs.Answers.{map_some}
use Rattle.meaning.specs.Convert.{meet, common_from}
use Rattle.laws.proofs.Left.{Left}
use Rattle.ty.specs.Stands.{Stands}
use Rattle.record.specs.Literals.{Sized, most_lit}
use Rattle.ty.proofs.Heads.{scalar_by}
use Rattle.record.proofs.Places.{at_of}
use Rattle.ty.proofs.Places.{same_type, put_stands}
use Rattle.record.specs.Bytes.{Put}
use Rattle.record.proofs.Puts.{put_three}
use Rattle.shape.specs.Kinds.{meet_kind, KindsMeet}
use Rattle.shape.proofs.KindsFound.{found_kind, found_none, kinds_meet}
use Rattle.args.specs.Row.{Row}
use Rattle.args.proofs.LiteralArgs.{LiteralIs, literal_type, literal_end}
use Rattle.common_type.specs.Brought.{part_of, part_type, part_types, PartIs}
use Rattle.common_type.proofs.SoFar.{SoFar, so_at, so_none}
use Rattle.std.specs.declared.option.Option.{Option}
use Rattle.std.specs.declared.option.Option.TheVariants.{None, Some}

-- a scalar brings itself
scalar_part : (flat : Bool) (k : Kind) → part_type flat (Ts k) ≡ Ts k
unfolding part_of
scalar_part false k = refl
scalar_part true k = refl

module _ {ty : List ℕ} {t : Ty} {q : ℕ} (w : Stands 15 ty 0 t q) (h : get_or ty 1 0 ≡ ‘s’) where
  -- a scalar's record ends after three bytes
  pub scalar_ends : Stands 15 ty 0 t 3
  scalar_ends = let e : q ≡ 3 = omega (arith, (scalar_by w h).end) in subst (Stands 15 ty 0 t) e w

  pub scalar_stands : Stands 15 ty 0 (Ts (scalar_by w h).kind) 3
  scalar_stands = subst (λ (u : Ty). Stands 15 ty 0 u 3) (scalar_by w h).is scalar_ends

-- a scalar's record with another kind in it
pub scalar_set : {ty : List ℕ} (a b : Kind) {n : ℕ} → Stands 15 ty 0 (Ts a) 3 → n ≡ kind_no b → Stands 15 (set ty 2 n) 0 (Ts b) 3
unfolding ty_bytes shaped_ty depth
scalar_set {ty} a b {n} w e =
    let h : ty ≡ ‘T’ ∷ ‘s’ ∷ kind_no a ∷ drop 3 ty = w.here in
    let x : set ty 2 n ≡ ‘T’ ∷ ‘s’ ∷ kind_no b ∷ drop 3 ty = ap (λ (z : List ℕ). set z 2 n) h
    ∙ ap (λ (m : ℕ). ‘T’ ∷ ‘s’ ∷ m ∷ drop 3 ty) e in
    record {
      here = x ∙ ap (λ (z : List ℕ). ‘T’ ∷ ‘s’ ∷ kind_no b ∷ z) (sym (ap (drop 3) x));
      size = refl;
      within = omega
          (arith, w.within, length-set ty 2 n);
      shaped = tt;
      deep = omega arith;
    }

-- the type so far is a scalar
pub record ScalarSoFar (flat : Bool) (ty : List ℕ) (o : Maybe Ty) (l : List Val) : Type 0 where
  pub so : SoFar (part_types flat) 3 ty o l
  pub kind : Kind
  pub is : so.type ≡ Ts kind

pub kind_all : {s : List ℕ} (flat : Bool) {i : ℕ} {ty : List ℕ} {k : Kind} → Stands 15 ty 0 (Ts k) 3 → (l : List Val) (t : Ty) → Row s i l
    → Stands 15 ty 0 t 3
    → Left (Row s) i (ScalarSoFar flat ty (common_from (some t) (part_types flat l)))
kind_all flat {k = k} w l t x v = record {
  items = l;
  row = x;
  so = record { so = record { type = t; stands = v; same = refl }; kind = k; is = same_type v w };
}

-- a literal is the next
module _ {s : List ℕ} {i : ℕ} {v : Val} {l : List Val} (y : LiteralIs s i v) {flat : Bool} {ty : List ℕ} {o : Maybe Ty}
    (g : ScalarSoFar flat ty o (v ∷ l)) where
  scalar : Stands 15 ty 0 (Ts g.kind) 3
  scalar = subst (λ (t : Ty). Stands 15 ty 0 t 3) g.is g.so.stands

  kind_byte : get_or ty 2 0 ≡ kind_no g.kind
  unfolding ty_bytes
  kind_byte = at_of ty _ 0 scalar.here 2

  -- the kind so far and the literal's meet as r says
  module _ (r : Option ℕ) (f : KindsMeet (get_or ty 2 0) (get_or s (i + 2) 0) r) where
    brings : part_types flat (v ∷ l) ≡ Ts y.kind ∷ part_types flat l
    brings = ap (λ (t : Ty). t ∷ part_types flat l) (ap (part_type flat) (literal_type y) ∙ scalar_part flat y.kind)

    met : {m : Maybe Kind} → meet_kind g.kind y.kind ≡ m → meet (some g.so.type) (Ts y.kind) ≡ map_some Ts m
    met e = ap (λ (t : Ty). meet (some t) (Ts y.kind)) g.is ∙ (kinds_meet g.kind y.kind ∙ ap (map_some Ts) e)

    pub kind_on : {n : ℕ} → r ≡ Some n → ScalarSoFar flat (set ty 2 n) o l
    unfolding so_at map_some
    kind_on h =
        let z = found_kind (meet_kind g.kind y.kind) (sym h ∙ f g.kind y.kind kind_byte y.no) in
        record {
          so = so_at g.so brings record {
            type = Ts z.kind;
            is = met z.is;
            stands = scalar_set g.kind z.kind scalar
                z.no;
          };
          kind = z.kind;
          is = refl;
        }

    pub kind_never : r ≡ None → o ≡ none
    unfolding map_some
    kind_never h = so_none g.so brings (met (found_none (meet_kind g.kind y.kind)
        (sym h ∙ f g.kind y.kind kind_byte y.no)))

-- ---- the first argument

pub literal_first : {flat : Bool} {s : List ℕ} (ty : List ℕ) {v : Val} {l : List Val} (x : Row s 0 (v ∷ l)) (y : LiteralIs s 0 v) {n : ℕ}
    → Sized (get_or s 2 0) lit_len most_lit n → 3 ≤ length ty
    → PartIs flat s 0 v l n 3 (set (set (set ty 0 ‘T’) 1 ‘s’) 2 (get_or s 2 0))
unfolding ty_bytes shaped_ty depth
literal_first {flat} {s} ty {v} x y {n} z h =
    let k = y.kind in
    let t : part_type flat (type_of v) ≡ Ts k = ap (part_type flat) (literal_type y) ∙ scalar_part flat k in
    let p : Put ty 0 (ty_bytes (Ts k)) 3 (set (set (set ty 0 ‘T’) 1 ‘s’) 2 (get_or s 2 0)) = rw y.no (put_three ty 0 ‘T’ ‘s’ (kind_no k)) in
    let w : Stands 15 (set (set (set ty 0 ‘T’) 1 ‘s’) 2 (get_or s 2 0)) 0 (Ts k) 3 = put_stands (Ts k) tt (omega arith) p h in
    let e : 0 + n ≡ n = omega arith in
    record { next = rw e at (literal_end x y z).2; stands = rw t w }
