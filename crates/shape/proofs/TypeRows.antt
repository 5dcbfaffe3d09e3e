-- Types in a row: the first, the others, and all of them.
use mathlib.Core.Path.{◌≡◌, refl, sym, ap, subst}
use mathlib.Core.List.{List, [], ◌∷◌, ◌++◌}
use Prim.Native.Nat.{ℕ, ◌+◌, ◌≤◌, ◌<◌}
use native.Mathlib.Omega.{arith}
use lib.ListN.{length, drop, length-drop, length-append}
use Rattle.meaning.specs.Trees.{Ty, Ts, Tv, Tm, Ta, Tu}
use Rattle.meaning.specs.Records.{ty_bytes, joined}
use Rattle.laws.proofs.Back.{shaped_of, deep_of}
use Rattle.laws.proofs.Left.{Walk, Left, left_first, left_on, left_end, records_walk}
use Rattle.ty.specs.Stands.{Stands, Standing, Ends, Whole}
use Rattle.record.proofs.Places.{past}
use Rattle.args.proofs.Rest.{short_of}
use Rattle.shape.specs.TypeRows.{EndsAt, TypeRow}

-- a record has bytes
pub some_type : (t : Ty) → 1 ≤ length (ty_bytes t)
unfolding ty_bytes
some_type (Ts k) = omega arith
some_type (Tv n k) = omega arith
some_type (Tm c r k) = omega arith
some_type (Ta n t) = omega arith
some_type (Tu i m) = omega arith

-- there is another where bytes are left, and none at the end
pub type_walk : (s : List ℕ) → Walk (TypeRow s) (length s)
type_walk s = records_walk ty_bytes some_type s (λ i l x. x.here)

module _ {s : List ℕ} {i : ℕ} {t : Ty} {l : List Ty} (x : TypeRow s i (t ∷ l)) where
  here : drop i s ≡ ty_bytes t ++ joined ty_bytes l
  unfolding joined
  here = x.here

  rest : drop (i + length (ty_bytes t)) s ≡ joined ty_bytes l
  rest = past s (ty_bytes t) (joined ty_bytes l) i here

  within : i + length (ty_bytes t) ≤ length s
  within = omega (arith, length-drop i s, ap length here, length-append (ty_bytes t) (joined ty_bytes l), x.within)

  -- the first of them
  pub type_stands : Stands 15 s i t (i + length (ty_bytes t))
  type_stands = record {
    here = rw rest here;
    size = refl;
    within = within;
    shaped = shaped_of 15 4096 t x.each.0;
    deep = deep_of 15
        4096 t x.each.0;
  }

  pub type_standing : Standing 15 s i
  type_standing = record { type = t; end = _; stands = type_stands }

  pub type_short : length (ty_bytes t) ≤ 4096
  type_short = short_of 15 4096 t x.each.0

  -- where its end was found
  module _ {e : ℕ} (f : EndsAt 15 s i e) where
    pub type_at : Stands 15 s i t e
    type_at = subst (Stands 15 s i t) (sym (f t _ type_stands)) type_stands

    pub type_ends : Ends 15 s i e
    type_ends = record { type = t; stands = type_at }

    pub type_less : i < e
    type_less = omega (arith, f t _ type_stands, some_type t)

    pub type_rest : TypeRow s e l
    type_rest = subst (λ (n : ℕ). TypeRow s n l) (sym (f t _ type_stands)) record { within = within; here = rest; each = x.each.1 }

-- one is all of the bytes
pub type_whole : {s : List ℕ} {t : Ty} → TypeRow s 0 (t ∷ []) → Whole s t
unfolding joined
type_whole {s} {t} x =
    let w = type_stands x in
    let e : 0 + length (ty_bytes t) ≡ length s = omega (arith, w.within, length-drop (0 + length (ty_bytes t)) s, ap length (rest x)) in
    subst (Stands 15 s 0 t) e w

-- ---- the loops over them

module _ {s : List ℕ} {i : ℕ} {Q : List Ty → Type 0} (g : Left (TypeRow s) i Q) where
  module _ (h : i < length s) where
    pub types_first : {P : Type 0} → ((t : Ty) (l : List Ty) → TypeRow s i (t ∷ l) → Q (t ∷ l) → P) → P
    types_first k = left_first (type_walk s) g h k

    pub types_standing : Standing 15 s i
    types_standing = types_first λ t l x q. type_standing x

    module _ {e : ℕ} (f : EndsAt 15 s i e) where
      pub types_less : i < e
      types_less = types_first λ t l x q. type_less x f

      pub types_ends : Ends 15 s i e
      types_ends = types_first λ t l x q. type_ends x f

      pub types_short : e ≤ i + 4096
      types_short = types_first λ t l x q. omega (arith, f t _ (type_stands x), type_short x)

      pub types_next : {P : Type 0} → ((t : Ty) (l : List Ty) → Stands 15 s i t e → Q (t ∷ l) → P) → P
      types_next k = types_first λ t l x q. k t l (type_at x f) q

      pub types_on : {P : List Ty → Type 0} → ((t : Ty) (l : List Ty) → Stands 15 s i t e → Q (t ∷ l) → P l) → Left (TypeRow s) e P
      types_on k = left_on (type_walk s) g h (λ t l x. type_rest x f) λ t l x q. k t l (type_at x f) q

  pub types_end : length s ≤ i → Q []
  types_end h = left_end (type_walk s) g h
