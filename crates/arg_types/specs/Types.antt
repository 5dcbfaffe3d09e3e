-- That types are given has one proof at most: the bytes say which they are.
use Rattle.std.specs.Prelude.{◌≡◌, List, [], ◌∷◌, ℕ, ◌+◌, length}
use Rattle.std.specs.Coded.{×_prop, Unit-prop, le_prop}
use mathlib.Core.Path.{refl, ap, ap₂}
use mathlib.Core.HLevel.{is_prop→PathP}
use mathlib.Core.List.{is_set}
use native.Mathlib.Nat.{ℕ_set}
use native.Mathlib.Omega.{arith}
use lib.Dec.{T, T_prop}
use Rattle.meaning.specs.Trees.{Ty}
use Rattle.meaning.specs.Records.{ty_bytes, good_within}
use Rattle.laws.proofs.Sound.{All}
use Rattle.ty.specs.OneTypes.{same_type}
use Rattle.ty.proofs.Places.{same_end}
use Rattle.shape.specs.TypeRows.{EndsAt, TypeRow}
use Rattle.shape.proofs.TypeRows.{type_walk, some_type, type_stands, type_rest}
use Rattle.arg_types.specs.Given.{Given, SomeGiven}

-- where one type stands there is another, so there is none only at the end
no_more : {s : List ℕ} {i : ℕ} {t : Ty} {l : List Ty} → TypeRow s i (t ∷ l) → TypeRow s i [] → ⊥
no_more {s} {t = t} x y =
    let m = (type_walk s).next y (omega (arith, (type_stands x).within, some_type t)) in
    omega (arith, ap length m.is)

module _ {s : List ℕ} {i : ℕ} {t : Ty} {l : List Ty} (x : TypeRow s i (t ∷ l)) where
  ends : EndsAt 15 s i (i + length (ty_bytes t))
  ends u e w = same_end (type_stands x) w

same_types : {s : List ℕ} (l m : List Ty) (i : ℕ) → TypeRow s i l → TypeRow s i m → l ≡ m
same_types [] [] i x y = refl
same_types [] (u ∷ m) i x y = absurd (no_more y x)
same_types (t ∷ l) [] i x y = absurd (no_more x y)
same_types (t ∷ l) (u ∷ m) i x y =
    ap₂ (λ (a : Ty) (b : List Ty). a ∷ b) (same_type (type_stands x) (type_stands y))
    (same_types l m _ (type_rest x (ends x)) (type_rest y (ends x)))

each_prop : (l : List Ty) → IsProp (All (λ t. T (good_within 15 4096 t)) l)
each_prop [] = Unit-prop
each_prop (t ∷ l) = ×_prop (T_prop _) (each_prop l)

given_prop : (s : List ℕ) (n : ℕ) (l : List Ty) → IsProp (Given s n l)
given_prop s n l = Prim.hlevel (le_prop, ℕ_set, is_set, each_prop)

pub some_given_prop : (s : List ℕ) (n : ℕ) → IsProp (SomeGiven s n)
some_given_prop s n x y =
    let q = same_types x.types y.types 0 x.given.row y.given.row in
    λ i. record {
      types = q i;
      given = is_prop→PathP (λ j. Given s n (q j)) (λ j. given_prop s n (q j)) x.given y.given i;
    }
