-- Equal byte strings.
use mathlib.Core.Path.{◌≡◌, refl, ap₂}
use mathlib.Core.List.{List, [], ◌∷◌}
use mathlib.Core.Bool.{Bool, true, false}
use Prim.Native.Nat.{ℕ}
use lib.Dec.{T, eqb, eqb→eq, eqb_refl}
use lib.Pointwise.{pointwise}
use Rattle.std.specs.Prelude.{nat_eq}
use Rattle.laws.proofs.Back.{and_l, and_r}
use Rattle.laws.proofs.Same.{both}
use Rattle.record.specs.Bytes.{same_bytes}

pub both_ways : (x y : Bool) → (T x → T y) → (T y → T x) → x ≡ y
both_ways true true f g = refl
both_ways true false f g = absurd (f tt)
both_ways false true f g = absurd (g tt)
both_ways false false f g = refl

-- what `==` says of two slices
pub same_is : (a b : List ℕ) → pointwise nat_eq a b ≡ same_bytes a b
unfolding same_bytes
same_is [] [] = refl
same_is [] (y ∷ b) = refl
same_is (x ∷ a) [] = refl
same_is (x ∷ a) (y ∷ b) = rw (same_is a b)

-- ---- what the comparison says

pub bytes_path : (a b : List ℕ) → T (same_bytes a b) → a ≡ b
unfolding same_bytes
bytes_path [] [] h = refl
bytes_path [] (y ∷ b) h = absurd h
bytes_path (x ∷ a) [] h = absurd h
bytes_path (x ∷ a) (y ∷ b) h = ap₂ ◌∷◌ (eqb→eq x y (and_l (eqb x y) (same_bytes a b) h)) (bytes_path a b (and_r (eqb x y) (same_bytes a b) h))

pub bytes_refl : (a : List ℕ) → T (same_bytes a a)
unfolding same_bytes
bytes_refl [] = tt
bytes_refl (x ∷ a) = both (eqb x x) (same_bytes a a) (eqb_refl x) (bytes_refl a)
