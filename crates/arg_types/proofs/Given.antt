-- How many arguments there are.
use mathlib.Core.Path.{◌≡◌, refl, ap, ◌∙◌, subst}
use mathlib.Core.List.{List, [], ◌∷◌}
use Prim.Native.Nat.{ℕ, ◌≤◌}
use native.Mathlib.Omega.{arith}
use lib.ListN.{length}
use Rattle.meaning.specs.Trees.{Ty}
use Rattle.ty.specs.Stands.{Whole}
use Rattle.shape.specs.TypeRows.{TypeRow}
use Rattle.shape.proofs.TypeRows.{type_whole}
use Rattle.arg_types.specs.Given.{Given}

-- one, which is all of the bytes
pub record OneGiven (args : List ℕ) (l : List Ty) : Type 0 where
  pub type : Ty
  pub is : l ≡ type ∷ []
  pub whole : Whole args type

-- two or more
pub record MoreGiven (l : List Ty) : Type 0 where
  pub first : Ty
  pub second : Ty
  pub others : List Ty
  pub is : l ≡ first ∷ second ∷ others

module _ {args : List ℕ} {n : ℕ} {l : List Ty} (g : Given args n l) where
  pub given_none : n ≡ 0 → l ≡ []
  given_none h = go l g.count
    where
      go : (m : List Ty) → n ≡ length m → m ≡ []
      go [] c = refl
      go (a ∷ m) c = absurd (omega arith)

  pub given_one : n ≡ 1 → OneGiven args l
  given_one h = go l g.row g.count
    where
      go : (m : List Ty) → TypeRow args 0 m → n ≡ length m → OneGiven args m
      go [] x c = absurd (omega arith)
      go (a ∷ []) x c = record { type = a; is = refl; whole = type_whole x }
      go (a ∷ b ∷ m) x c = absurd (omega arith)

  pub given_alone : (h : n ≡ 1) → Given args 1 ((given_one h).type ∷ [])
  given_alone h = let x = given_one h in record { row = subst (TypeRow args 0) x.is g.row; count = refl }

  pub given_more : (n ≡ 0 → ⊥) → (n ≡ 1 → ⊥) → MoreGiven l
  given_more f h = go l g.count
    where
      go : (m : List Ty) → n ≡ length m → MoreGiven m
      go [] c = absurd (f c)
      go (a ∷ []) c = absurd (h c)
      go (a ∷ b ∷ m) c = record { first = a; second = b; others = m; is = refl }

  pub given_two : 2 ≤ n → MoreGiven l
  given_two h = given_more (λ z. omega arith) (λ z. omega arith)

  pub given_some : (n ≡ 0 → ⊥) → l ≡ [] → ⊥
  given_some f e = f (g.count ∙ ap length e)
