-- The arguments and the members of a struct, side by side.
use mathlib.Core.Path.{◌≡◌, refl, sym, ap, ◌∙◌, subst}
use mathlib.Core.List.{List, [], ◌∷◌}
use mathlib.Core.Bool.{Bool, true, false, ◌&&◌}
use Prim.Native.Nat.{ℕ}
use native.Mathlib.Omega.{arith}
use lib.ListN.{length}
use Rattle.meaning.specs.Trees.{Ty}
use Rattle.meaning.specs.Convert.{converts}
use Rattle.meaning.specs.Typing.{memberwise_ty}
use Rattle.laws.proofs.Left.{More, Left}
use Rattle.ty.specs.Stands.{Stands, Standing, Ends}
use Rattle.shape.specs.TypeRows.{EndsAt, TypeRow}
use Rattle.shape.proofs.TypeRows.{type_standing, type_at, type_ends, type_rest}
use Rattle.arg_types.specs.Given.{Members}

-- as many members as arguments are left, from j on, and these convert exactly where all do
pub record MembersLeft (ty : List ℕ) (j : ℕ) (b : Bool) (l : List Ty) : Type 0 where
  pub wanted : List Ty
  pub members : TypeRow ty j wanted
  pub equal : length l ≡ length wanted
  pub same : memberwise_ty wanted l ≡ b

pub members_all : {s ty : List ℕ} {l m : List Ty} → Members s ty l m → Left (TypeRow s) 0 (MembersLeft ty 6 (memberwise_ty m l))
members_all {l = l} {m} x = record {
  items = l;
  row = x.given;
  so = record { wanted = m; members = x.members; equal = x.equal; same = refl };
}

module _ {ty : List ℕ} {j : ℕ} {b : Bool} {t : Ty} {l : List Ty} (g : MembersLeft ty j b (t ∷ l)) where
  member : More g.wanted
  member = go g.wanted g.equal
    where
      go : (m : List Ty) → length (t ∷ l) ≡ length m → More m
      go [] e = absurd (omega arith)
      go (u ∷ m) e = record { item = u; others = m; is = refl }

  row : TypeRow ty j (member.item ∷ member.others)
  row = subst (TypeRow ty j) member.is g.members

  pub member_standing : Standing 15 ty j
  member_standing = type_standing row

  module _ {f : ℕ} (y : EndsAt 15 ty j f) where
    pub member_ends : Ends 15 ty j f
    member_ends = type_ends row y

    module _ {r : Bool} (k : (u : Ty) → Stands 15 ty j u f → r ≡ converts t u) where
      split : r && memberwise_ty member.others l ≡ b
      unfolding memberwise_ty
      split =
          ap (λ (x : Bool). x && memberwise_ty member.others l) (k member.item (type_at row y))
          ∙ (ap (λ (m : List Ty). memberwise_ty m (t ∷ l)) (sym member.is) ∙ g.same)

      pub members_no : r ≡ false → false ≡ b
      members_no q = rw q at split

      pub members_on : r ≡ true → MembersLeft ty f b l
      members_on q = record {
        wanted = member.others;
        members = type_rest row y;
        equal = omega (arith, g.equal, ap length member.is);
        same = rw q at split;
      }

pub members_end : {ty : List ℕ} {j : ℕ} {b : Bool} → MembersLeft ty j b [] → true ≡ b
unfolding memberwise_ty
members_end {b = b} g = go g.wanted g.equal g.same
  where
    go : (m : List Ty) → length {A = Ty} [] ≡ length m → memberwise_ty m [] ≡ b → true ≡ b
    go [] e q = q
    go (u ∷ m) e q = absurd (omega arith)
