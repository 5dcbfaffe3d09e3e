-- What the answer says of the common type.
use mathlib.Core.Path.{◌≡◌, subst}
use mathlib.Core.Option.{Option as Maybe, none}
use mathlib.Core.List.{List}
use Prim.Native.Nat.{ℕ}
use native.Mathlib.Omega.{arith}
use lib.ListN.{length, take}
use Rattle.meaning.specs.Trees.{Ty}
use Rattle.ty.proofs.FrontOfBuffer.{front_whole}
use Rattle.common_type.specs.CommonTypes.{CommonAt, CommonIs, Commons}
use Rattle.std.specs.declared.option.Option.{Option}
use Rattle.std.specs.declared.option.Option.TheVariants.{None, Some}

module _ (o : Maybe Ty) (r : Option ℕ) (ty : List ℕ) (x : Commons o r ty) where
  pub common_of : {q : ℕ} → r ≡ Some q → CommonAt o q ty
  common_of e = subst (λ (z : Option ℕ). Commons o z ty) e x

  pub common_none : r ≡ None → o ≡ none
  common_none e = subst (λ (z : Option ℕ). Commons o z ty) e x

-- the front of the buffer, up to where the common type ends, is its record
module _ {o : Maybe Ty} {q : ℕ} {ty : List ℕ} (c : CommonAt o q ty) where
  pub front_is : CommonIs o (take q ty)
  front_is = record { type = c.type; is = c.is; whole = front_whole c.stands }

  pub front_ends : q ≡ length (take q ty)
  front_ends = omega (arith, (front_whole c.stands).size, c.stands.size)
