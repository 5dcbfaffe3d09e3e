-- One record stands there, and ends in one place.
use Prim.Native.Nat.{ℕ}
use mathlib.Core.Path.{subst}
use Rattle.ty.specs.Stands.{Ends}
use Rattle.ty.specs.TypeFronts.{Told}
use Rattle.ty.proofs.Places.{same_end}
use Rattle.shape.proofs.end_of_type.Goals as goal
use Rattle.std.specs.declared.option.Option.{Option}

pub returns-in-Some : goal.returns-in-Some
returns-in-Some c =
    λ t e w. let x = subst (λ (r : Option ℕ). Told (Ends c.args.depth c.args.s.now c.args.at) r) c.in-Some.is
    c.type_end.ensures in
    same_end x.stands w

pub returns-in-None : goal.returns-in-None
returns-in-None c =
    λ t e w. let x = subst (λ (r : Option ℕ). Told (Ends c.args.depth c.args.s.now c.args.at) r) c.in-None.is
    c.type_end.ensures in
    absurd (x e record { type = t; stands = w })
