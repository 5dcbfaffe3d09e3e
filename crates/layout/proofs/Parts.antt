-- After `head_at`: the parts of the type that stands there.
use mathlib.Core.Path.{refl}
use mathlib.Core.List.{List}
use Prim.Native.Nat.{ℕ, ◌+◌, ◌-◌, ◌≤◌}
use Rattle.ty.specs.Stands.{Standing, StandingAll}
use Rattle.ty.specs.Heads.{HeadAt}
use Rattle.ty.specs.declared.Head.TheVariants.{Array, Struct}
use Rattle.ty.proofs.Heads.{array_here, struct_here}

module _ {d : ℕ} {s : List ℕ} {at : ℕ} (p : Standing d s at) where
  module _ {n : ℕ} (h : HeadAt d s at (Array n)) where
    pub array_deep : 1 ≤ d
    array_deep = (array_here p h refl).deep

    pub array_part : Standing (d - 1) s (at + 4)
    array_part = let x = array_here p h refl in record { type = x.elem; end = p.end; stands = x.part }

  module _ {i n : ℕ} (h : HeadAt d s at (Struct i n)) where
    pub struct_deep : 1 ≤ d
    struct_deep = (struct_here p h refl).deep

    pub struct_parts : StandingAll (d - 1) s (at + 6) n
    struct_parts = let x = struct_here p h refl in record { types = x.members; end = p.end; stands = x.parts }
