-- What the arguments bring to a list: their types, or the types of their parts.
use Rattle.std.specs.Prelude.{List, ◌∷◌, map, Bool, true, false, ℕ, length}
use Rattle.meaning.specs.Trees.{Ty, Ts, Tv, Tm, Ta, Tu, Val, type_of}
use Rattle.meaning.specs.Build.{flattened}
use Rattle.ty.specs.Stands.{Stands}
use Rattle.args.specs.Row.{Row, NextIs}

-- the values that the arguments bring: themselves, or their parts where "vectors are flattened"
abbrev pub brought : Bool → List Val → List Val
brought false l = l
brought true l = flattened l

-- the type that an argument of the type t brings: where vectors are flattened, a vector's parts are scalars of one type
unfoldable pub part_of : Ty → Ty
part_of (Ts k) = Ts k
part_of (Tv n k) = Ts k
part_of (Tm c r k) = Tm c r k
part_of (Ta n t) = Ta n t
part_of (Tu i m) = Tu i m

abbrev pub part_type : Bool → Ty → Ty
part_type false t = t
part_type true t = part_of t

abbrev pub part_types : Bool → List Val → List Ty
part_types flat l = map (λ v. part_type flat (type_of v)) l

-- in a type's record that ends at e, the record of the type that it brings stands from r on
abbrev pub PartAt : Bool → List ℕ → ℕ → Type 0
PartAt flat ty r = (t : Ty) (e : ℕ) → Stands 15 ty 0 t e → Stands 15 ty r (part_type flat t) e

-- the argument v at i ends at e, and the record of the type that it brings stands at the front of ty, up to q
pub record PartIs (flat : Bool) (s : List ℕ) (i : ℕ) (v : Val) (l : List Val) (e q : ℕ) (ty : List ℕ) : Type 0 where
  pub next : NextIs s i v l e
  pub stands : Stands 15 ty 0 (part_type flat (type_of v)) q

abbrev pub Parts : Bool → List ℕ → ℕ → ℕ → ℕ → List ℕ → Type 0
Parts flat s i e q ty = (v : Val) (l : List Val) → Row s i (v ∷ l) → PartIs flat s i v l e q ty

-- the same where ty is that record
abbrev pub Brings : Bool → List ℕ → ℕ → ℕ → List ℕ → Type 0
Brings flat s i e ty = Parts flat s i e (length ty) ty
