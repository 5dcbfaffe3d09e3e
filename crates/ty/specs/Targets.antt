-- What is said of a whole target's bytes.
use Rattle.std.specs.Prelude.{List, ◌≡◌, ℕ, ◌≤◌, T, length, get_or}
use Rattle.std.proofs.Math.Option.{Option as Maybe, none, some}
use Rattle.std.specs.declared.option.Option.{Option}
use Rattle.std.specs.declared.option.Option.TheVariants.{None, Some}
use Rattle.meaning.specs.Trees as trees
use Rattle.meaning.specs.Trees.{Ty, Of, Tr, Qa, Qv, Qm}
use Rattle.meaning.specs.Records.{‘T’, ‘Q’, ‘a’, ‘v’, ‘m’, ‘r’, side, good_within, good_ty}
use Rattle.meaning.specs.Read.{read_target}
use Rattle.ty.specs.Stands.{Stands, Ends}
use Rattle.ty.specs.declared.Target.{Target}
use Rattle.ty.specs.declared.Target.TheVariants.{«Type», Runtime, Array, Vector, Matrix}

-- ---- the bytes of each target

-- `Qa`
pub record ArrayShape (s : List ℕ) : Type 0 where
  pub size : length s ≡ 2
  pub first : get_or s 0 0 ≡ ‘Q’
  pub second : get_or s 1 0 ≡ ‘a’

-- `Qv` n
pub record VectorShape (s : List ℕ) : Type 0 where
  pub size : length s ≡ 3
  pub first : get_or s 0 0 ≡ ‘Q’
  pub second : get_or s 1 0 ≡ ‘v’
  pub wide : T (side (get_or s 2 0))

-- `Qm` c r
pub record MatrixShape (s : List ℕ) : Type 0 where
  pub size : length s ≡ 4
  pub first : get_or s 0 0 ≡ ‘Q’
  pub second : get_or s 1 0 ≡ ‘m’
  pub wide : T (side (get_or s 2 0))
  pub high : T (side (get_or s 3 0))

-- `Tr` element type
pub record RuntimeTarget (s : List ℕ) : Type 0 where
  pub least : 2 ≤ length s
  pub most : length s ≤ 4094
  pub first : get_or s 0 0 ≡ ‘T’
  pub second : get_or s 1 0 ≡ ‘r’
  pub ends : Ends 14 s 2 (length s)

-- one type's record
pub record TypeTarget (s : List ℕ) : Type 0 where
  pub most : length s ≤ 4096
  pub ends : Ends 15 s 0 (length s)

-- the answer for a target; for the target that was read
abbrev pub seen : trees.Target → Target
seen (Of t) = «Type»
seen (Tr t) = Runtime
seen Qa = Array
seen (Qv n) = Vector n
seen (Qm c r) = Matrix c r

unfoldable pub target_of : Maybe trees.Target → Option Target
target_of none = None
target_of (some g) = Some (seen g)

-- ---- what an answer says, for callers

-- all of the bytes are the record of one well-formed type
pub record TypeIs (s : List ℕ) : Type 0 where
  pub type : Ty
  pub stands : Stands 15 s 0 type (length s)
  pub good : T (good_ty type)
  pub reads : read_target s ≡ some (Of type)

-- all of the bytes after the mark are the record of one well-formed element type
pub record RuntimeIs (s : List ℕ) : Type 0 where
  pub type : Ty
  pub stands : Stands 14 s 2 type (length s)
  pub good : T (good_within 14 4092 type)
  pub reads : read_target s ≡ some (Tr type)

abbrev pub Meant : List ℕ → Target → Type 0
Meant s «Type» = TypeIs s
Meant s Runtime = RuntimeIs s
Meant s Array = read_target s ≡ some Qa
Meant s (Vector n) = (read_target s ≡ some (Qv n)) × T (side n)
Meant s (Matrix c r) = (read_target s ≡ some (Qm c r)) × T (side c) × T (side r)
