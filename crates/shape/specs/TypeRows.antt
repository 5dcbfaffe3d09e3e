-- Types in a row.
use Rattle.std.specs.Prelude.{◌≡◌, List, ℕ, ◌≤◌, length, drop}
use Rattle.meaning.specs.Trees.{Ty}
use Rattle.meaning.specs.Records.{ty_bytes, joined}
use Rattle.laws.proofs.Sound.{All}
use Rattle.ty.specs.Stands.{Stands}
use Rattle.args.specs.Counts.{TypeArg}

-- the type's record that stands at i ends at r
abbrev pub EndsAt : ℕ → List ℕ → ℕ → ℕ → Type 0
EndsAt d s i r = (t : Ty) (e : ℕ) → Stands d s i t e → r ≡ e

-- from i on, up to the end of the bytes, the records of the types l stand one after another, each well formed
pub record TypeRow (s : List ℕ) (i : ℕ) (l : List Ty) : Type 0 where
  pub within : i ≤ length s
  pub here : drop i s ≡ joined ty_bytes l
  pub each : All (TypeArg 15 4096) l

pub record SomeTypeRow (s : List ℕ) (i : ℕ) : Type 0 where
  pub types : List Ty
  pub row : TypeRow s i types
