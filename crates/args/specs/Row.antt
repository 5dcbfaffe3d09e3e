-- The arguments of a call: values in a row.
use Rattle.std.specs.Prelude.{◌≡◌, List, ◌∷◌, ℕ, ◌+◌, ◌≤◌, length, drop}
use Rattle.meaning.specs.Trees.{Val, type_of}
use Rattle.meaning.specs.Records.{val_bytes, joined}
use Rattle.laws.proofs.Sound.{All}
use Rattle.ty.specs.Stands.{Stands}
use Rattle.ty.specs.Heads.{head_of}
use Rattle.ty.specs.declared.Head.{Head}
use Rattle.args.specs.Counts.{ValueArg}

-- from i on, up to the end of the bytes, the records of the values l stand one after another, each well formed
pub record Row (s : List ℕ) (i : ℕ) (l : List Val) : Type 0 where
  pub within : i ≤ length s
  pub here : drop i s ≡ joined val_bytes l
  pub each : All (ValueArg 15 4096) l

pub record SomeRow (s : List ℕ) (i : ℕ) : Type 0 where
  pub values : List Val
  pub row : Row s i values

-- at least one
pub record SomeArg (s : List ℕ) (i : ℕ) : Type 0 where
  pub value : Val
  pub others : List Val
  pub row : Row s i (value ∷ others)

-- r is the front of the first one's type
abbrev pub HeadOf : List ℕ → ℕ → Head → Type 0
HeadOf s i r = (v : Val) (l : List Val) → Row s i (v ∷ l) → r ≡ head_of (type_of v)

-- the first of them ends at e, where the others begin
pub record NextIs (s : List ℕ) (i : ℕ) (v : Val) (l : List Val) (e : ℕ) : Type 0 where
  pub end : e ≡ i + length (val_bytes v)
  pub rest : Row s e l

abbrev pub Skips : List ℕ → ℕ → ℕ → Type 0
Skips s i e = (v : Val) (l : List Val) → Row s i (v ∷ l) → NextIs s i v l e

-- and the record of its type stands in ty, up to q
pub record TypeIs (s : List ℕ) (i : ℕ) (v : Val) (l : List Val) (e q : ℕ) (ty : List ℕ) : Type 0 where
  pub next : NextIs s i v l e
  pub stands : Stands 15 ty 0 (type_of v) q

abbrev pub Types : List ℕ → ℕ → ℕ → ℕ → List ℕ → Type 0
Types s i e q ty = (v : Val) (l : List Val) → Row s i (v ∷ l) → TypeIs s i v l e q ty

-- the arguments of a call are the values l, n of them
pub record Given (s : List ℕ) (n : ℕ) (l : List Val) : Type 0 where
  pub row : Row s 0 l
  pub count : n ≡ length l

pub record SomeGiven (s : List ℕ) (n : ℕ) : Type 0 where
  pub values : List Val
  pub given : Given s n values
