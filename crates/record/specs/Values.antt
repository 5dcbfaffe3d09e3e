-- Values in a list of bytes.
use Rattle.std.specs.Prelude.{◌≡◌, List, ◌++◌, ℕ, ◌+◌, ◌≤◌, T, length, drop}
use Rattle.meaning.specs.Trees.{Val}
use Rattle.meaning.specs.Records.{val_bytes, shaped_val}

-- the bytes bs stand in s from `from` up to e
pub record BytesAt (s : List ℕ) (from e : ℕ) (bs : List ℕ) : Type 0 where
  pub here : drop from s ≡ bs ++ drop e s
  pub size : e ≡ from + length bs
  pub within : e ≤ length s

-- the record of the well-shaped value v stands there
pub record HasVal (s : List ℕ) (from e : ℕ) (v : Val) : Type 0 where
  pub bytes : BytesAt s from e (val_bytes v)
  pub shaped : T (shaped_val v)
