-- What stands before the parts of an array's and of a struct's record.
use Rattle.std.specs.Prelude.{List, ◌∷◌, ◌++◌, ℕ}
use Rattle.meaning.specs.Records.{‘V’, ‘a’, ‘u’, le}

-- "`Va` count", before the elements
unfoldable pub array_front : ℕ → List ℕ
array_front n = ‘V’ ∷ ‘a’ ∷ le 2 n

-- "`Vu` identity, member count", before the members
unfoldable pub struct_front : ℕ → ℕ → List ℕ
struct_front i n = ‘V’ ∷ ‘u’ ∷ (le 2 i ++ le 2 n)
