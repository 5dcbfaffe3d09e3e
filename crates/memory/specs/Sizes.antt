-- The size of a scalar by its kind's number, and the alignments that there are.
use Rattle.std.specs.Prelude.{◌||◌, ℕ, T, eqb}
use Rattle.meaning.specs.Layout.{scalar_size}
use Rattle.kind.specs.Ends.{numbered}

abbrev pub size_no : ℕ → ℕ
size_no k = numbered scalar_size k

-- the alignments of types, and 1, which is that of no member
abbrev pub Align : ℕ → Type 0
Align a = T (eqb a 1 || (eqb a 2 || (eqb a 4 || (eqb a 8 || eqb a 16))))
