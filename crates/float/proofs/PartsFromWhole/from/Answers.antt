-- `From<Whole> for Parts` meets its contract. A whole number counts units of 2 ^ -1074 with the exponent 1074.
use mathlib.Core.Path.{refl}
use Rattle.meaning.specs.Floats.{integer}
use borrow.Author.Rules.{rules}
use Rattle.float.proofs.PartsFromWhole.from.Goals as goal

pub returns : goal.returns
unfolding integer
returns c = rw c.whole.ensures (record { means = refl; small = search rules })
