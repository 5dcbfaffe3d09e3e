-- What is left to look at decides.
use mathlib.Core.List.{List}
use Prim.Native.Nat.{◌-◌}
use lib.ListN.{length}
use Rattle.meaning.specs.Trees.{Val}
use Rattle.laws.proofs.Left.{Left}
use Rattle.ty.specs.Stands.{Whole}
use Rattle.args.specs.Row.{Row}
use Rattle.convert_all.specs.Lists.{all_to}
use Rattle.convert_all.proofs.Converts.{TestLeft}
use Rattle.convert_all.proofs.others_convert.Given as goal

abbrev pub invariant-loop-i : goal.invariant-loop-i
invariant-loop-i v = (l : List Val) → Row v.args v.from l → Left (Row v.args) v.i (TestLeft all_to (Whole v.ty.bytes.now) l)

abbrev pub decreases-loop-i : goal.decreases-loop-i
decreases-loop-i l = length l.args - l.i
