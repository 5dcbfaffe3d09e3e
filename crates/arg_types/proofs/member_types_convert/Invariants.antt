-- What is left to look at decides.
use mathlib.Core.List.{List}
use Prim.Native.Nat.{◌-◌}
use lib.ListN.{length}
use Rattle.meaning.specs.Trees.{Ty}
use Rattle.meaning.specs.Typing.{memberwise_ty}
use Rattle.laws.proofs.Left.{Left}
use Rattle.shape.specs.TypeRows.{TypeRow}
use Rattle.arg_types.specs.Given.{Members}
use Rattle.arg_types.proofs.Members.{MembersLeft}
use Rattle.arg_types.proofs.member_types_convert.Given as goal

abbrev pub invariant-loop-i : goal.invariant-loop-i
invariant-loop-i v = (l m : List Ty) → Members v.args v.target l m → Left (TypeRow v.args) v.i (MembersLeft v.target v.j (memberwise_ty m l))

abbrev pub decreases-loop-i : goal.decreases-loop-i
decreases-loop-i l = length l.args - l.i
