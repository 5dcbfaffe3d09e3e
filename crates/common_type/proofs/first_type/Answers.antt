-- A literal's type is its mark and its kind.
use native.Mathlib.Omega.{arith}
use Rattle.args.proofs.LiteralArgs.{literal_by}
use Rattle.args.proofs.Firsts.{three_bytes}
use Rattle.common_type.proofs.ScalarSoFar.{literal_first}
use Rattle.common_type.proofs.first_type.Goals as goal

pub bounds-args-1 : goal.bounds-args-1
bounds-args-1 c = omega (arith, three_bytes c.requires.some_arg.row)

pub bounds-args-2 : goal.bounds-args-2
bounds-args-2 c = omega (arith, three_bytes c.requires.some_arg.row)

pub returns : goal.returns
returns c =
    λ v l w. literal_first c.args.ty.now w
    (literal_by w c.if-args-ne115.false) c.literal_len-n.ensures
    (omega (arith, c.requires.ty_len))
