-- The payload's width and range are those of the kind.
use native.Mathlib.Omega.{arith}
use Rattle.ty.proofs.Numbers.{kind_of_lem}
use Rattle.inst.proofs.Lits.{kind_is, literal_none}
use Rattle.inst.proofs.literal_as.Goals as goal

pub overflow_add-result-then-is_literal : goal.overflow_add-result-then-is_literal
overflow_add-result-then-is_literal c =
    let k = kind_of_lem c.args.k c.requires in
    let f = c.if-is_literal.ensures k.kind (kind_is k.no c.width-w.ensures.0 c.top.ensures) in
    record { fits = omega (arith, f.within) }

pub returns-then-is_literal : goal.returns-then-is_literal
returns-then-is_literal c = λ j p. c.if-is_literal.ensures j (kind_is p c.width-w.ensures.0 c.top.ensures)

pub returns : goal.returns
returns c =
    λ j p. let i = kind_is p c.width-w.ensures.0 c.top.ensures in
    literal_none i (c.if-is_literal.ensures j i)
