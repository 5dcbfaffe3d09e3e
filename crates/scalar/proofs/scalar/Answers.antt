-- An abstract kind, no literal, or what the constructor makes of the literal.
use native.Mathlib.Omega.{arith}
use Rattle.error.proofs.BufferAtExit.{builds_no, builds_as}
use Rattle.error.proofs.Refusals.{passed_on}
use Rattle.scalar.specs.Made.{Ctor}
use Rattle.scalar.proofs.OneLiteral.{abstract_no, concrete, arg_room, other_no, single_within, single_good, single_made, single_refused}
use Rattle.scalar.proofs.scalar.Goals as goal

pub returns-then-is_abstract : goal.returns-then-is_abstract
returns-then-is_abstract c = λ s j v e n w. builds_no _ _ (abstract_no j n c.is_abstract.ensures c.if-is_abstract.true s v)

pub bounds-arg-1 : goal.bounds-arg-1
bounds-arg-1 c = omega (arith, arg_room c.args.arg.one.row)

pub returns-then-arg-ne115 : goal.returns-then-arg-ne115
returns-then-arg-ne115 c = λ s j v e n w. search (builds_no, other_no, concrete)

pub made_at-requires : goal.made_at-requires
made_at-requires c = single_within c.args.arg.one.row c.if-arg-ne115.false

pub returns-in_err-bits : goal.returns-in_err-bits
returns-in_err-bits c =
    rw (passed_on c.from_residual.result c.from_residual.ensures.1)
    (λ s j v e n w. let t = concrete j n c.is_abstract.ensures c.if-is_abstract.false in
    let x : Ctor _ _ s j = record { ruled = e; no = n; concrete = t } in
    builds_no _ _ (single_refused w c.if-arg-ne115.false x c.made_at.result c.made_at.ensures c.in_err-bits.was))

pub returns : goal.returns
returns c =
    λ s j v e n w. let t = concrete j n c.is_abstract.ensures c.if-is_abstract.false in
    let x : Ctor _ _ s j = record { ruled = e; no = n; concrete = t } in
    builds_as _ (single_made w c.if-arg-ne115.false x c.made_at.result c.made_at.ensures c.in_ok-bits.was)
    (c.hand_literal.ensures j n (single_good w c.if-arg-ne115.false x c.made_at.result c.made_at.ensures c.in_ok-bits.was))
