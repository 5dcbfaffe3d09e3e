-- A literal is repeated, a vector of that length kept, anything else is one part.
use mathlib.Core.Path.{refl, ◌∙◌}
use native.Mathlib.Omega.{arith}
use Rattle.error.proofs.BufferAtExit.{builds_as, builds_no}
use Rattle.args.proofs.Kept.{hand_kept}
use Rattle.vector.proofs.Args.{arg_front, arg_literal, arg_vector, arg_other, literal_bits, literal_good}
use Rattle.vector.proofs.OneToVector.{qv_literal, qv_other_length, qv_length, qv_other}
use Rattle.vector.proofs.qv_one.Goals as goal

pub bounds-arg-1 : goal.bounds-arg-1
bounds-arg-1 c = omega (arith, arg_front c.args.arg.one.row)

pub literal_at-literal-requires : goal.literal_at-literal-requires
literal_at-literal-requires c = omega (arith, (arg_literal c.args.arg.one.row c.if-mark-eq115.true).room)

pub invariant_of-kind : goal.invariant_of-kind
invariant_of-kind c =
    let x = arg_literal c.args.arg.one.row c.if-mark-eq115.true in
    record { some = record { kind = x.kind; no = c.literal_at-literal.ensures.kind ∙ x.no } }

pub returns-then-mark-eq115 : goal.returns-then-mark-eq115
returns-then-mark-eq115 c =
    λ v x. let y = arg_literal x (search) in
    let q = literal_bits y c.literal_at-literal.ensures.bits in
    builds_as _ (qv_literal _ y q) (c.repeated.ensures y.kind (c.literal_at-literal.ensures.kind ∙ y.no) (literal_good y q))

pub bounds-arg-2 : goal.bounds-arg-2
bounds-arg-2 c = omega (arith, arg_front c.args.arg.one.row)

pub returns-then-arg-n : goal.returns-then-arg-n
returns-then-arg-n c = λ v x. builds_no _ _ (qv_other_length _ (arg_vector x c.if-mark-eq118.true) c.if-arg-n.true)

pub returns-then-mark-eq118 : goal.returns-then-mark-eq118
returns-then-mark-eq118 c =
    λ v x. builds_as _ (qv_length _ (arg_vector x (search)) c.if-arg-n.false)
    (hand_kept x refl c.hand.ensures)

pub returns : goal.returns
returns c = λ v x. search (builds_no, qv_other, arg_other)
