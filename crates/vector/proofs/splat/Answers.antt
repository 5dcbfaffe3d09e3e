-- The literal converts and is repeated, or it does not.
use native.Mathlib.Omega.{arith}
use Rattle.error.proofs.BufferAtExit.{builds_as, builds_no}
use Rattle.error.proofs.Refusals.{passed_on, missing, present}
use Rattle.vector.proofs.Args.{arg_literal, literal_bits}
use Rattle.vector.proofs.OneToVector.{vec_unfit, vec_splat, splat_in}
use Rattle.vector.proofs.splat.Goals as goal

pub literal_at-literal-requires : goal.literal_at-literal-requires
literal_at-literal-requires c = omega (arith, (arg_literal c.args.arg.one.row c.requires).room)

pub returns-in_err-bits : goal.returns-in_err-bits
returns-in_err-bits c =
    let m = missing _ _ c.ok_or.ensures.value c.in_err-bits.was in
    rw (passed_on c.from_residual.result c.from_residual.ensures.1, m.1)
    (λ s j v e x. let y = arg_literal x c.requires in
    builds_no _ _ (vec_unfit y j e c.literal_at-literal.ensures.kind (literal_bits y c.literal_at-literal.ensures.bits) c.convert_to.ensures m.0 s _))

pub returns : goal.returns
returns c =
    λ s j v e x. let y = arg_literal x c.requires in
    let q = literal_bits y c.literal_at-literal.ensures.bits in
    let f = present _ _ c.ok_or.ensures.value c.in_ok-bits.was in
    builds_as _ (vec_splat y j e c.literal_at-literal.ensures.kind q c.convert_to.ensures f s _) (c.repeated.ensures j e (splat_in y j e c.literal_at-literal.ensures.kind q c.convert_to.ensures f))
