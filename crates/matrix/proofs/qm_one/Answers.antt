-- The mark, the size; then the record as it stands.
use mathlib.Core.Path.{refl, ap, ◌∙◌}
use mathlib.Core.Bool.{not}
use mathlib.Core.List.{[], ◌∷◌}
use native.Mathlib.Omega.{arith}
use Rattle.error.proofs.BufferAtExit.{builds_as, builds_no}
use Rattle.args.proofs.Kept.{hand_kept}
use Rattle.scalar.specs.Made.{one_given}
use Rattle.matrix.proofs.OneToMatrix.{one_mark, qm_other, same_told, matrix_is, qm_unequal, qm_kept}
use Rattle.matrix.proofs.qm_one.Goals as goal

pub bounds-arg-1 : goal.bounds-arg-1
bounds-arg-1 c = one_mark c.args.arg.one.row

pub invariant_of-values : goal.invariant_of-values
invariant_of-values c = record { given = one_given c.args.arg.one }

pub returns-then-arg-ne109 : goal.returns-then-arg-ne109
returns-then-arg-ne109 c =
    λ v x. builds_as _ (qm_other x _ _ c.if-arg-ne109.true)
    (c.qm_parts.ensures (v ∷ []) x (omega arith) refl)

pub size_of-requires : goal.size_of-requires
size_of-requires c = (matrix_is c.args.arg.one.row c.if-arg-ne109.false).room

pub returns-then-ne : goal.returns-then-ne
returns-then-ne c =
    λ v x. builds_no _ _ (qm_unequal x c.if-arg-ne109.false _ _
    (same_told c.args.arg.bytes.now _ _ c.size_of.ensures.columns c.size_of.ensures.rows c.ne.ensures ∙ ap not c.if-ne.true))

pub returns : goal.returns
returns c =
    λ v x. hand_kept x (qm_kept x (search) _ _ (same_told c.args.arg.bytes.now _ _ c.size_of.ensures.columns c.size_of.ensures.rows c.ne.ensures ∙ ap not c.if-ne.false))
    c.hand.ensures
