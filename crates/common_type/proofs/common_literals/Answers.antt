-- The scalar so far and what is left come to the whole.
use mathlib.Core.Path.{refl, ◌∙◌}
use native.Mathlib.Omega.{arith}
use lib.ListN.{length-set}
use Rattle.args.proofs.ArgumentRows.{args_first, args_on, args_end}
use Rattle.args.proofs.LiteralArgs.{literal_by, literal_end}
use Rattle.args.proofs.Firsts.{args_three}
use Rattle.common_type.proofs.SoFar.{so_end}
use Rattle.common_type.proofs.ScalarSoFar.{kind_all, kind_on, kind_never}
use Rattle.common_type.proofs.common_literals.Goals as goal

pub loop-at-init : goal.loop-at-init
loop-at-init c = (refl, kind_all c.args.flat c.requires.so_far)

pub bounds-args-at : goal.bounds-args-at
bounds-args-at c =
    let g = c.loop-at.invariant.1 _ _ c.requires.rest.row
    c.requires.so_far in omega (arith, args_three g c.loop-at-test.true)

pub common_from-requires : goal.common_from-requires
common_from-requires c =
    let g = c.loop-at.invariant.1 _ _ c.requires.rest.row c.requires.so_far in
    record {
      rest = record { values = g.items; row = g.row };
      so_far = record { type = _; stands = g.so.so.stands };
      room = c.loop-at.invariant.0 ∙ c.requires.room;
    }

pub bounds-args-at-in-loop-at : goal.bounds-args-at-in-loop-at
bounds-args-at-in-loop-at c =
    let g = c.loop-at.invariant.1
    _ _ c.requires.rest.row c.requires.so_far in omega (arith, args_three g c.loop-at-test.true)

pub returns-in_err-ty : goal.returns-in_err-ty
returns-in_err-ty c =
    λ l t w v. rw c.from_residual.ensures (args_first (c.loop-at.invariant.1 l t w v) (search) λ a k x q.
    kind_never (literal_by x c.if-args-at-ne115.false) q c.meet_kinds.result
    c.meet_kinds.ensures c.in_err-ty.was)

pub loop-at-smaller : goal.loop-at-smaller
loop-at-smaller c =
    let g = c.loop-at.invariant.1 _ _ c.requires.rest.row
    c.requires.so_far in
    let z = args_first g c.loop-at-test.true λ a k x q.
    (literal_end x (literal_by x (search)) c.literal_len.ensures).1 in
    omega (arith, c.loop-at-test.true)

pub loop-at-preserved : goal.loop-at-preserved
loop-at-preserved c = (
  simp length-set c.loop-at.invariant.0,
  λ l t w v.
      args_on (c.loop-at.invariant.1 l t w v) (search)
      (λ a k x. (literal_end x (literal_by x c.if-args-at-ne115.false) c.literal_len.ensures).2) λ a k x q.
      kind_on (literal_by x c.if-args-at-ne115.false) q c.meet_kinds.result
      c.meet_kinds.ensures c.in_ok-ty.was,
)

pub returns : goal.returns
returns c = λ l t w v. so_end (args_end (c.loop-at.invariant.1 l t w v) c.loop-at-test.false).so refl
