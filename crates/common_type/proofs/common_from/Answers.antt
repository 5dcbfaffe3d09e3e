-- The type so far and what is left come to the whole.
use mathlib.Core.Path.{refl, ◌∙◌}
use native.Mathlib.Omega.{arith}
use Rattle.args.proofs.ArgumentRows.{args_some, args_first, args_less, args_on, args_end}
use Rattle.common_type.proofs.SoFar.{so_on, so_never, so_end}
use Rattle.common_type.proofs.common_from.Goals as goal

pub next_part-part-requires-clause-some_arg : goal.next_part-part-requires-clause-some_arg
next_part-part-requires-clause-some_arg c = args_some (c.loop-at.invariant.1 _ _ c.requires.rest.row c.requires.so_far.stands) c.loop-at-test.true

pub meet-requires : goal.meet-requires
meet-requires c =
    let g = c.loop-at.invariant.1 _ _ c.requires.rest.row c.requires.so_far.stands in
    record {
      so_far = record { type = g.so.type; stands = g.so.stands };
      room = omega (arith, c.next_part-part.ensures.short, c.loop-at.invariant.0, c.requires.room);
    }

pub returns-in_err-end : goal.returns-in_err-end
returns-in_err-end c =
    λ l t w v. rw c.from_residual.ensures (args_first (c.loop-at.invariant.1 l t w v)
    (search) λ a k x q.
    so_never q refl (c.next_part-part.ensures.brings a k x).stands
    c.meet.result c.meet.new.ty c.meet.ensures c.in_err-end.was)

pub loop-at-smaller : goal.loop-at-smaller
loop-at-smaller c =
    omega (
      arith,
      c.loop-at-test.true,
      args_less
          (c.loop-at.invariant.1 _ _
          c.requires.rest.row c.requires.so_far.stands) c.loop-at-test.true (λ a k x. (c.next_part-part.ensures.brings a k x).next),
    )

pub loop-at-preserved : goal.loop-at-preserved
loop-at-preserved c = (
  c.meet.auto.ty ∙ c.loop-at.invariant.0,
  λ l t w v.
      args_on (c.loop-at.invariant.1 l t w v) (search) (λ a k x. (c.next_part-part.ensures.brings a k x).next) λ a k x q.
      so_on q refl (c.next_part-part.ensures.brings a k x).stands
      c.meet.result c.meet.new.ty c.meet.ensures c.in_ok-end.was,
)

pub returns : goal.returns
returns c = λ l t w v. so_end (args_end (c.loop-at.invariant.1 l t w v) c.loop-at-test.false) refl
