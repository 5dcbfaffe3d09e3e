-- What writes the rest makes the whole.
use mathlib.Core.Path.{refl, ◌∙◌}
use native.Mathlib.Omega.{arith}
use Rattle.scalar.specs.Made.{make_item}
use Rattle.std.proofs.Common.{rules}
use Rattle.record.proofs.Puts.{put_left}
use Rattle.conv.proofs.Walk.{next_item, next_less, write_all, write_room, write_on, write_end}
use Rattle.scalar.proofs.Results.{given_ok, all_given}
use Rattle.scalar.proofs.MadeLeft.{made_of}
use Rattle.scalar.proofs.write_made.Goals as goal

pub loop-i-init : goal.loop-i-init
loop-i-init c = (
  refl,
  λ s j l m x w g. write_all (made_of s j) c.args.w.now.out.now c.args.w.now.at w
      (all_given (make_item s j) l m g),
)

pub put_made-requires : goal.put_made-requires
put_made-requires c =
    write_room (c.loop-i.invariant.1 c.requires.at c.requires.kind c.requires.items c.requires.intos c.requires.ctor c.requires.stands c.requires.goes) c.loop-i-test.true
    c.requires.room
    λ a b w q t. record {
      at = c.requires.at;
      kind = c.requires.kind;
      ctor = c.requires.ctor;
      item = a;
      into = b;
      stands = w;
      goes = given_ok
          (make_item c.requires.at c.requires.kind a) q;
      room = t;
    }

pub item_end-i-requires : goal.item_end-i-requires
item_end-i-requires c =
    next_item
    (c.loop-i.invariant.1 c.requires.at c.requires.kind c.requires.items c.requires.intos c.requires.ctor c.requires.stands c.requires.goes)
    c.loop-i-test.true

pub loop-i-smaller : goal.loop-i-smaller
loop-i-smaller c =
    omega (
      arith,
      c.loop-i-test.true,
      next_less (c.loop-i.invariant.1 c.requires.at c.requires.kind c.requires.items c.requires.intos c.requires.ctor
          c.requires.stands c.requires.goes) c.loop-i-test.true c.item_end-i.ensures,
    )

pub loop-i-preserved : goal.loop-i-preserved
loop-i-preserved c = (
  c.put_made.ensures.same_reference ∙ c.loop-i.invariant.0,
  λ s j l m x w g. write_on (c.loop-i.invariant.1 s j l m x w g)
      c.loop-i-test.true c.item_end-i.ensures
      (λ a b u q. c.put_made.ensures.put s j a b x u (given_ok (make_item s j a) q)),
)

pub returns-clause-put : goal.returns-clause-put
returns-clause-put c = λ s j l m x w g. put_left (write_end (c.loop-i.invariant.1 s j l m x w g) c.loop-i-test.false) (search rules)
