-- The arguments, then the count, then the writing.
use mathlib.Core.Path.{sym, ◌∙◌}
use native.Mathlib.Omega.{arith}
use Rattle.error.proofs.BufferAtExit.{builds_as, builds_no}
use Rattle.array.proofs.Arrays.{array_room, array_count, array_elem, become, array_nine, array_miscount, array_ok}
use Rattle.array.proofs.array_of.Goals as goal

pub all_convert-requires-clause-asked : goal.all_convert-requires-clause-asked
all_convert-requires-clause-asked c =
    record {
      rest = record { values = _; row = c.args.args.given.given.row };
      to = record { type = _; end = _; stands = array_elem c.requires.whole };
    }

pub returns-then-not-all_convert : goal.returns-then-not-all_convert
returns-then-not-all_convert c =
    λ n t l w g. builds_no _ _ (array_nine t l n (sym (c.all_convert.ensures l t _ g.row (array_elem w))
    ∙ c.if-not-all_convert.true))

pub bounds-ty-2 : goal.bounds-ty-2
bounds-ty-2 c = omega (arith, array_room c.requires.whole)

pub bounds-ty-3 : goal.bounds-ty-3
bounds-ty-3 c = omega (arith, array_room c.requires.whole)

pub returns-then-given-wanted : goal.returns-then-given-wanted
returns-then-given-wanted c =
    λ n t l w g. let b = become t l (sym (c.all_convert.ensures l t _ g.row (array_elem w))
    ∙ c.if-not-all_convert.false) in
    builds_no _ _ (array_miscount t l b (c.join-wanted.ensures ∙ array_count w) g.count c.if-given-wanted.true)

pub write_array-requires : goal.write_array-requires
write_array-requires c =
    let b = become _ _ (sym (c.all_convert.ensures _ _ _ c.args.args.given.given.row (array_elem c.requires.whole))
    ∙ c.if-not-all_convert.false) in
    record {
      type = _;
      end = _;
      values = _;
      intos = b.intos;
      elements = record { given = c.args.args.given.given; least = c.requires.least; stands = array_elem c.requires.whole; goes = b.goes };
    }

pub returns : goal.returns
returns c =
    λ n t l w g. let b = become t l (sym (c.all_convert.ensures l t _ g.row
    (array_elem w)) ∙ (search)) in
    let k = c.if-given-wanted.false ∙ (c.join-wanted.ensures ∙ array_count w) in
    builds_as _ (array_ok t l b (sym g.count ∙ k))
    (c.write_array.ensures t _ l b.intos
    record {
      given = g;
      least = c.requires.least;
      stands = array_elem w;
      goes = b.goes;
    })
