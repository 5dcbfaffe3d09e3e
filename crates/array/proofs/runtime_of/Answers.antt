-- The arguments, then the writing.
use mathlib.Core.Path.{sym, ◌∙◌}
use Rattle.error.proofs.BufferAtExit.{builds_as, builds_no}
use Rattle.array.proofs.Arrays.{become, runtime_nine, runtime_ok}
use Rattle.array.proofs.runtime_of.Goals as goal

pub returns-then-not-all_convert : goal.returns-then-not-all_convert
returns-then-not-all_convert c =
    λ t l w g. builds_no _ _ (runtime_nine t l (sym (c.all_convert.ensures l t _ g.row w)
    ∙ c.if-not-all_convert.true))

pub write_array-requires : goal.write_array-requires
write_array-requires c =
    let b = become _ _ (sym (c.all_convert.ensures _ _ _ c.args.args.given.given.row c.requires.whole)
    ∙ c.if-not-all_convert.false) in
    record {
      type = _;
      end = _;
      values = _;
      intos = b.intos;
      elements = record { given = c.args.args.given.given; least = c.requires.least; stands = c.requires.whole; goes = b.goes };
    }

pub returns : goal.returns
returns c =
    λ t l w g. let b = become t l (sym (c.all_convert.ensures l t _ g.row w)
    ∙ c.if-not-all_convert.false) in
    builds_as _ (runtime_ok t l b) (c.write_array.ensures t _ l b.intos
    record {
      given = g;
      least = c.requires.least;
      stands = w;
      goes = b.goes;
    })
