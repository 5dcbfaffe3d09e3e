-- The parts of the input, as they are lent.
use Rattle.meaning.specs.Entries.{build_answer}
use Rattle.error.proofs.Told.{told_as}
use Rattle.ctor_line.proofs.Splits.{asked_parts}
use Rattle.ctor.proofs.ask.Goals as goal

pub returns : goal.returns
returns c =
    told_as
    (asked_parts build_answer c.args.input.now c.args.n _ c.requires.n_in_bounds c.requires.buffer_len)
    c.call_ctor.ensures
