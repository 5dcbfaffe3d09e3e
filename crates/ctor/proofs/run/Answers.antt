-- The line of what is answered is the line of the input.
use mathlib.Core.Path.{sym, ◌∙◌}
use borrow.Author.Rules.{rules}
use Rattle.error.specs.Refusals.{paper}
use Rattle.ctor_line.specs.Printed.{answer_in, record_len}
use Rattle.ctor_line.specs.Split.{asked}
use Rattle.ctor_line.proofs.Lines.{told_in, told_len}
use Rattle.ctor_line.proofs.Splits.{call_within, run_split}
use Rattle.ctor.proofs.run.Goals as goal

pub ask-answer-requires-clause-n_in_bounds : goal.ask-answer-requires-clause-n_in_bounds
ask-answer-requires-clause-n_in_bounds c = call_within _ _ (sym c.split.ensures ∙ c.in-Some.is)

pub put_line-requires-clause-within : goal.put_line-requires-clause-within
put_line-requires-clause-within c = told_len c.ask-answer.ensures

pub put_line-requires-in-None-clause-within : goal.put_line-requires-in-None-clause-within
unfolding record_len
put_line-requires-in-None-clause-within c = search rules

pub returns-in-Some-clause-put : goal.returns-in-Some-clause-put
returns-in-Some-clause-put c =
    rw (run_split, ← c.split.ensures, c.in-Some.is, ← told_in c.ask-answer.ensures) c.put_line.ensures.put

pub returns-in-None-clause-put : goal.returns-in-None-clause-put
unfolding asked answer_in paper
returns-in-None-clause-put c = rw (run_split, ← c.split.ensures, c.in-None.is) c.put_line-in-None.ensures.put
