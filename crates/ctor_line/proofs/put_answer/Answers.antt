-- A line for each kind of answer.
use mathlib.Core.Path.{sym}
use Prim.Native.Nat.{ℕ}
use lib.ListN.{take}
use Rattle.meaning.specs.Answers.{ok}
use Rattle.error.proofs.Refusals.{no_more}
use Rattle.error.specs.Refusals.{paper}
use Rattle.ctor_line.specs.Printed.{answer_in}
use Rattle.ctor_line.proofs.Lines.{record_bytes}
use Rattle.ctor_line.proofs.put_answer.Goals as goal

pub slice_bounds-put_ok-end : goal.slice_bounds-put_ok-end
slice_bounds-put_ok-end c =
    sym
    (record_bytes c.args.buffer.now c.in-Ok.is c.requires.within)

pub returns-in-Ok-clause-put : goal.returns-in-Ok-clause-put
unfolding answer_in paper
returns-in-Ok-clause-put c = rw c.in-Ok.is c.put_ok.ensures.put

pub returns-in-Err-clause-put : goal.returns-in-Err-clause-put
unfolding answer_in paper
returns-in-Err-clause-put c = rw (c.in-Err.is, no_more (λ (n : ℕ). ok (take n c.args.buffer.now)) c.in-Err.refusal) c.put_refusal.ensures.put
