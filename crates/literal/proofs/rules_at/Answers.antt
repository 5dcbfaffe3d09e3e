-- `literal::rules_at` meets its contract: each stage's rules compute, and a number over 2 is none's.
use Rattle.meaning.specs.Scalars.{checked}
use Rattle.meaning.specs.Entries.{stage_of}
use Rattle.literal.specs.LiteralAnswers.{rules_of, staged_of}
use Rattle.literal.proofs.Tests.{no_stage}
use borrow.Author.Rules.{rules}
use Rattle.literal.proofs.rules_at.Goals as goal

pub returns-in-0 : goal.returns-in-0
unfolding staged_of rules_of stage_of checked
returns-in-0 c = rw c.in-0.is

pub returns-in-1 : goal.returns-in-1
unfolding staged_of rules_of stage_of checked
returns-in-1 c = rw c.in-1.is

pub returns-in-2 : goal.returns-in-2
unfolding staged_of rules_of stage_of checked
returns-in-2 c = rw c.in-2.is

pub returns-in_default : goal.returns-in_default
unfolding staged_of rules_of stage_of checked
returns-in_default c = rw (no_stage c.args.stage (search rules) (search rules) (search rules))
