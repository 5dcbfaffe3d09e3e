-- `literal::Literal::abstract_ctor` meets its contract: only the argument's kind is looked at.
use mathlib.Core.Path.{sym, ◌∙◌}
use Rattle.meaning.specs.Kinds.{kind_of}
use Rattle.meaning.specs.Answers.{no}
use Rattle.literal.specs.LiteralAnswers.{paper, no_ctor}
use Rattle.literal.proofs.Tests.{a_kind, not_a_kind}
use Rattle.literal.proofs.Literal.abstract_ctor.Goals as goal

pub returns-then-is_kind : goal.returns-then-is_kind
unfolding paper no_ctor
returns-then-is_kind c = a_kind (no 2) (no 4) (kind_of c.args.self.kind) (sym c.is_kind.ensures ∙ c.if-is_kind.true)

pub returns-else-is_kind : goal.returns-else-is_kind
unfolding paper no_ctor
returns-else-is_kind c = not_a_kind (no 2) (no 4) (kind_of c.args.self.kind) (sym c.is_kind.ensures ∙ c.if-is_kind.false)
