-- The arguments are one well-formed type, which is 9, or not, which is 2.
use mathlib.Core.Path.{refl, sym}
use Rattle.meaning.specs.Trees.{Tr}
use Rattle.meaning.specs.Records.{good_arg}
use Rattle.meaning.specs.Entries.{rank_one}
use Rattle.record.proofs.Starts.{decided, refuted}
use Rattle.std.proofs.Common.{rules}
use Rattle.error.specs.Refusals.{paper}
use Rattle.rank.proofs.Ranks.{one_read, none_read}
use Rattle.rank.proofs.rank_to_runtime.Goals as goal

pub returns-then-not-is_type : goal.returns-then-not-is_type
unfolding paper good_arg rank_one
returns-then-not-is_type c =
    λ t. none_read (Tr t) (λ u. refl) (λ i. search rules)
    (refuted c.is_type.ensures c.if-not-is_type.true)

pub returns : goal.returns
unfolding paper good_arg rank_one
returns c =
    λ t. sym (one_read (Tr t) (λ u. refl) (decided c.is_type.ensures
    c.if-not-is_type.false))
