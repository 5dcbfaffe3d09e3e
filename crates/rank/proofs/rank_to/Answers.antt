-- The arguments are one well-formed type, whose rank it is; or they are not, which is 2.
use mathlib.Core.Path.{refl, sym, ap, ◌∙◌}
use Rattle.meaning.specs.Trees.{Of}
use Rattle.meaning.specs.Records.{good_arg}
use Rattle.meaning.specs.Entries.{rank_one}
use Rattle.record.proofs.Starts.{decided, refuted}
use Rattle.std.proofs.Common.{rules}
use Rattle.error.specs.Refusals.{paper}
use Rattle.rank.proofs.Ranks.{one_read, none_read, rank_told}
use Rattle.rank.proofs.rank_to.Goals as goal

pub returns-then-not-is_type : goal.returns-then-not-is_type
unfolding paper good_arg rank_one
returns-then-not-is_type c =
    λ t w. none_read (Of t) (λ u. refl) (λ i. search rules)
    (refuted c.is_type.ensures c.if-not-is_type.true)

pub returns : goal.returns
unfolding good_arg rank_one
returns c =
    λ t w. let x = decided c.is_type.ensures c.if-not-is_type.false in
    ap paper c.ok_or.ensures.value ∙ (rank_told _ (c.type_rank.ensures _ t x.ends.stands w) ∙ sym (one_read (Of t) (λ u. refl) x))
