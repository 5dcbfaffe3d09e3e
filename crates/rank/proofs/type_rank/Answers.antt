-- Each answer is the rank, for whichever types stand there.
use mathlib.Core.Path.{sym, ◌∙◌}
use Rattle.record.proofs.Equal.{same_is}
use Rattle.rank.proofs.Ranks.{rank_same, rank_from_struct, rank_to_struct, rank_shape, rank_no_shape}
use Rattle.rank.proofs.type_rank.Goals as goal

pub returns-then-eq : goal.returns-then-eq
returns-then-eq c = λ t u w v. rank_same w v (c.eq.ensures ∙ same_is _ _) c.if-eq.true

pub returns-in_err-j : goal.returns-in_err-j
returns-in_err-j c =
    rw c.from_residual.ensures
    (λ t u w v. rank_from_struct w v (c.eq.ensures ∙ same_is _ _) c.if-eq.false (sym c.in_err-j.was ∙ c.leaf_at.ensures t _ w))

pub returns-in_err-k : goal.returns-in_err-k
returns-in_err-k c =
    rw c.from_residual-in_err-k.ensures
    (λ t u w v. rank_to_struct w v (c.eq.ensures ∙ same_is _ _) c.if-eq.false (sym c.in_ok-j.was ∙ c.leaf_at.ensures t _ w)
    (sym c.in_err-k.was ∙ c.leaf_at-2.ensures u _ v))

pub returns-then-same_shape : goal.returns-then-same_shape
returns-then-same_shape c =
    λ t u w v. c.kind_rank.ensures ∙ rank_shape w v (c.eq.ensures ∙ same_is _ _) c.if-eq.false
    (sym c.in_ok-j.was ∙ c.leaf_at.ensures t _ w) (sym c.in_ok-k.was ∙ c.leaf_at-2.ensures u _ v)
    c.same_shape.ensures c.if-same_shape.true

pub returns : goal.returns
returns c =
    λ t u w v. rank_no_shape w v (c.eq.ensures ∙ same_is _ _) c.if-eq.false
    (sym c.in_ok-j.was ∙ c.leaf_at.ensures t _ w) (sym c.in_ok-k.was ∙ c.leaf_at-2.ensures u _ v)
    c.same_shape.ensures c.if-same_shape.false
