-- The answer follows from `has_layout` and `measure`, each of which speaks of whichever type the target is.
use Rattle.error.proofs.Refusals.{passed_on, missing, present}
use Rattle.layout.proofs.Answers.{none_laid, long_laid, size_laid}
use Rattle.layout.proofs.layout_of_type.Goals as goal

pub returns-then-not-has_layout : goal.returns-then-not-has_layout
returns-then-not-has_layout c = λ t w. none_laid t (c.has_layout.ensures t w) c.if-not-has_layout.true

pub returns-in_err-extent : goal.returns-in_err-extent
returns-in_err-extent c =
    λ t w. let m = missing _ _ c.ok_or.ensures.value c.in_err-extent.was in
    rw (passed_on c.from_residual.result c.from_residual.ensures.1, m.1)
    (long_laid t (c.has_layout.ensures t w) c.if-not-has_layout.false _ (c.measure.ensures t _ w).is m.0)

pub returns : goal.returns
returns c =
    λ t w. size_laid t (c.has_layout.ensures t w) c.if-not-has_layout.false _ (c.measure.ensures t _ w).is
    (present _ _ c.ok_or.ensures.value c.in_ok-extent.was) c.from.ensures
