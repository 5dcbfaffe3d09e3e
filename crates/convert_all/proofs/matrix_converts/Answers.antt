-- A matrix converts to one of equal shape, as the kinds do.
use mathlib.Core.Path.{refl}
use Rattle.convert_all.proofs.ByFronts.{matrices, like, unlike}
use Rattle.convert_all.proofs.matrix_converts.Goals as goal

pub returns-in_default : goal.returns-in_default
returns-in_default c = λ t u h l. unlike (matrices _ _) _ t u h l refl (c.in_default.not-Matrix _ _)

pub returns-then-c-size : goal.returns-then-c-size
returns-then-c-size c = λ t u h l. unlike (matrices _ _) _ t u h l c.in-Matrix.is (λ k e. c.if-c-size.true (cc))

pub returns-then-r-size : goal.returns-then-r-size
returns-then-r-size c = λ t u h l. unlike (matrices _ _) _ t u h l c.in-Matrix.is (λ k e. c.if-r-size.true (cc))

pub returns : goal.returns
returns c =
    λ t u h l. like (matrices _ _) _ t u h _ (cc (
      c.if-r-size.false,
      c.if-c-size.false,
      c.in-Matrix.is,
    )) c.kind_converts.ensures
