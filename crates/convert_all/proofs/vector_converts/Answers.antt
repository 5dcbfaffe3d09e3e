-- A vector converts to one as long, as the kinds do.
use mathlib.Core.Path.{refl}
use Rattle.convert_all.proofs.ByFronts.{vectors, like, unlike}
use Rattle.convert_all.proofs.vector_converts.Goals as goal

pub returns-in_default : goal.returns-in_default
returns-in_default c = λ t u h l. unlike (vectors _) _ t u h l refl (c.in_default.not-Vector _)

pub returns-then-m-n : goal.returns-then-m-n
returns-then-m-n c = λ t u h l. unlike (vectors _) _ t u h l c.in-Vector.is (λ k e. c.if-m-n.true (cc))

pub returns : goal.returns
returns c =
    λ t u h l. like (vectors _) _ t u h _ (cc (c.if-m-n.false, c.in-Vector.is))
    c.kind_converts.ensures
