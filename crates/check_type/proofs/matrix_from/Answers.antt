-- What stands one level down goes to the kind, or doesn't; then the shape decides.
use mathlib.Core.Path.{sym, ap, ◌∙◌, subst}
use Rattle.meaning.specs.Answers.{Result, ok, ◌>>◌}
use Rattle.meaning.specs.Build.{mat_shape}
use Rattle.meaning.specs.Trees.{Tm}
use Rattle.error.proofs.Refusals.{passed_on}
use Rattle.shape.specs.Matrices.{ShapeOf}
use Rattle.shape.proofs.Downs.{goes_no, goes_to}
use Rattle.shape.proofs.Matrices.{refused_then}
use Rattle.check_type.proofs.Matrices.{down_no, down_yes}
use Rattle.check_type.proofs.matrix_from.Goals as goal

pub returns-then-not-goes_down : goal.returns-then-not-goes_down
returns-then-not-goes_down c =
    λ j t e n w. down_no _ _ _ j t (goes_no j t (sym (c.if-not-goes_down.true)
    ∙ c.goes_down.ensures j t e n w))

pub returns-in_err-matrix_shape : goal.returns-in_err-matrix_shape
returns-in_err-matrix_shape c =
    λ j t e n w. rw (passed_on c.from_residual.result c.from_residual.ensures.1)
    (down_yes c.args.size.columns c.args.size.rows c.args.n j t
    (goes_to j t (sym (c.if-not-goes_down.false) ∙ c.goes_down.ensures j t e n w))
    ∙ refused_then _ _ (subst (ShapeOf t (mat_shape c.args.size.columns c.args.size.rows t c.args.n)) c.in_err-matrix_shape.was
    (c.matrix_shape.ensures t e w)))

pub returns : goal.returns
returns c =
    λ j t e n w. down_yes c.args.size.columns c.args.size.rows c.args.n j t
    (goes_to j t (sym (c.if-not-goes_down.false) ∙ c.goes_down.ensures j t e n w))
    ∙ ap (λ (y : Result (Unit {0})). y >> ok (Tm c.args.size.columns c.args.size.rows j))
    (subst (ShapeOf t (mat_shape c.args.size.columns c.args.size.rows t c.args.n)) c.in_ok-matrix_shape.was
    (c.matrix_shape.ensures t e w)).0
