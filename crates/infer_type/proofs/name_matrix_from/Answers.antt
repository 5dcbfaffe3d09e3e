-- The float kind, then the shape.
use mathlib.Core.Path.{sym, ap, ◌∙◌, subst}
use Rattle.meaning.specs.Answers.{Result, ok, ◌>>◌}
use Rattle.meaning.specs.Build.{mat_shape}
use Rattle.meaning.specs.Convert.{float_kind}
use Rattle.meaning.specs.Trees.{Tm, inner}
use Rattle.error.proofs.Refusals.{passed_on, missing, present}
use Rattle.shape.specs.Matrices.{ShapeOf}
use Rattle.shape.proofs.KindsFound.{found_kind, found_none}
use Rattle.shape.proofs.Matrices.{refused_then}
use Rattle.infer_type.proofs.Shapes.{float_named, float_none}
use Rattle.infer_type.proofs.name_matrix_from.Goals as goal

pub returns-in_err-k : goal.returns-in_err-k
returns-in_err-k c =
    λ t e w. let m = missing _ _ c.ok_or.ensures.value c.in_err-k.was in
    rw (passed_on c.from_residual.result c.from_residual.ensures.1, m.1)
    (float_none c.args.size.columns c.args.size.rows c.args.n t
    (found_none (float_kind (inner t)) (sym m.0 ∙ c.float_inner.ensures t e w)))

pub returns-in_err-matrix_shape : goal.returns-in_err-matrix_shape
returns-in_err-matrix_shape c =
    λ t e w. let x = found_kind (float_kind (inner t))
    (sym (present _ _ c.ok_or.ensures.value c.in_ok-k.was) ∙ c.float_inner.ensures t e w) in
    rw (passed_on c.from_residual-in_err-matrix_shape.result c.from_residual-in_err-matrix_shape.ensures.1)
    (float_named _ _ _ t x
    ∙ refused_then _ _ (subst (ShapeOf t (mat_shape c.args.size.columns c.args.size.rows t c.args.n)) c.in_err-matrix_shape.was
    (c.matrix_shape.ensures t e w)))

pub returns : goal.returns
returns c =
    λ t e w. let x = found_kind (float_kind (inner t))
    (sym (present _ _ c.ok_or.ensures.value c.in_ok-k.was) ∙ c.float_inner.ensures t e w) in (
      x.kind,
      x.no,
      float_named _ _ _ t x
          ∙ ap (λ (y : Result (Unit {0})). y >> ok (Tm c.args.size.columns c.args.size.rows x.kind))
          (subst (ShapeOf t (mat_shape c.args.size.columns c.args.size.rows t c.args.n)) c.in_ok-matrix_shape.was
          (c.matrix_shape.ensures t e w)).0,
    )
