-- A matrix of the size, another one, or no matrix.
use mathlib.Core.List.{◌∷◌, []}
use mathlib.Core.Path.{sym, ◌∙◌}
use Rattle.meaning.specs.Build.{same_size}
use Rattle.meaning.specs.Trees.{Tm}
use Rattle.ty.proofs.Heads.{matrix_is}
use Rattle.arg_types.proofs.Fronts.{no_matrix}
use Rattle.arg_types.proofs.Given.{given_one}
use Rattle.check_type.proofs.Checks.{rules_as}
use Rattle.check_type.proofs.Matrices.{mat_sized, mat_other}
use Rattle.shape.proofs.TypeRows.{type_whole}
use Rattle.check_type.proofs.check_matrix_one.Goals as goal

pub head_at-requires : goal.head_at-requires
head_at-requires c = record { type = _; end = _; stands = (given_one c.args.args.given.given c.requires).whole }

pub returns-then-eq : goal.returns-then-eq
unfolding same_size
returns-then-eq c =
    λ j t n g. let w = type_whole g.row in
    mat_sized _ _ j (matrix_is w (sym c.in-Matrix.is ∙ c.head_at.ensures t _ w)).is (sym c.eq.ensures ∙ c.if-eq.true)

pub returns-else-eq : goal.returns-else-eq
unfolding same_size
returns-else-eq c =
    λ j t n g. let w = type_whole g.row in
    mat_sized _ _ j (matrix_is w (sym c.in-Matrix.is ∙ c.head_at.ensures t _ w)).is (sym c.eq.ensures ∙ c.if-eq.false)

pub returns-in_default : goal.returns-in_default
returns-in_default c =
    λ j t n g. rules_as (Tm c.args.size.columns c.args.size.rows j) c.check_matrix_parts.result
    (mat_other c.args.size.columns c.args.size.rows j (no_matrix (c.head_at.ensures t _ (type_whole g.row)) c.in_default.not-Matrix))
    (c.check_matrix_parts.ensures j (t ∷ []) n record { row = g.row; count = c.requires })
