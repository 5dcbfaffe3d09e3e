-- A matrix of the size, another one, or no matrix.
use mathlib.Core.List.{◌∷◌, []}
use mathlib.Core.Path.{◌≡◌, sym, ap₂, ◌∙◌}
use Prim.Native.Nat.{ℕ}
use Rattle.std.proofs.Common.{rules}
use Rattle.meaning.specs.Answers.{ok}
use Rattle.meaning.specs.Build.{same_size}
use Rattle.meaning.specs.Trees.{Tm}
use Rattle.ty.proofs.Heads.{matrix_is}
use Rattle.arg_types.proofs.Fronts.{no_matrix}
use Rattle.arg_types.proofs.Given.{given_one}
use Rattle.shape.proofs.TypeRows.{type_whole}
use Rattle.infer_type.proofs.Shapes.{names_as, qm_sized, qm_other}
use Rattle.infer_type.proofs.name_matrix_one.Goals as goal

pub head_at-requires : goal.head_at-requires
head_at-requires c = record { type = _; end = _; stands = (given_one c.args.args.given.given c.requires).whole }

pub returns-then-eq : goal.returns-then-eq
unfolding same_size
returns-then-eq c =
    λ t g. let w = type_whole g.row in
    let x = matrix_is w (sym c.in-Matrix.is ∙ c.head_at.ensures t _ w) in
    let p : c.in-Matrix.a ≡ c.args.size.columns = search rules in
    let q : c.in-Matrix.b ≡ c.args.size.rows = search rules in (
      x.kind,
      x.no,
      qm_sized _ _ x.is (sym c.eq.ensures ∙ c.if-eq.true) ∙ ap₂ (λ (i j : ℕ). ok (Tm i j x.kind)) p q,
    )

pub returns-else-eq : goal.returns-else-eq
unfolding same_size
returns-else-eq c =
    λ t g. let w = type_whole g.row in
    qm_sized _ _ (matrix_is w (sym c.in-Matrix.is ∙ c.head_at.ensures t _ w)).is (sym c.eq.ensures ∙ c.if-eq.false)

pub returns-in_default : goal.returns-in_default
returns-in_default c =
    λ t g. names_as (Tm c.args.size.columns c.args.size.rows) c.name_matrix_parts.result
    (qm_other c.args.size.columns c.args.size.rows (no_matrix (c.head_at.ensures t _ (type_whole g.row)) c.in_default.not-Matrix))
    (c.name_matrix_parts.ensures (t ∷ []) record { row = g.row; count = c.requires })
