-- Behind the mark and the two counts stand the columns, and the matrix ends where they do.
use Rattle.meaning.specs.Trees.{Tm}
use Rattle.inst.proofs.ValueRows.{told_as}
use Rattle.inst.proofs.ValueParts.{parts_of, front_bytes}
use Rattle.inst.proofs.Starts.{fits_starts, parts_same}
use Rattle.inst.proofs.matrix_as.Goals as goal

pub returns-then-not-four_at : goal.returns-then-not-four_at
unfolding parts_of front_bytes
returns-then-not-four_at c =
    λ j p e w. c.if-not-four_at.ensures
    (fits_starts c.args.s.now c.args.at (Tm c.args.size.columns c.args.size.rows j) tt e w)

pub returns : goal.returns
unfolding parts_of front_bytes
returns c =
    λ j p. told_as
    (parts_same c.args.s.now c.args.at (Tm c.args.size.columns c.args.size.rows j) tt c.if-not-four_at.ensures)
    c.columns.result (rw c.from.ensures at c.columns.ensures j p)
