-- Behind the mark and the count stand the literals, and the vector ends where they do.
use Rattle.meaning.specs.Trees.{Tv}
use Rattle.inst.proofs.ValueRows.{told_as}
use Rattle.inst.proofs.ValueParts.{parts_of, front_bytes}
use Rattle.inst.proofs.Starts.{fits_starts, parts_same}
use Rattle.inst.proofs.vector_as.Goals as goal

pub returns-then-not-vector_starts : goal.returns-then-not-vector_starts
unfolding parts_of front_bytes
returns-then-not-vector_starts c =
    λ j p e w. c.if-not-vector_starts.ensures (fits_starts c.args.s.now c.args.at (Tv c.args.n j) tt e w)

pub returns : goal.returns
unfolding parts_of front_bytes
returns c =
    λ j p. told_as (parts_same c.args.s.now c.args.at (Tv c.args.n j) tt c.if-not-vector_starts.ensures) c.literals.result
    (rw c.from.ensures at c.literals.ensures j p)
