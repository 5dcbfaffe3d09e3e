-- The count, the arguments that are neither literals nor vectors, the literals; then it is written.
use mathlib.Core.Path.{sym, ◌∙◌, subst}
use lib.Dec.{T}
use Rattle.meaning.specs.Build.{flattened}
use Rattle.laws.proofs.Each.{some_length}
use Rattle.error.proofs.BufferAtExit.{builds_as, builds_no}
use Rattle.vector.specs.VectorParts.{pay_to}
use Rattle.vector.proofs.Lits.{other_none}
use Rattle.vector.proofs.Decides.{vec_miscount, vec_none, vec_some, flat_items, fits_none, fits_goes}
use Rattle.vector.proofs.vec_parts.Goals as goal

pub returns-then-m-wanted : goal.returns-then-m-wanted
returns-then-m-wanted c =
    λ j l e x. builds_no c.args.out.now _
    (vec_miscount c.args.n c.flat_count-m.result j (flattened l) c.if-m-wanted.true (c.flat_count-m.ensures l x))

pub returns-then-not-all_flat : goal.returns-then-not-all_flat
returns-then-not-all_flat c =
    λ j l e x. builds_no _ _ (vec_none _ c.flat_count-m.result j (flattened l) c.if-m-wanted.false (c.flat_count-m.ensures l x)
    (other_none j l (sym (c.all_flat.ensures l x) ∙ c.if-not-all_flat.true)))

pub fits-requires : goal.fits-requires
fits-requires c =
    flat_items c.args.kind.some.kind c.requires.some_row.row (subst T (sym (c.if-not-all_flat.false) ∙ c.all_flat.ensures _ c.requires.some_row.row)
    tt)

pub returns-then-not-fits : goal.returns-then-not-fits
returns-then-not-fits c =
    λ j l e x. let f = subst T (sym (c.if-not-all_flat.false)
    ∙ c.all_flat.ensures l x) tt in
    builds_no _ _ (vec_none _ c.flat_count-m.result j (flattened l) c.if-m-wanted.false (c.flat_count-m.ensures l x)
    (fits_none j x f e c.fits.ensures (c.if-not-fits.true)))

pub write_parts-requires : goal.write_parts-requires
write_parts-requires c =
    let f = subst T (sym (c.if-not-all_flat.false)
    ∙ c.all_flat.ensures _ c.requires.some_row.row) tt in
    let g = fits_goes c.args.kind.some.kind c.requires.some_row.row f c.args.kind.some.no c.fits.ensures
    (c.if-not-fits.false) in
    record {
      some = record { kind = c.args.kind.some.kind; no = c.args.kind.some.no; values = _; pays = g.0; goes = g.1 };
      count = some_length (pay_to c.args.kind.some.kind) _ g.0 g.1.goes
          ∙ (sym (c.flat_count-m.ensures _ c.requires.some_row.row) ∙ c.if-m-wanted.false);
    }

pub returns : goal.returns
returns c =
    λ j l e x. let f = subst T (sym c.if-not-all_flat.false ∙ c.all_flat.ensures l x) tt in
    let g = fits_goes j x f e c.fits.ensures
    (c.if-not-fits.false) in
    builds_as _ (vec_some _ c.flat_count-m.result j (flattened l) (search) (c.flat_count-m.ensures l x) g.0 g.1.goes)
    (c.write_parts.ensures j l g.0 e g.1
    (some_length (pay_to j) (flattened l) g.0 g.1.goes ∙
    (sym (c.flat_count-m.ensures l x) ∙ c.if-m-wanted.false)))
