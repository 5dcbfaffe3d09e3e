-- The scan decides where there is a kind at the bottom; structs stay.
use mathlib.Core.Path.{sym, ap, ◌∙◌}
use native.Mathlib.Omega.{arith}
use Rattle.meaning.specs.Trees.{Ty}
use Rattle.meaning.specs.Records.{val_bytes, joined}
use Rattle.ty.proofs.Heads.{any_front, scalar_by}
use Rattle.conv.proofs.Values.{scan_items, scan_fits, some_map}
use Rattle.convert_all.proofs.Converts.{all_fit, row_scan, row_fits, asked_all}
use Rattle.convert_all.proofs.all_fit.Goals as goal

pub overflow_add-at : goal.overflow_add-at
overflow_add-at c = omega (arith, any_front c.requires.stands)

pub bounds-ty-at : goal.bounds-ty-at
bounds-ty-at c = omega (arith, any_front c.requires.stands)

pub overflow_add-at-then-ty-at-eq115 : goal.overflow_add-at-then-ty-at-eq115
overflow_add-at-then-ty-at-eq115 c = omega (arith, any_front c.requires.stands)

pub bounds-ty-at-then-ty-at-eq115 : goal.bounds-ty-at-then-ty-at-eq115
bounds-ty-at-then-ty-at-eq115 c = omega (arith, any_front c.requires.stands)

pub returns-then-ty-at-eq115 : goal.returns-then-ty-at-eq115
returns-then-ty-at-eq115 c =
    λ l t e w v. let x = scalar_by v c.if-ty-at-eq115.true in c.literals_fit.ensures l x.kind x.no w
    ∙ ap (λ (u : Ty). all_fit u l) (sym x.is)

pub fits-requires : goal.fits-requires
fits-requires c =
    scan_items
    (row_scan c.requires.row c.requires.stands c.requires.converts c.leaf_at.ensures c.in-Some.is).scan

pub returns : goal.returns
returns c =
    λ l t e w v. let y = row_scan w v (asked_all (search) w v) c.leaf_at.ensures
    c.in-Some.is in scan_fits y.scan y.no c.fits.ensures ∙ some_map (joined val_bytes) _

pub returns-in_default : goal.returns-in_default
returns-in_default c = λ l t e w v. row_fits w v (asked_all (search) w v) c.leaf_at.ensures c.in_default.is
