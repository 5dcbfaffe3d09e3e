-- The scan decides where there is a kind at the bottom; a struct stays.
use mathlib.Core.Path.{◌∙◌}
use Rattle.meaning.specs.Records.{val_bytes}
use Rattle.conv.proofs.Values.{scan_items, scan_fits, some_map}
use Rattle.conv.proofs.ValueByType.{kind_scan, struct_fits}
use Rattle.conv.proofs.value_fits.Goals as goal

pub fits-requires : goal.fits-requires
fits-requires c =
    scan_items (kind_scan c.requires.to
    c.leaf_at.ensures c.in-Some.is).scan

pub returns : goal.returns
returns c =
    λ t v x. let y = kind_scan x c.leaf_at.ensures c.in-Some.is in scan_fits
    y.scan y.no c.fits.ensures ∙ some_map val_bytes _

pub returns-in_default : goal.returns-in_default
returns-in_default c = λ t v x. struct_fits x c.leaf_at.ensures c.in_default.is
