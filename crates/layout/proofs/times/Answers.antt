-- n times the size is past 64 bits exactly where the product that is checked is.
use mathlib.Core.Path.{sym}
use native.Mathlib.Omega.{arith}
use Rattle.layout.proofs.Extents.{extent_is, extent_long}
use Rattle.layout.proofs.times.Goals as goal

pub returns-in_err-size : goal.returns-in_err-size
returns-in_err-size c = rw (c.from_residual.ensures, ← c.from.ensures) (sym (extent_long _ _ _ (omega (arith, c.in_err-size.ensures))))

pub returns : goal.returns
returns c = rw (c.in_ok-size.ensures.1, ← c.from.ensures) (sym (extent_is _ _ _ c.in_ok-size.ensures.0))
