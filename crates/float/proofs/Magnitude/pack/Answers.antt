-- `float::Magnitude::pack` meets its contract. The field and the digits kept fit, and their sum is the pattern.
use native.Mathlib.Omega.{arith}
use Rattle.float.proofs.Rounds.{packs_zero, room_up, sum_fits, packs}
use Rattle.float.proofs.Magnitude.pack.Goals as goal

pub returns-then-self-eq0 : goal.returns-then-self-eq0
returns-then-self-eq0 g c = packs_zero _ _ _ _ c.if-self-eq0.true

pub scaled-q-requires : goal.scaled-q-requires
scaled-q-requires g c = room_up _ _ _ _ c.unit-u.ensures g.F.Format.laws c.dropped-k.ensures.value (omega arith)

pub overflow_add-placed : goal.overflow_add-placed
overflow_add-placed g c =
    record {
      fits = sum_fits _ _ _ _ c.unit-u.ensures g.F.Format.laws c.dropped-k.ensures.value c.placed.ensures c.scaled-q.ensures (omega arith);
    }

pub returns : goal.returns
returns g c =
    packs _ _ _ _ c.unit-u.ensures g.F.Format.laws c.dropped-k.ensures.value c.placed.ensures c.scaled-q.ensures c.infinity.ensures
    c.min.ensures
