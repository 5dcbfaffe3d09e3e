-- `float::assemble` meets its contract. Each arm is the case of `bits` for its number.
use Rattle.meaning.specs.Floats.{nan, inf, fin}
use Rattle.float.specs.Taken.{size}
use Rattle.float.proofs.Fields.{fits, bits_lt, nan_bits_lem, inf_bits, fin_bits}
use Rattle.float.proofs.assemble.Goals as goal

pub overflow_add-result : goal.overflow_add-result
overflow_add-result g c = record { fits = fits g.F.Format.laws nan (nan_bits_lem _ _ c.infinity.ensures c.placed.ensures) }

pub overflow_add-result-in-Inf : goal.overflow_add-result-in-Inf
overflow_add-result-in-Inf g c =
    record { fits = fits g.F.Format.laws (inf c.in-Inf.s) (inf_bits _ _ c.in-Inf.s c.sign.ensures c.infinity-in-Inf.ensures) }

pub overflow_add-result-in-Fin : goal.overflow_add-result-in-Fin
overflow_add-result-in-Fin g c =
    let n = size c.in-Fin.x in
    record { fits = fits g.F.Format.laws (fin c.in-Fin.s n) (fin_bits _ _ c.in-Fin.s n c.sign-in-Fin.ensures c.pack.ensures) }

pub returns-in-Nan-clause-value : goal.returns-in-Nan-clause-value
returns-in-Nan-clause-value g c = rw c.in-Nan.is (nan_bits_lem _ _ c.infinity.ensures c.placed.ensures)

pub returns-in-Inf-clause-value : goal.returns-in-Inf-clause-value
returns-in-Inf-clause-value g c = rw c.in-Inf.is (inf_bits _ _ c.in-Inf.s c.sign.ensures c.infinity-in-Inf.ensures)

pub returns-in-Fin-clause-value : goal.returns-in-Fin-clause-value
returns-in-Fin-clause-value g c =
    rw c.in-Fin.is (fin_bits _ _ c.in-Fin.s (size c.in-Fin.x) c.sign-in-Fin.ensures c.pack.ensures)

pub returns-in-Fin-clause-upper_bound : goal.returns-in-Fin-clause-upper_bound
returns-in-Fin-clause-upper_bound g c =
    let n = size c.in-Fin.x in
    rw (fin_bits _ _ c.in-Fin.s n c.sign-in-Fin.ensures c.pack.ensures) (bits_lt g.F.Format.laws (fin c.in-Fin.s n))
