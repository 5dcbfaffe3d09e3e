-- Bytes are the record of one type in one way at most, so a struct may hold that fact.
use Rattle.std.specs.Prelude.{◌≡◌, List, ℕ, suc, ◌+◌, ◌++◌, ◌≤◌, T, length, drop}
use mathlib.Core.Path.{sym, ap, ◌∙◌}
use mathlib.Core.Option.{Option, none, some}
use mathlib.Core.HLevel.{is_prop→PathP}
use mathlib.Core.List.{is_set as List-set}
use native.Mathlib.Nat.{ℕ_set}
use native.Mathlib.Bridge.{le_prop}
use native.Mathlib.Omega.{arith}
use lib.Dec.{T_prop}
use Rattle.meaning.specs.Trees.{Ty, depth}
use Rattle.meaning.specs.Records.{ty_bytes, shaped_ty}
use Rattle.meaning.specs.Read.{p_ty}
use Rattle.laws.proofs.Back.{ty_back}
use Rattle.ty.specs.Stands.{Stands, OneType}

-- what stands at a place is one type
pub same_type : {d d' : ℕ} {s : List ℕ} {at : ℕ} {t t' : Ty} {e e' : ℕ} → Stands d s at t e → Stands d' s at t' e' → t ≡ t'
same_type {s = s} {at = at} {t = t} {t' = t'} {e = e} {e' = e'} w w' =
    let n : ℕ = suc (depth t + depth t') in
    let p : p_ty n (drop at s) ≡ some (t, drop e s) = rw w.here (ty_back t n w.shaped (omega arith) (drop e s)) in
    let q : p_ty n (drop at s) ≡ some (t', drop e' s) = rw w'.here (ty_back t' n w'.shaped (omega arith) (drop e' s)) in
    ap (λ (o : Option (Ty × List ℕ)). let x : Ty = elim o [ none ↦ t | some r ↦ r.0 ] in x) (sym p ∙ q)

stands_prop : (d : ℕ) (s : List ℕ) (at : ℕ) (t : Ty) (e : ℕ) → IsProp (Stands d s at t e)
stands_prop d s at t e x y =
    let here_prop : IsProp (drop at s ≡ ty_bytes t ++ drop e s) = List-set ℕ_set _ _ in
    let size_prop : IsProp (e ≡ at + length (ty_bytes t)) = ℕ_set _ _ in
    let within_prop : IsProp (e ≤ length s) = le_prop in
    let shaped_prop : IsProp (T (shaped_ty t)) = T_prop (shaped_ty t) in
    let deep_prop : IsProp (depth t ≤ d) = le_prop in
    λ i. record {
      here = here_prop x.here y.here i;
      size = size_prop x.size y.size i;
      within = within_prop x.within y.within i;
      shaped = shaped_prop x.shaped y.shaped i;
      deep = deep_prop x.deep y.deep i;
    }

pub one_type_prop : (s : List ℕ) → IsProp (OneType s)
one_type_prop s x y =
    let same = same_type x.stands y.stands in
    let Here : 𝕀 → Type 0 = λ i. Stands 15 s 0 (same i) (length s) in
    let stands = is_prop→PathP Here (λ i. stands_prop 15 s 0 (same i) (length s)) x.stands y.stands in
    λ i. record { type = same i; stands = stands i }
