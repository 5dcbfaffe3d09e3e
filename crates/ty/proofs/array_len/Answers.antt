-- n elements of m bytes, and 4 bytes before them, are past 64 bits where the product is, or the sum.
use native.Mathlib.Omega.{arith}
use mathlib.Core.Path.{◌≡◌, sym, ◌∙◌}
use Prim.Native.Nat.{ℕ, ◌+◌, ◌*◌}
use Rattle.ty.specs.Heads.{len_of}
use Rattle.std.specs.declared.option.Option.TheVariants.{Some}
use Rattle.ty.proofs.Lens.{is_len, long_len, len_is, len_long, times_more}
use Rattle.ty.proofs.array_len.Goals as goal

-- what is said of an element's length says the product's
product : {a k x n : ℕ} (e m : ℕ) → x ≡ n → Some (a, k) ≡ len_of e m → (a ≡ e) × (x * k ≡ n * m)
product {a} {k} e m p h = let i = is_len a k e m h in (i.0, rw (p, i.1))

pub returns-in_err-e : goal.returns-in_err-e
returns-in_err-e c =
    rw c.from_residual.ensures (λ e m h. let i = long_len e m (sym c.in_err-e.was ∙ h) in
    sym (len_long e (4 + c.args.n * m) (omega (arith, times_more c.args.n m c.requires))))

pub returns-in_err-elements : goal.returns-in_err-elements
returns-in_err-elements c =
    rw c.from_residual-in_err-elements.ensures (λ e m h. let q = product e m c.from.ensures (sym c.in_ok-e.was ∙ h) in
    sym (len_long e (4 + c.args.n * m) (omega (arith, c.in_err-elements.ensures))))

pub returns-in_err-checked_add : goal.returns-in_err-checked_add
returns-in_err-checked_add c =
    rw c.from_residual-in_err-checked_add.ensures (λ e m h. let q = product e m c.from.ensures (sym c.in_ok-e.was ∙ h) in
    sym (len_long e (4 + c.args.n * m) (omega (arith, c.in_ok-elements.ensures, c.in_err-checked_add.ensures))))

pub returns : goal.returns
returns c =
    λ e m h. let q = product e m c.from.ensures (sym c.in_ok-e.was ∙ h) in
    let z : c.in_ok-checked_add.field-0 ≡ 4 + c.args.n * m = omega (arith, c.in_ok-elements.ensures, c.in_ok-checked_add.ensures) in
    rw (q.0, z) (sym (len_is e (4 + c.args.n * m) (omega (arith, c.in_ok-checked_add.ensures))))
