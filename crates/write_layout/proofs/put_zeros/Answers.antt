-- A part overwritten by zero bytes.
use mathlib.Core.Path.{ap, ◌∙◌}
use Prim.Native.Nat.{ℕ, ◌+◌, ◌≤◌}
use native.Mathlib.Omega.{arith}
use lib.ListN.{length, replicate}
use Rattle.std.proofs.lemmas.List.Edits.{length-between}
use Rattle.record.proofs.Puts.{put_part}
use Rattle.write_layout.proofs.Parts.{zeros_is, zeros_long}
use Rattle.write_layout.proofs.put_zeros.Goals as goal

pub slice_bounds-fill-end : goal.slice_bounds-fill-end
slice_bounds-fill-end c = omega (arith, c.requires, zeros_long c.args.n)

pub returns-clause-put : goal.returns-clause-put
returns-clause-put c =
    let out = c.args.w.now.out.now in
    let at = c.args.w.now.at in
    let h : at + c.from.result ≤ length out = omega (arith, c.requires, zeros_long c.args.n) in
    let k = length-between out at (at + c.from.result) h in
    put_part c.requires (omega (arith, zeros_long c.args.n))
    (c.fill.ensures.after (λ y e. e) ∙ (rw (zeros_is c.args.n) (ap (λ (m : ℕ). replicate m 0) (omega (arith, k)))))
