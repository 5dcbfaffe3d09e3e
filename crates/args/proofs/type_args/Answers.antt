-- The limits are the target's.
use Rattle.args.proofs.Rest.{types_read}
use Rattle.args.proofs.type_args.Goals as goal

pub returns : goal.returns
returns c =
    let b = c.bounds_for.ensures in
    λ g q. types_read g c.args.s.now (λ i. (c.type_inv.s i).fits) c.count_types.result
    (rw (b.depth g q, b.bytes g q) at c.count_types.ensures)
