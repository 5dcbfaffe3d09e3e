-- The kind decides.
use Rattle.record.proofs.Starts.{known, unknown}
use Rattle.derive.proofs.ValueFronts.{scalar_fronted, scalar_known}
use Rattle.derive.proofs.scalar_front.Goals as goal

pub returns-then-not-is_kind : goal.returns-then-not-is_kind
returns-then-not-is_kind c =
    λ t e w. unknown c.is_kind.ensures c.if-not-is_kind.true (scalar_known c.args.depth c.args.s.now c.args.at c.requires t e w)

pub returns : goal.returns
returns c = scalar_fronted c.args.depth c.args.s.now c.args.at c.requires (known c.is_kind.ensures c.if-not-is_kind.false)
