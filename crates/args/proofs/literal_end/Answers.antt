-- The kind is one, and says the only type that a literal there can have.
use Rattle.record.proofs.Starts.{known}
use Rattle.args.proofs.Rest.{flat_literal}
use Rattle.args.proofs.literal_end.Goals as goal

pub returns : goal.returns
returns c = flat_literal _ _ (known c.is_kind.ensures c.if-not-is_kind.false) c.literal_as.result c.literal_as.ensures
