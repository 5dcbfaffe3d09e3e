-- The bytes of the new record.
use lib.ListN.{length}
use Rattle.meaning.specs.Trees.{Tm}
use Rattle.error.proofs.Told.{told_as}
use Rattle.typing.proofs.Hands.{hand_type, matrix_bytes}
use Rattle.typing.proofs.hand_matrix.Goals as goal

pub returns : goal.returns
returns c =
    λ j e. told_as
    (hand_type (length c.args.out.now) (Tm c.args.size.columns c.args.size.rows j) (matrix_bytes c.args.size.columns c.args.size.rows j e)) c.hand.ensures
