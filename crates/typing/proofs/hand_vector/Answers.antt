-- The bytes of the new record.
use lib.ListN.{length}
use Rattle.meaning.specs.Trees.{Tv}
use Rattle.error.proofs.Told.{told_as}
use Rattle.typing.proofs.Hands.{hand_type, vector_bytes}
use Rattle.typing.proofs.hand_vector.Goals as goal

pub returns : goal.returns
returns c =
    λ j e. told_as
    (hand_type (length c.args.out.now) (Tv c.args.n j) (vector_bytes c.args.n j e)) c.hand.ensures
