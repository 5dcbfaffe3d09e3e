-- A scalar so far is gone on with by its kind.
use Rattle.ty.proofs.Heads.{scalar_by}
use Rattle.common_type.proofs.ScalarSoFar.{scalar_stands, scalar_ends}
use Rattle.common_type.proofs.common_rest.Goals as goal

pub common_literals-requires : goal.common_literals-requires
common_literals-requires c =
    let x = scalar_by c.requires.so_far.stands
    c.if-ty-ne115.false in record { rest = c.requires.rest; kind = x.kind; so_far = scalar_stands c.requires.so_far.stands c.if-ty-ne115.false; room = c.requires.room }

pub returns : goal.returns
returns c = λ l t w v. c.common_literals.ensures l t w (scalar_ends v c.if-ty-ne115.false)
