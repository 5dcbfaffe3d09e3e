-- Two scalars are looked at by their kinds.
use Rattle.rank.proofs.Ranks.{scalars_convert}
use Rattle.rank.proofs.type_converts.Goals as goal

pub returns-then-b-eq3 : goal.returns-then-b-eq3
returns-then-b-eq3 c =
    λ t u w v. scalars_convert w c.if-a-eq3.true v c.if-b-eq3.true
    c.kind_converts.ensures
