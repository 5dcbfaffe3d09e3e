-- What the first argument brings is kept.
use Rattle.common_type.proofs.first_other.Goals as goal

pub returns : goal.returns
returns c =
    λ v l w. let x = c.next_part-part.ensures.brings v l w in record { next = x.next; stands = c.keep.ensures _ x.stands }
