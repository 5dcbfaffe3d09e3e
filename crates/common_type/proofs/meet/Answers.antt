-- The type that the other converts to is kept.
use mathlib.Core.Path.{sym, ◌∙◌}
use Rattle.ty.proofs.FrontOfBuffer.{front_whole}
use Rattle.common_type.proofs.Meets.{meet_next, meet_kept, meet_none}
use Rattle.common_type.proofs.meet.Goals as goal

pub returns-then-type_converts : goal.returns-then-type_converts
returns-then-type_converts c =
    λ t u w v. record {
      type = u;
      is = meet_next t u (sym (c.type_converts.ensures t u (front_whole w) v) ∙ c.if-type_converts.true);
      stands = c.keep.ensures u v;
    }

pub returns-then-type_converts-2 : goal.returns-then-type_converts-2
returns-then-type_converts-2 c =
    λ t u w v. record {
      type = t;
      is = meet_kept t u (sym (c.type_converts.ensures t u (front_whole w) v)
          ∙ c.if-type_converts.false) (sym (c.type_converts-2.ensures u t v (front_whole w)) ∙ c.if-type_converts-2.true);
      stands = w;
    }

pub returns : goal.returns
returns c =
    λ t u w v. meet_none t u (sym (c.type_converts.ensures t u (front_whole w) v)
    ∙ c.if-type_converts.false) (sym (c.type_converts-2.ensures u t v (front_whole w)) ∙ c.if-type_converts-2.false)
