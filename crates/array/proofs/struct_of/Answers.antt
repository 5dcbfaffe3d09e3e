-- The count, then the members, then the writing.
use mathlib.Core.Path.{sym, ◌∙◌}
use Rattle.error.proofs.BufferAtExit.{builds_as, builds_no}
use Rattle.array.proofs.Structs.{struct_pairs, struct_miscount, struct_no, struct_yes}
use Rattle.array.proofs.struct_of.Goals as goal

pub returns-then-given-members : goal.returns-then-given-members
returns-then-given-members c = λ i m l w g. builds_no _ _ (struct_miscount i m l (c.member_count-members.ensures i m w) g.count c.if-given-members.true)

pub members_convert-requires : goal.members_convert-requires
members_convert-requires c =
    record {
      types = _;
      values = _;
      pairs = struct_pairs c.requires.whole c.args.args.given.given.row
          (sym c.args.args.given.given.count ∙ (c.if-given-members.false ∙ c.member_count-members.ensures _ _ c.requires.whole));
    }

pub returns-then-not-members_convert : goal.returns-then-not-members_convert
returns-then-not-members_convert c =
    λ i m l w g. let n = sym g.count ∙ (c.if-given-members.false ∙ c.member_count-members.ensures i m w) in
    builds_no _ _ (struct_no i m l n (sym (c.members_convert.ensures m l (struct_pairs w g.row n))
    ∙ c.if-not-members_convert.true))

pub write_struct-requires : goal.write_struct-requires
write_struct-requires c =
    let n = sym c.args.args.given.given.count ∙ (c.if-given-members.false
    ∙ c.member_count-members.ensures _ _ c.requires.whole) in
    let y = struct_yes _ _ _ n c.requires.whole c.args.args.given.given.row (sym (c.members_convert.ensures _ _ (struct_pairs c.requires.whole c.args.args.given.given.row n))
    ∙ c.if-not-members_convert.false) in
    record { identity = _; types = _; values = _; intos = y.intos; made = y.made }

pub returns : goal.returns
returns c =
    λ i m l w g. let n = sym g.count ∙ (c.if-given-members.false
    ∙ c.member_count-members.ensures i m w) in
    let y = struct_yes i m l n w g.row (sym (c.members_convert.ensures m l
    (struct_pairs w g.row n)) ∙ c.if-not-members_convert.false) in
    builds_as _ y.yes (c.write_struct.ensures i m l y.intos y.made)
