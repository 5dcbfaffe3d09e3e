-- To a scalar one scan decides; else the types, then the literals.
use mathlib.Core.Path.{sym, ap, ◌∙◌, subst}
use native.Mathlib.Omega.{arith}
use lib.Dec.{T}
use Rattle.meaning.specs.Trees.{Ty}
use Rattle.ty.specs.Stands.{Ends}
use Rattle.ty.specs.TypeFronts.{Told}
use Rattle.ty.proofs.Heads.{any_front, scalar_by}
use Rattle.shape.proofs.Places.{cut_to}
use Rattle.convert_all.proofs.Converts.{all_fit, none_all}
use Rattle.convert_all.proofs.all_convert.Goals as goal

pub bounds-t-at : goal.bounds-t-at
bounds-t-at c = omega (arith, any_front c.requires.asked.to.stands)

pub bounds-t-at-then-t-at-eq115 : goal.bounds-t-at-then-t-at-eq115
bounds-t-at-then-t-at-eq115 c = omega (arith, any_front c.requires.asked.to.stands)

pub literals_fit-requires : goal.literals_fit-requires
literals_fit-requires c = c.requires.asked.rest

pub returns-then-t-at-eq115 : goal.returns-then-t-at-eq115
returns-then-t-at-eq115 c =
    λ l t e w v. let x = scalar_by v c.if-t-at-eq115.true in c.literals_fit.ensures l x.kind x.no w
    ∙ ap (λ (u : Ty). all_fit u l) (sym x.is)

pub others_convert-requires : goal.others_convert-requires
others_convert-requires c =
    c.requires.asked.rest

pub invariant_of-others_convert : goal.invariant_of-others_convert
invariant_of-others_convert c =
    let f = subst (Told (Ends _ _ _)) c.in-Some.is c.type_end.ensures in
    record { one = record { type = _; stands = cut_to f c.requires.depth_bound f.stands } }

pub returns-then-not-others_convert : goal.returns-then-not-others_convert
returns-then-not-others_convert c =
    λ l t e w v. let f = subst (Told (Ends _ _ _)) c.in-Some.is c.type_end.ensures in
    none_all t l (sym (c.others_convert.ensures l t w (cut_to f c.requires.depth_bound v))
    ∙ c.if-not-others_convert.true)

pub all_fit-requires : goal.all_fit-requires
all_fit-requires c =
    let f = subst (Told (Ends _ _ _)) c.in-Some.is c.type_end.ensures in
    record {
      values = _;
      row = c.requires.asked.rest.row;
      type = _;
      end = _;
      stands = c.requires.asked.to.stands;
      converts = subst T (sym (c.if-not-others_convert.false)
          ∙ c.others_convert.ensures _ _ c.requires.asked.rest.row (cut_to f c.requires.depth_bound c.requires.asked.to.stands)) tt;
    }

pub returns : goal.returns
returns c = c.all_fit.ensures

pub returns-in_default : goal.returns-in_default
returns-in_default c =
    λ l t e w v. absurd
    (subst (Told (Ends c.args.depth c.args.ty.now c.args.at)) c.in_default.is c.type_end.ensures _
    record { type = t; stands = v })
