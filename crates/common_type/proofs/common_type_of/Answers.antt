-- The first argument's type, and then the others'.
use mathlib.Core.Path.{ap, ◌∙◌}
use mathlib.Core.List.{List, map}
use native.Mathlib.Omega.{arith}
use Rattle.meaning.specs.Trees.{Val, type_of}
use Rattle.meaning.specs.Convert.{common}
use Rattle.args.proofs.ArgumentRows.{row_some, row_none}
use Rattle.common_type.specs.Brought.{brought}
use Rattle.common_type.proofs.Meets.{brought_none}
use Rattle.common_type.proofs.SoFar.{first_common}
use Rattle.common_type.proofs.common_type_of.Goals as goal

pub returns-then-args-eq0 : goal.returns-then-args-eq0
returns-then-args-eq0 c =
    λ l w. ap (λ (m : List Val). common (map type_of (brought c.args.flat m)))
    (row_none l w (omega (arith, c.if-args-eq0.true))) ∙ brought_none c.args.flat

pub first_type-first-requires-clause-some_arg : goal.first_type-first-requires-clause-some_arg
first_type-first-requires-clause-some_arg c = row_some c.requires.some_row.values c.requires.some_row.row (omega (arith, c.if-args-eq0.false))

pub common_rest-requires : goal.common_rest-requires
common_rest-requires c =
    let a = row_some c.requires.some_row.values c.requires.some_row.row (omega (arith, c.if-args-eq0.false)) in
    let x = c.first_type-first.ensures a.value a.others a.row in
    record {
      rest = record { values = a.others; row = x.next.rest };
      so_far = record { type = _; stands = x.stands };
      room = c.first_type-first.auto.ty ∙ c.requires.ty_len;
    }

pub returns : goal.returns
returns c =
    λ l w. first_common l w (omega (arith, c.if-args-eq0.false)) c.first_type-first.ensures
    c.common_rest.result c.common_rest.new.ty c.common_rest.ensures
