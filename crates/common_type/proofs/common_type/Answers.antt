-- The first type, and then the others.
-- the types that were given
use mathlib.Core.Path.{ap, ◌∙◌}
use mathlib.Core.List.{List}
use Prim.Native.Nat.{ℕ, ◌<◌}
use native.Mathlib.Omega.{arith}
use lib.ListN.{length}
use Rattle.meaning.specs.Convert.{common}
use Rattle.laws.proofs.Left.{Left}
use Rattle.shape.specs.TypeRows.{TypeRow, SomeTypeRow}
use Rattle.ty.proofs.FrontOfBuffer.{front_whole}
use Rattle.shape.proofs.TypeRows.{type_walk, types_standing, types_short, types_ends, types_on}
use Rattle.common_type.proofs.SoFar.{none_common, first_types}
use Rattle.common_type.proofs.common_type.Goals as goal

given : {s : List ℕ} → SomeTypeRow s 0 → Left (TypeRow s) 0 (λ l. Unit {0})
given p = record { items = p.types; row = p.row; so = tt }

pub returns-then-types-eq0 : goal.returns-then-types-eq0
returns-then-types-eq0 c = λ l w. ap common ((type_walk _).done w (omega (arith, c.if-types-eq0.true))) ∙ none_common

pub end_of_type-e-requires : goal.end_of_type-e-requires
end_of_type-e-requires c = types_standing (given c.requires.some_type_row) (omega (arith, c.if-types-eq0.false))

pub slice_bounds-keep-end : goal.slice_bounds-keep-end
slice_bounds-keep-end c =
    let w = (types_ends (given c.requires.some_type_row) (omega (arith, c.if-types-eq0.false)) c.end_of_type-e.ensures).stands in
    omega (arith, (front_whole w).size, w.size)

pub invariant_of-keep : goal.invariant_of-keep
invariant_of-keep c =
    let w = (types_ends (given c.requires.some_type_row) (omega (arith, c.if-types-eq0.false)) c.end_of_type-e.ensures).stands in
    record { one = record { type = _; stands = front_whole w } }

pub keep-first-requires : goal.keep-first-requires
keep-first-requires c =
    let h : 0 < length c.args.types.now = omega (arith, c.if-types-eq0.false) in
    let w = (types_ends (given c.requires.some_type_row) h c.end_of_type-e.ensures).stands in
    omega (arith, (front_whole w).size, w.size, types_short (given c.requires.some_type_row) h c.end_of_type-e.ensures, c.requires.ty_len)

pub common_types_from-requires : goal.common_types_from-requires
common_types_from-requires c =
    let h : 0 < length c.args.types.now = omega (arith, c.if-types-eq0.false) in
    let w = (types_ends (given c.requires.some_type_row) h c.end_of_type-e.ensures).stands in
    let g = types_on (given c.requires.some_type_row) h c.end_of_type-e.ensures λ t l x q. q in
    record {
      rest = record { types = g.items; row = g.row };
      so_far = record { type = _; stands = c.keep-first.ensures _ (front_whole w) };
      room = c.keep-first.auto.ty ∙ c.requires.ty_len;
    }

pub returns : goal.returns
returns c =
    λ l w. first_types l w (omega (arith, c.if-types-eq0.false)) c.end_of_type-e.ensures c.keep-first.ensures
    c.common_types_from.result c.common_types_from.new.ty c.common_types_from.ensures
