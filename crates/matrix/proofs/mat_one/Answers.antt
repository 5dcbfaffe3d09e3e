-- The mark, the size, the kind; then the constructors.
use mathlib.Core.Path.{sym, ap, refl, ◌∙◌}
use mathlib.Core.Bool.{not}
use mathlib.Core.List.{[]}
use Rattle.error.proofs.BufferAtExit.{builds_as, builds_no}
use Rattle.literal.proofs.Stages.{some_stage}
use Rattle.scalar.specs.Made.{one_given}
use Rattle.scalar.proofs.OneLiteral.{abstract_is, concrete}
use Rattle.matrix.proofs.Downs.{float_no}
use Rattle.matrix.proofs.OneToMatrix.{one_mark, mat_other, same_told, matrix_is, mat_unequal, equal_row, mat_abstract, mat_concrete}
use Rattle.matrix.proofs.mat_one.Goals as goal

pub bounds-arg-1 : goal.bounds-arg-1
bounds-arg-1 c = one_mark c.args.arg.one.row

pub invariant_of-values : goal.invariant_of-values
invariant_of-values c = record { given = one_given c.args.arg.one }

pub returns-then-arg-ne109 : goal.returns-then-arg-ne109
returns-then-arg-ne109 c =
    λ s j v a n x. builds_as _ (mat_other x _ _ c.if-arg-ne109.true s j)
    (c.mat_parts.ensures j v [] n x refl)

pub size_of-requires : goal.size_of-requires
size_of-requires c = (matrix_is c.args.arg.one.row c.if-arg-ne109.false).room

pub returns-then-ne : goal.returns-then-ne
returns-then-ne c =
    λ s j v a n x. builds_no _ _ (mat_unequal x c.if-arg-ne109.false _ _
    (same_told c.args.arg.bytes.now _ _ c.size_of.ensures.columns c.size_of.ensures.rows c.ne.ensures ∙ ap not c.if-ne.true) s j)

pub returns-then-is_abstract : goal.returns-then-is_abstract
returns-then-is_abstract c =
    λ s j v a n x. builds_no _ _ (mat_abstract x c.if-arg-ne109.false _ _
    (same_told c.args.arg.bytes.now _ _ c.size_of.ensures.columns c.size_of.ensures.rows c.ne.ensures ∙ ap not c.if-ne.false) s j (sym (abstract_is j n c.is_abstract.ensures) ∙ c.if-is_abstract.true))

pub mat_made-requires : goal.mat_made-requires
mat_made-requires c =
    let e = same_told c.args.arg.bytes.now _ _ c.size_of.ensures.columns c.size_of.ensures.rows c.ne.ensures ∙ ap not c.if-ne.false in
    let k = float_no _ c.args.kind.float in
    record {
      at = (some_stage c.args.rules).stage;
      kind = k.0;
      from = _;
      pays = _;
      arg = record {
        ctor = record {
          ruled = (some_stage c.args.rules).ruled;
          no = k.1;
          concrete = concrete k.0 k.1
              c.is_abstract.ensures c.if-is_abstract.false;
        };
        row = equal_row c.args.arg.one.row c.if-arg-ne109.false _ _ e;
      };
    }

pub returns : goal.returns
returns c =
    λ s j v a n x. let e = same_told c.args.arg.bytes.now _ _ c.size_of.ensures.columns c.size_of.ensures.rows c.ne.ensures ∙ ap not c.if-ne.false in
    builds_as _ (mat_concrete x c.if-arg-ne109.false _ _ e s j (sym (abstract_is j n c.is_abstract.ensures) ∙ c.if-is_abstract.false))
    (c.mat_made.ensures s j _ _ record {
      ctor = record { ruled = a; no = n; concrete = concrete j n c.is_abstract.ensures c.if-is_abstract.false };
      row = equal_row x c.if-arg-ne109.false _ _ e;
    })
