-- The length, the kind, each component; then it is measured and written.
use mathlib.Core.Path.{sym, ◌∙◌}
use native.Mathlib.Omega.{arith}
use Rattle.std.proofs.Common.{rules}
use Rattle.record.proofs.Puts.{put_left}
use Rattle.error.proofs.BufferAtExit.{builds_as, builds_no}
use Rattle.error.proofs.Refusals.{passed_on}
use Rattle.literal.proofs.Stages.{some_stage}
use Rattle.scalar.specs.Made.{Ctor}
use Rattle.scalar.proofs.OneLiteral.{abstract_is, concrete}
use Rattle.vector.proofs.Args.{arg_front, arg_vector}
use Rattle.vector.proofs.Writes.{vector_long, whole_room, whole_record}
use Rattle.vector.proofs.OneToVector.{vec_other_length, vec_abstract, vector_items, made_no, remade, remade_room, remade_put}
use Rattle.vector.proofs.rebuilt.Goals as goal

pub bounds-arg-2 : goal.bounds-arg-2
bounds-arg-2 c = omega (arith, arg_front c.args.arg.one.row)

pub returns-then-arg-n : goal.returns-then-arg-n
returns-then-arg-n c =
    λ s j v a e x. builds_no c.args.out.now _
    (vec_other_length (arg_vector x c.requires) s c.args.n j c.if-arg-n.true)

pub returns-then-is_abstract : goal.returns-then-is_abstract
returns-then-is_abstract c =
    λ s j v a e x. builds_no _ _ (vec_abstract (arg_vector x (search)) s _ j c.if-arg-n.false
    (sym (abstract_is j e c.is_abstract.ensures) ∙ c.if-is_abstract.true))

pub all_made-requires : goal.all_made-requires
all_made-requires c = vector_items c.args.arg.one.row (arg_vector c.args.arg.one.row c.requires) (some_stage c.args.rules).stage c.args.kind.some.kind

pub returns-in_err-all_made : goal.returns-in_err-all_made
returns-in_err-all_made c =
    rw (passed_on c.from_residual.result c.from_residual.ensures.1)
    (λ s j v a e x. let t : Ctor _ _ s j = record { ruled = a; no = e; concrete = concrete j e c.is_abstract.ensures c.if-is_abstract.false } in
    builds_no _ _ (made_no x (arg_vector x c.requires) c.if-arg-n.false t c.all_made.result c.all_made.ensures c.in_err-all_made.was))

pub returns-then-vector_len-out : goal.returns-then-vector_len-out
returns-then-vector_len-out c =
    λ s j v a e x. let t : Ctor _ _ s j = record {
      ruled = a;
      no = e;
      concrete = concrete j e
          c.is_abstract.ensures c.if-is_abstract.false;
    } in
    let y = remade x (arg_vector x (search)) c.if-arg-n.false t c.all_made.result c.all_made.ensures c.in_ok-all_made.was in
    builds_as _ y.is (vector_long _ c.vector_len.ensures j e y.pays y.count y.good _ c.if-vector_len-out.true)

pub write_made-requires : goal.write_made-requires
write_made-requires c =
    let w = arg_vector c.args.arg.one.row c.requires in
    let t : Ctor c.args.rules c.args.kind.number (some_stage c.args.rules).stage c.args.kind.some.kind =
    record {
      ruled = (some_stage c.args.rules).ruled;
      no = c.args.kind.some.no;
      concrete = concrete c.args.kind.some.kind c.args.kind.some.no (search)
          c.if-is_abstract.false;
    } in
    let y = remade c.args.arg.one.row w c.if-arg-n.false t c.all_made.result c.all_made.ensures c.in_ok-all_made.was in
    remade_room c.args.arg.one.row w (search) t y (whole_room c.args.n c.vector_len.ensures c.args.kind.some.kind c.args.kind.some.no y.pays y.count
    y.good c.args.out.now c.if-vector_len-out.false)

pub returns : goal.returns
returns c =
    λ s j v a e x. let w = arg_vector x (search) in
    let t : Ctor c.args.rules c.args.kind.number s j = record {
      ruled = a;
      no = e;
      concrete = concrete j e
          c.is_abstract.ensures (search);
    } in
    let y = remade x w c.if-arg-n.false t c.all_made.result c.all_made.ensures c.in_ok-all_made.was in
    builds_as c.args.out.now y.is
    (whole_record c.args.n c.vector_len.ensures j e y.pays y.count y.good c.args.out.now
    c.if-vector_len-out.false (put_left (remade_put x w (search) t y c.write_made.ensures.put) (search rules)))
