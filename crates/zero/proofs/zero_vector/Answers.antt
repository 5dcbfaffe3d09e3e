-- The length that the kind says decides.
use Rattle.std.proofs.Common.{rules}
use native.Mathlib.Omega.{arith}
use Rattle.ty.proofs.Numbers.{kind_of_lem}
use Rattle.record.proofs.Puts.{put_left}
use Rattle.zero.proofs.ZeroAnswers.{zero_refused, zero_record, vector_bytes, vector_shaped, vector_long}
use Rattle.zero.proofs.zero_vector.Goals as goal

pub returns-then-vector_len-out : goal.returns-then-vector_len-out
returns-then-vector_len-out c =
    λ j e. zero_refused _ (vector_shaped c.args.n j e c.requires.sides) c.args.out.now
    (omega (arith, c.vector_len.ensures.is j e, c.if-vector_len-out.true))

pub put_vector-requires : goal.put_vector-requires
put_vector-requires c =
    let x = kind_of_lem c.args.k c.requires.kind in
    omega (
      arith,
      c.vector_len.ensures.is x.kind x.no,
      c.if-vector_len-out.false,
      vector_long c.args.n x.kind
          x.no c.requires.sides,
    )

pub returns : goal.returns
returns c =
    λ j e. zero_record _ (vector_shaped c.args.n j e c.requires.sides) c.args.out.now
    (omega (arith, c.vector_len.ensures.is j e, c.if-vector_len-out.false))
    (rw (vector_bytes c.args.n j e) (put_left c.put_vector.ensures.put (search rules)))
