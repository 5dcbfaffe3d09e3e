-- The mark and n, and then the literals.
use Rattle.record.proofs.Puts.{put_put, put_length}
use Rattle.zero.specs.Zeros.{vector_of}
use Rattle.zero.proofs.Bytes.{vector_front_long}
use native.Mathlib.Omega.{arith}
use Rattle.zero.proofs.put_vector.Goals as goal

pub put_three-requires : goal.put_three-requires
put_three-requires c = omega (arith, c.requires, vector_front_long c.args.n c.args.k)

pub put_literals-requires : goal.put_literals-requires
put_literals-requires c =
    rw c.zero_bits.ensures (omega (
      arith,
      c.requires,
      vector_front_long c.args.n
          c.args.k,
      c.put_three.ensures.put.end,
      put_length c.put_three.ensures.put,
    ))

pub returns-clause-put : goal.returns-clause-put
unfolding vector_of
returns-clause-put c =
    put_put c.put_three.ensures.put
    (rw c.zero_bits.ensures at c.put_literals.ensures.put)
