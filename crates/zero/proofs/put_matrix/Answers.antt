-- The mark, the columns and rows, and then the columns' records.
use Rattle.record.proofs.Puts.{put_put, put_length}
use Rattle.zero.specs.Zeros.{matrix_of}
use Rattle.zero.proofs.Bytes.{matrix_front_long}
use native.Mathlib.Omega.{arith}
use Rattle.zero.proofs.put_matrix.Goals as goal

pub put_four-requires : goal.put_four-requires
put_four-requires c =
    omega (
      arith,
      c.requires,
      matrix_front_long c.args.size.columns c.args.size.rows
          c.args.k,
    )

pub put_zero_columns-requires : goal.put_zero_columns-requires
put_zero_columns-requires c =
    omega (
      arith,
      c.requires,
      matrix_front_long
          c.args.size.columns c.args.size.rows
          c.args.k,
      c.put_four.ensures.put.end,
      put_length c.put_four.ensures.put,
    )

pub returns-clause-put : goal.returns-clause-put
unfolding matrix_of
returns-clause-put c = put_put c.put_four.ensures.put c.put_zero_columns.ensures.put
