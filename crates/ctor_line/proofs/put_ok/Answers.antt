-- The three parts.
use native.Mathlib.Omega.{arith}
use Rattle.meaning.specs.Entries.{line}
use Rattle.record.proofs.Puts.{put_put, put_length}
use Rattle.ctor_line.proofs.Hex.{hex_length}
use Rattle.ctor_line.proofs.put_ok.Goals as goal

pub put_byte-requires : goal.put_byte-requires
put_byte-requires c =
    omega (arith, put_length c.put_three.ensures.put, put_length c.put_hex.ensures.put, hex_length c.args.bytes.now)

pub returns-clause-put : goal.returns-clause-put
unfolding line
returns-clause-put c = put_put c.put_three.ensures.put (put_put c.put_hex.ensures.put c.put_byte.ensures.put)

pub returns-clause-upper_bound : goal.returns-clause-upper_bound
returns-clause-upper_bound c =
    omega (
      arith,
      put_length c.put_three.ensures.put,
      put_length c.put_hex.ensures.put,
      put_length c.put_byte.ensures.put,
      hex_length c.args.bytes.now,
    )
