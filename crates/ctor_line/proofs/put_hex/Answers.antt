-- What writes the rest makes the whole.
use mathlib.Core.List.{[], ◌∷◌}
use Prim.Native.Nat.{◌+◌, ◌/◌, ◌%◌}
use native.Mathlib.Omega.{arith}
use lib.ListN.{get_or, drop}
use Rattle.meaning.specs.Entries.{hex_digit, hex}
use Rattle.record.proofs.Left.{left_room, left_on, left_end}
use Rattle.ctor_line.proofs.Hex.{hex_length, hex_step, hex_end}
use Rattle.ctor_line.proofs.put_hex.Goals as goal

pub put_digits-requires : goal.put_digits-requires
put_digits-requires c =
    let s = c.args.bytes.now in
    let i = c.loop-byte.byte-index in
    left_room c.loop-byte.invariant.0
    (hex_digit (get_or s i 0 / 16) ∷ hex_digit (get_or s i 0 % 16) ∷ []) (hex (drop (i + 1) s))
    (hex_step s i c.loop-byte-test.true)
    (omega (arith, c.requires, hex_length c.args.bytes.now))

pub loop-byte-preserved : goal.loop-byte-preserved
loop-byte-preserved c =
    (left_on c.loop-byte.invariant.0 _ _ (hex_step _ c.loop-byte.byte-index c.loop-byte-test.true) c.put_digits.ensures.put, search)

pub returns-clause-put : goal.returns-clause-put
returns-clause-put c = left_end c.loop-byte.invariant.0 (hex_end _ c.loop-byte.byte-index (omega arith) (omega arith))
