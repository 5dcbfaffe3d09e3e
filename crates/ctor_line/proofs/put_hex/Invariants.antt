-- What writes the rest makes the whole.
use Rattle.std.specs.Prelude.{◌≡◌}
use lib.ListN.{drop}
use Rattle.meaning.specs.Entries.{hex}
use Rattle.record.proofs.Left.{Left}
use Rattle.ctor_line.proofs.put_hex.Given as goal

abbrev pub invariant-loop-byte : goal.invariant-loop-byte
invariant-loop-byte l =
    Left l.initial.w.out.now l.initial.w.at (hex l.bytes) l.w.out.now l.w.at (hex (drop l.byte-index l.bytes))
    × (l.w.out.ghost_name ≡ l.initial.w.out.ghost_name)
