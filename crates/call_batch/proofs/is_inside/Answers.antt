-- The test of the end, as the sum and as the difference.
use mathlib.Core.Path.{◌≡◌, refl, sym, ◌∙◌}
use mathlib.Core.Bool.{Bool, true, false}
use Prim.Native.Nat.{ℕ, ◌+◌, ◌-◌, ◌≤◌}
use native.Mathlib.Omega.{arith}
use lib.Dec.{leb}
use borrow.Author.Tests.{leb-true, leb-false, le-leb, lt-leb}
use Rattle.meaning.specs.Batch.{inside}
use Rattle.call_batch.proofs.is_inside.Goals as goal

ends-inside : (start len room : ℕ) → start ≤ room → leb len (room - start) ≡ leb (start + len) room
ends-inside start len room h = go (leb len (room - start)) refl
  where
    go : (b : Bool) → leb len (room - start) ≡ b → leb len (room - start) ≡ leb (start + len) room
    go true e = e ∙ sym (le-leb (start + len) room (omega (arith, leb-true len (room - start) e)))
    go false e = e ∙ sym (lt-leb (start + len) room (omega (arith, leb-false len (room - start) e)))

pub returns-then-part-room : goal.returns-then-part-room
unfolding inside
returns-then-part-room c = sym (lt-leb (c.args.part.start + c.args.part.len) c.args.room (omega (arith, c.if-part-room.true)))

pub returns : goal.returns
unfolding inside
returns c =
    ends-inside c.args.part.start c.args.part.len c.args.room
    c.if-part-room.false
