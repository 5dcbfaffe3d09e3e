-- From the value that was read to the answer.
use mathlib.Core.Path.{◌≡◌}
use mathlib.Core.List.{List}
use mathlib.Core.Bool.{Bool, true, false}
use Prim.Native.Nat.{ℕ, ◌≤◌, ◌<◌}
use native.Mathlib.Omega.{arith}
use lib.ListN.{length}
use borrow.Author.Tests.{le-leb, lt-leb}
use Rattle.meaning.specs.Trees.{Val, type_of}
use Rattle.meaning.specs.Records.{good_ty}
use Rattle.meaning.specs.Answers.{ok, no}
use Rattle.meaning.specs.Layout.{has_layout, size_of, mem_bytes, write_answer}
use Rattle.laws.proofs.Sound.{Bytes}
use Rattle.ty.proofs.Targets.{whole_bytes, good_length}
use Rattle.args.specs.OneValue.{OneValue, Found}
use Rattle.args.proofs.OneValue.{one_shaped, one_type, one_has, one_read, none_read}
use Rattle.memory.specs.Padding.{Padded}
use Rattle.memory.proofs.Length.{mem_size}
use Rattle.write_layout.specs.Memory.{written, Asked, Value, ValueRoom}

module _ {args : List ℕ} (room : ℕ) where
  pub one_answer : {v : Val} → OneValue args v → write_answer args room ≡ written v room
  unfolding write_answer written
  one_answer x = rw (one_read x)

  pub none_answer : Bytes args → ((v : Val) → OneValue args v → ⊥) → write_answer args room ≡ no 2
  unfolding write_answer
  none_answer b f = rw (none_read b f)

module _ (v : Val) (room : ℕ) {b : Bool} (h : b ≡ has_layout (type_of v)) where
  pub no_layout : b ≡ false → written v room ≡ no 25
  unfolding written
  no_layout q = rw (← h, q)

  module _ (q : b ≡ true) where
    pub too_long : room < size_of (type_of v) → written v room ≡ no 22
    unfolding written
    too_long l = rw (← h, q, lt-leb (size_of (type_of v)) room l)

    pub has_room : size_of (type_of v) ≤ room → written v room ≡ ok (mem_bytes v)
    unfolding written
    has_room l = rw (← h, q, le-leb (size_of (type_of v)) room l)

pub found_asked : {ty args : List ℕ} (f : Found args ty) → Asked ty args f.value
found_asked f = record { type = f.whole; value = f.one }

-- ---- the value that is written, from the front of the buffer on

module _ {ty args : List ℕ} {v : Val} (x : Asked ty args v) where
  pub asked_short : length ty ≤ 4096
  unfolding good_ty
  asked_short = good_length 15 4096 ty 0 (type_of v) (whole_bytes x.type) (one_type x.value)

  pub asked_long : length (mem_bytes v) ≡ size_of (type_of v)
  asked_long = mem_size v (one_shaped x.value)

  module _ {pads : List ℕ} (p : Padded pads 0 (type_of v)) (l : length ty ≤ length pads) where
    pub asked_value : Value 15 ty 0 pads args 0 (length ty) (length args) v
    asked_value = record { stands = x.type; padded = p; long = l; has = one_has x.value }

    pub asked_room : (out : List ℕ) → size_of (type_of v) ≤ length out → ValueRoom 15 ty 0 pads args 0 out 0
    asked_room out h = record { value = v; ty_end = length ty; end = length args; is = asked_value; room = omega (arith, asked_long) }
