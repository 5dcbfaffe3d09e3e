-- From the target that was read to the answer.
use mathlib.Core.Path.{◌≡◌, refl, ap, ◌∙◌}
use mathlib.Core.Option.{Option, some}
use mathlib.Core.List.{List}
use mathlib.Core.Bool.{Bool, true, false}
use Prim.Native.Nat.{ℕ, ◌≤◌, ◌<◌}
use native.Mathlib.Omega.{arith}
use lib.Dec.{T, eqb}
use lib.ListN.{length}
use borrow.Author.Tests.{eq-eqb, ne_eqb}
use Rattle.meaning.specs.Trees.{Ty, Target, Of, type_of, val_len}
use Rattle.meaning.specs.Records.{val_bytes, shaped_val}
use Rattle.meaning.specs.Read.{read_target}
use Rattle.meaning.specs.Answers.{ok, no, or_no, need, ◌>>=◌, ◌>>◌}
use Rattle.meaning.specs.Entries.{hand_val}
use Rattle.meaning.specs.Layout.{has_layout, size_of, mem_value, laid_type, read_answer}
use Rattle.laws.proofs.Length.{val_len_lem}
use Rattle.laws.proofs.Sound.{Bytes}
use Rattle.memory.specs.Padding.{Padded}
use Rattle.memory.proofs.Refused.{not_laid}
use Rattle.memory.proofs.Typed.{mem_typed, mem_shaped}
use Rattle.ty.specs.Stands.{Whole}
use Rattle.record.specs.Bytes.{Put}
use Rattle.error.specs.Told.{Told}
use Rattle.error.proofs.BufferAtExit.{builds_long, builds_record}
use Rattle.read_layout.specs.Memory.{read_by, Sized, Typed, value_from, ValueRoom}
use Rattle.std.specs.declared.result.Result.TheVariants.{Ok, Err}
use Rattle.error.specs.declared.Refusal.TheVariants.{NoRoom}

-- ---- by the target

module _ (target mem : List ℕ) (room : ℕ) where
  pub of_answer : {t : Ty} → read_target target ≡ some (Of t) → read_answer target mem room ≡ read_by t mem room
  unfolding read_answer read_by
  of_answer e = rw e

  pub no_answer : (n : ℕ) {o : Option Target} → read_target target ≡ o → (or_no 1 o >>= laid_type) ≡ no n → read_answer target mem room ≡ no n
  unfolding read_answer
  no_answer n {o} e h = rw e (not_laid (λ t. need (eqb (length mem) (size_of t)) 26 >> hand_val room (mem_value t mem)) n o h)

-- ---- by the type

module _ (t : Ty) (mem : List ℕ) (room : ℕ) {b : Bool} (h : b ≡ has_layout t) where
  pub no_layout : b ≡ false → read_by t mem room ≡ no 25
  unfolding read_by laid_type
  no_layout q = rw (← h, q)

  module _ (q : b ≡ true) where
    pub other_size : (length mem ≡ size_of t → ⊥) → read_by t mem room ≡ no 26
    unfolding read_by laid_type
    other_size f = rw (← h, q, ne_eqb (length mem) (size_of t) f)

    pub its_size : length mem ≡ size_of t → read_by t mem room ≡ hand_val room (mem_value t mem)
    unfolding read_by laid_type
    its_size e = rw (← h, q, eq-eqb (length mem) (size_of t) e)

    -- the type, with its table
    pub sized : {target pads : List ℕ} → Whole target t → Padded pads 0 t → length target ≤ length pads → length mem ≡ size_of t
        → Sized target pads mem t
    sized w p l e = record { whole = w; laid = rw (← h, q) tt; padded = p; long = l; size = e }

-- ---- the value that is read

module _ {target pads mem : List ℕ} {t : Ty} (x : Sized target pads mem t) where
  pub read_typed : type_of (mem_value t mem) ≡ t
  read_typed = mem_typed t mem x.whole.shaped

  module _ (b : Bytes mem) where
    pub read_shaped : T (shaped_val (mem_value t mem))
    read_shaped = mem_shaped t mem b x.whole.shaped x.laid

    pub read_long : length (val_bytes (mem_value t mem)) ≡ val_len t
    read_long = val_len_lem (mem_value t mem) read_shaped ∙ ap val_len read_typed

  pub sized_typed : Typed 15 target 0 pads (length target) t
  sized_typed = record { stands = x.whole; padded = x.padded; long = x.long }

  pub sized_room : Bytes mem → (out : List ℕ) → val_len t ≤ length out → ValueRoom 15 target 0 pads mem 0 out 0
  unfolding value_from
  sized_room b out h =
      record { type = t; ty_end = length target; typed = sized_typed; within = omega (arith, x.size); room = omega (arith, read_long b) }

  -- the record, or 22
  pub read_refused : (out : List ℕ) → length out < val_len t → Told (hand_val (length out) (mem_value t mem)) out (Err NoRoom) out
  read_refused out h = builds_long {x = ok (mem_value t mem)} out (mem_value t mem) refl (omega (arith, ap val_len read_typed))

  pub read_record : Bytes mem → {out out' : List ℕ} {r : ℕ} → val_len t ≤ length out → Put out 0 (value_from t mem 0) r out'
      → Told (hand_val (length out) (mem_value t mem)) out (Ok r) out'
  unfolding value_from
  read_record b {out} h y = builds_record {x = ok (mem_value t mem)} out (mem_value t mem) refl (read_shaped b)
      (omega (arith, ap val_len read_typed)) y
