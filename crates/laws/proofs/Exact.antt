-- Reading accepts exactly the records that are well formed, each from exactly the bytes that write it, and gives back what was written.
use mathlib.Core.Path.{◌≡◌}
use mathlib.Core.Option.{Option, some}
use mathlib.Core.List.{List, ◌++◌}
use mathlib.Core.Bool.{Bool}
use Prim.Native.Nat.{ℕ}
use lib.Dec.{T}
use Rattle.meaning.specs.Trees.{Target}
use Rattle.meaning.specs.Records.{ty_bytes, val_bytes, target_bytes, joined, good_ty, good_val, good_target, good_tys, good_args}
use Rattle.meaning.specs.Read.{Parser, p_ty, p_val, read_target, read_tys, read_vals, read_val}
use Rattle.laws.proofs.BackAll.{good_ty_back, good_val_back, tys_args, vals_args, target_back, val_alone}
use Rattle.laws.proofs.Sound.{Bytes, ty_sound}
use Rattle.laws.proofs.SoundVal.{val_sound}
use Rattle.laws.proofs.SoundAll.{args_sound, target_sound, value_sound}

-- ---- all of the bytes

-- `read` accepts, of the byte strings, the writings of the good, and no other: what is written is read back, and what
-- is read was written so
pub record Exactly {A : Type 0} (good : A → Bool) (write : A → List ℕ) (read : List ℕ → Option A) : Type 0 where
  pub back : (a : A) → T (good a) → read (write a) ≡ some a
  pub sound : (s : List ℕ) (a : A) → Bytes s → read s ≡ some a → (s ≡ write a) × T (good a)

-- a target: a well-formed one is read back from its record, and a record that is read is the record of a well-formed target
pub target_exact : Exactly good_target target_bytes read_target
target_exact = record { back = target_back; sound = target_sound }

-- one value alone
pub val_exact : Exactly good_val val_bytes read_val
val_exact = record { back = val_alone; sound = value_sound }

-- the arguments of a build: values that may stand there are read back from their records in a row, and bytes that are
-- read are such records in a row
pub vals_exact : (g : Target) → Exactly (good_args g) (joined val_bytes) (read_vals g)
unfolding read_vals
vals_exact g = record { back = vals_args g; sound = args_sound (val_sound 16) (good_args g) }

-- the arguments' types: those that may stand there are read back from their records in a row, and bytes that are read
-- are such records in a row
pub tys_exact : (g : Target) → Exactly (good_tys g) (joined ty_bytes) (read_tys g)
unfolding read_tys
tys_exact g = record { back = tys_args g; sound = args_sound (ty_sound 16) (good_tys g) }

-- ---- one record, and whatever follows

-- `read` gives a good one back from its writing, with what follows; and what it reads, good or not, is the writing of
-- what it gives, with what it leaves
pub record Leads {A : Type 0} (good : A → Bool) (write : A → List ℕ) (read : Parser A) : Type 0 where
  pub back : (a : A) → T (good a) → (rest : List ℕ) → read (write a ++ rest) ≡ some (a, rest)
  pub sound : (s : List ℕ) (a : A) (rest : List ℕ) → Bytes s → read s ≡ some (a, rest) → s ≡ write a ++ rest

-- a type's record, with anything behind it
pub ty_leads : Leads good_ty ty_bytes (p_ty 16)
ty_leads = record { back = good_ty_back; sound = λ s t rest b e. (ty_sound 16 s (t, rest) b e).is }

-- a value's record, with anything behind it
pub val_leads : Leads good_val val_bytes (p_val 16)
val_leads = record { back = good_val_back; sound = λ s v rest b e. (val_sound 16 s (v, rest) b e).is }
