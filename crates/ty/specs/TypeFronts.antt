-- What the readers of a type's record say of bytes of which nothing is known.
use Rattle.std.specs.Prelude.{◌≡◌, List, Bool, ℕ, ◌+◌, ◌-◌, ◌*◌, ◌≤◌, T, length, get_or}
use Rattle.meaning.specs.Kinds.{is_float}
use Rattle.kind.specs.Ends.{tested, known}
use Rattle.meaning.specs.Records.{‘T’, ‘s’, ‘v’, ‘m’, ‘a’, ‘u’, side}
use Rattle.ty.specs.Stands.{Ends, EndAll}
use Rattle.ty.specs.declared.Front.{Front}
use Rattle.ty.specs.declared.Front.TheVariants.{Whole, Array, Struct}
use Rattle.std.specs.declared.option.Option.{Option}
use Rattle.std.specs.declared.option.Option.TheVariants.{None, Some}

-- ---- kinds by their numbers

-- the number is that of a kind
abbrev pub kind_number : ℕ → Bool
kind_number n = tested known n

-- the number is that of a float kind
abbrev pub float_number : ℕ → Bool
float_number n = tested is_float n

-- ---- answers

-- a walk answers an end at which X holds, or that there is none
abbrev pub Told : (ℕ → Type 0) → Option ℕ → Type 0
Told X (Some e) = X e
Told X None = (e : ℕ) → X e → ⊥

-- ---- the bytes of each record, up to its parts

-- `Ts` kind
pub record ScalarAt (s : List ℕ) (at : ℕ) : Type 0 where
  pub room : at + 3 ≤ length s
  pub first : get_or s at 0 ≡ ‘T’
  pub second : get_or s (at + 1) 0 ≡ ‘s’
  pub kind : T (kind_number (get_or s (at + 2) 0))

-- `Tv` n, `Ts` record
pub record VectorAt (d : ℕ) (s : List ℕ) (at : ℕ) : Type 0 where
  pub first : get_or s at 0 ≡ ‘T’
  pub second : get_or s (at + 1) 0 ≡ ‘v’
  pub wide : T (side (get_or s (at + 2) 0))
  pub scalar : ScalarAt s (at + 3)
  pub deep : 1 ≤ d

-- `Tm` c r, `Ts` record of a float kind
pub record MatrixAt (d : ℕ) (s : List ℕ) (at : ℕ) : Type 0 where
  pub first : get_or s at 0 ≡ ‘T’
  pub second : get_or s (at + 1) 0 ≡ ‘m’
  pub wide : T (side (get_or s (at + 2) 0))
  pub high : T (side (get_or s (at + 3) 0))
  pub scalar : ScalarAt s (at + 4)
  pub float : T (float_number (get_or s (at + 6) 0))
  pub deep : 2 ≤ d

-- `Ta` count
pub record ArrayAt (d : ℕ) (s : List ℕ) (at : ℕ) : Type 0 where
  pub room : at + 4 ≤ length s
  pub first : get_or s at 0 ≡ ‘T’
  pub second : get_or s (at + 1) 0 ≡ ‘a’
  pub count : 1 ≤ get_or s (at + 2) 0 + 256 * get_or s (at + 3) 0
  pub deep : 1 ≤ d

-- `Tu` identity, member count
pub record StructAt (d : ℕ) (s : List ℕ) (at : ℕ) : Type 0 where
  pub room : at + 6 ≤ length s
  pub first : get_or s at 0 ≡ ‘T’
  pub second : get_or s (at + 1) 0 ≡ ‘u’
  pub some : 1 ≤ get_or s (at + 4) 0 + 256 * get_or s (at + 5) 0
  pub most : get_or s (at + 4) 0 + 256 * get_or s (at + 5) 0 ≤ 1023
  pub deep : 1 ≤ d

-- ---- the front of a record

-- the same ends
abbrev pub Same : (ℕ → Type 0) → (ℕ → Type 0) → Type 0
Same X Y = (e : ℕ) → (X e → Y e) × (Y e → X e)

-- a record with parts: it ends where its parts do, each of them one level shallower
pub record Parted (d : ℕ) (s : List ℕ) (at to : ℕ) (X : ℕ → Type 0) : Type 0 where
  pub deep : 1 ≤ d
  pub room : to ≤ length s
  pub same : Same X (Ends d s at)

abbrev pub Fronted : ℕ → List ℕ → ℕ → Option Front → Type 0
Fronted d s at (Some (Whole e)) = Ends d s at e
Fronted d s at (Some Array) = Parted d s at (at + 4) (Ends (d - 1) s (at + 4))
Fronted d s at (Some (Struct n)) = Parted d s at (at + 6) (EndAll (d - 1) s (at + 6) n)
Fronted d s at None = (e : ℕ) → Ends d s at e → ⊥
