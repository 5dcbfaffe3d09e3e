-- Values in a list of bytes.
use Rattle.std.specs.Prelude.{◌≡◌, List, Bool, true, false, ◌&&◌, ℕ, ◌+◌, ◌≤◌, T, length}
use Rattle.std.proofs.Math.Option.{some}
use Rattle.meaning.specs.Scalars.{some?}
use Rattle.meaning.specs.Trees.{Ty, Val, Vs, Vv, Vm, Va, Vu, Vals, ⟨⟩, ◌▹◌, type_of, leaf}
use Rattle.meaning.specs.Records.{val_bytes}
use Rattle.meaning.specs.Convert.{converts, conv_val}
use Rattle.ty.specs.Stands.{Stands}
use Rattle.record.specs.Bytes.{Put}
use Rattle.record.specs.Values.{HasVal}

-- no struct is in it
unfoldable mutual
  pub plain : Val → Bool
  plain (Vs k p) = true
  plain (Vv k ps) = true
  plain (Vm c r k ps) = true
  plain (Va l) = plains l
  plain (Vu i l) = false

  pub plains : Vals → Bool
  plains ⟨⟩ = true
  plains (v ▹ l) = plain v && plains l

-- ---- to a type by a record that stands at `at`

-- the value v stands in s, and its type converts to t; the record is of t, or of any type with the same kind at the
-- bottom: of t's elements, where t is an array whose count is the value's
pub record ValueTo (d : ℕ) (ty : List ℕ) (at : ℕ) (s : List ℕ) (from e : ℕ) (t : Ty) (v : Val) : Type 0 where
  pub part : Ty
  pub end : ℕ
  pub stands : Stands d ty at part end
  pub bottom : leaf part ≡ leaf t
  pub has : HasVal s from e v
  pub converts : T (converts (type_of v) t)

pub record SomeValueTo (d : ℕ) (ty : List ℕ) (at : ℕ) (s : List ℕ) (from e : ℕ) : Type 0 where
  pub type : Ty
  pub value : Val
  pub to : ValueTo d ty at s from e type value

abbrev pub ValueFits : ℕ → List ℕ → ℕ → List ℕ → ℕ → ℕ → Bool → Type 0
ValueFits d ty at s from e r = (t : Ty) (v : Val) → ValueTo d ty at s from e t v → r ≡ some? (conv_val t v)

pub record ValueRoom (d : ℕ) (ty : List ℕ) (at : ℕ) (s : List ℕ) (from e : ℕ) (out : List ℕ) (to : ℕ) : Type 0 where
  pub type : Ty
  pub value : Val
  pub into : Val
  pub asked : ValueTo d ty at s from e type value
  pub goes : conv_val type value ≡ some into
  pub room : to + length (val_bytes into) ≤ length out

abbrev pub ValuePut : ℕ → List ℕ → ℕ → List ℕ → ℕ → ℕ → List ℕ → ℕ → ℕ → List ℕ → Type 0
ValuePut d ty at s from e out to r out' = (t : Ty) (v w : Val) → ValueTo d ty at s from e t v → conv_val t v ≡ some w
    → Put out to (val_bytes w) r out'
