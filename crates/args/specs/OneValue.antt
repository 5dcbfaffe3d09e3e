-- Bytes that are one value alone, and its type.
use Rattle.std.specs.Prelude.{◌≡◌, List, ℕ, T}
use Rattle.meaning.specs.Trees.{Val, type_of}
use Rattle.meaning.specs.Records.{val_bytes, good_val}
use Rattle.ty.specs.Stands.{Stands, Whole}
use Rattle.std.specs.declared.option.Option.{Option}
use Rattle.std.specs.declared.option.Option.TheVariants.{None, Some}

-- all of s is the record of the well-formed value v
pub record OneValue (s : List ℕ) (v : Val) : Type 0 where
  pub is : s ≡ val_bytes v
  pub good : T (good_val v)

-- and ty is its type's record
pub record Found (s ty : List ℕ) : Type 0 where
  pub value : Val
  pub one : OneValue s value
  pub whole : Whole ty (type_of value)

-- and its type's record stands at the front of ty, up to q
pub record FoundAt (s : List ℕ) (q : ℕ) (ty : List ℕ) : Type 0 where
  pub value : Val
  pub one : OneValue s value
  pub stands : Stands 15 ty 0 (type_of value) q

abbrev pub Singles : List ℕ → Option ℕ → List ℕ → Type 0
Singles s (Some q) ty = FoundAt s q ty
Singles s None ty = (v : Val) → OneValue s v → ⊥
