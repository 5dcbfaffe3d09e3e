-- The kind at the bottom of a type, as `leaf_at` answers it.
use mathlib.Core.Path.{◌≡◌, refl}
use mathlib.Core.Option.{Option, none, some}
use Prim.Native.Nat.{ℕ}
use native.Mathlib.Omega.{arith}
use Rattle.meaning.specs.Kinds.{Kind, kind_no}
use Rattle.ty.specs.Heads.{leaf_of}
use Rattle.std.specs.declared.option.Option.TheVariants.{None, Some}

pub record KindIs (k : ℕ) (o : Option Kind) : Type 0 where
  pub kind : Kind
  pub is : o ≡ some kind
  pub no : k ≡ kind_no kind

pub kind_is : (k : ℕ) (o : Option Kind) → Some k ≡ leaf_of o → KindIs k o
unfolding leaf_of
kind_is k none e = absurd (let z : ◌≡◌ {A = ℕ} 0 1 = cc in omega arith)
kind_is k (some j) e = record { kind = j; is = refl; no = cc }

pub struct_is : (o : Option Kind) → None ≡ leaf_of o → o ≡ none
unfolding leaf_of
struct_is none e = refl
struct_is (some j) e = absurd (let z : ◌≡◌ {A = ℕ} 0 1 = cc in omega arith)
