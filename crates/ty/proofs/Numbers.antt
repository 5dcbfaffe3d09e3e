-- The kinds by their numbers.
use mathlib.Core.Path.{◌≡◌, refl}
use mathlib.Core.Bool.{false}
use mathlib.Core.Option.{Option, none, some}
use Prim.Native.Nat.{ℕ}
use lib.Dec.{T}
use Rattle.meaning.specs.Kinds.{Kind, kind_no, kind_of, is_float}
use Rattle.laws.proofs.AgreeLit.{kind_back}
use Rattle.laws.proofs.Sound.{kind_no_lem}
use Rattle.kind.specs.Ends as kinds
use Rattle.kind.specs.Ends.{of_kind}
use Rattle.ty.specs.TypeFronts.{kind_number, float_number}

pub record KindOf (n : ℕ) : Type 0 where
  pub kind : Kind
  pub no : n ≡ kind_no kind

-- the kind whose number n is
pub kind_of_lem : (n : ℕ) → T (kind_number n) → KindOf n
unfolding of_kind
kind_of_lem n h = go (kind_of n) refl h
  where
    go : (o : Option Kind) → kind_of n ≡ o → T (of_kind false kinds.known o) → KindOf n
    go none e q = absurd q
    go (some k) e q = record { kind = k; no = kind_no_lem n k e }

pub is_number : (k : Kind) → T (kind_number (kind_no k))
unfolding of_kind kinds.known
is_number k = rw (kind_back k) tt

pub float_number_lem : (k : Kind) → float_number (kind_no k) ≡ is_float k
unfolding of_kind
float_number_lem k = rw (kind_back k)
