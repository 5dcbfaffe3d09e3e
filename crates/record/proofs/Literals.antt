-- A literal by its kind's number.
use mathlib.Core.Path.{◌≡◌, refl, ap, ◌∙◌}
use mathlib.Core.Option.{Option, none, some}
use mathlib.Core.List.{List, ◌++◌}
use Prim.Native.Nat.{ℕ, zero, suc, ◌+◌, ◌*◌}
use native.Mathlib.Omega.{arith}
use native.Mathlib.Nat.{suc-mul}
use lib.ListN.{length, length-append, replicate}
use Rattle.meaning.specs.Kinds.{Kind, bool, aint, afloat, i32, u32, f32, f16, kind_no, kind_of, pay_width}
use Rattle.meaning.specs.Records.{lit_bytes, joined}
use Rattle.laws.proofs.AgreeLit.{kind_back}
use Rattle.laws.proofs.Length.{le_len}
use Rattle.kind.specs.Ends.{of_kind}
use Rattle.record.specs.Bytes.{Width, times}
use Rattle.record.specs.Literals.{width_of, literal_of}

pub width_of_lem : (k : Kind) → width_of (kind_no k) ≡ pay_width k
unfolding of_kind
width_of_lem k = rw (kind_back k)

-- a payload's width is one of the widths
pub width_is : (n : ℕ) → Width (width_of n)
unfolding of_kind pay_width
width_is n = go (kind_of n)
  where
    go : (o : Option Kind) → Width (of_kind 0 pay_width o)
    go none = tt
    go (some bool) = tt
    go (some aint) = tt
    go (some afloat) = tt
    go (some i32) = tt
    go (some u32) = tt
    go (some f32) = tt
    go (some f16) = tt

pub literal_bytes : (k : Kind) (p : ℕ) → literal_of (kind_no k) p ≡ lit_bytes k p
unfolding literal_of lit_bytes
literal_bytes k p = rw (width_of_lem k)

pub literal_long : (k p : ℕ) → length (literal_of k p) ≡ 3 + width_of k
unfolding literal_of
literal_long k p = omega (arith, le_len (width_of k) p)

-- ---- copies

pub times_long : (n : ℕ) (b : List ℕ) → length (times n b) ≡ n * length b
unfolding times
times_long zero b = omega (arith)
times_long (suc n) b = omega (arith, length-append b (times n b), times_long n b, suc-mul n (length b))

pub literals_long : (n k p : ℕ) → length (times n (literal_of k p)) ≡ n * (3 + width_of k)
literals_long n k p = times_long n (literal_of k p) ∙ ap (λ (l : ℕ). n * l) (literal_long k p)

pub joined_times : {A : Type 0} (f : A → List ℕ) (n : ℕ) (a : A) → joined f (replicate n a) ≡ times n (f a)
unfolding joined times
joined_times f zero a = refl
joined_times f (suc n) a = ap (λ (l : List ℕ). f a ++ l) (joined_times f n a)
