-- Bytes that stand at a place, and what is in front of the rest of them; padding, and the places of its table.
use mathlib.Core.Path.{◌≡◌, refl, sym, ap, ◌∙◌}
use mathlib.Core.List.{List, [], ◌++◌, append_assoc}
use Prim.Native.Nat.{ℕ, zero, suc, ◌+◌, ◌≤◌}
use native.Mathlib.Omega.{arith}
use lib.ListN.{replicate, length-replicate, length, drop, length-append}
use Rattle.meaning.specs.Trees.{Ty}
use Rattle.meaning.specs.Layout.{zeros}
use Rattle.ty.specs.Stands.{Stands}
use Rattle.record.proofs.Places.{past}
use Rattle.memory.proofs.Length.{type_long}
use Rattle.record.specs.Values.{BytesAt}

module _ {s : List ℕ} {at e : ℕ} (a b : List ℕ) (w : BytesAt s at e (a ++ b)) where
  pub bytes_rest : BytesAt s (at + length a) e b
  bytes_rest =
      record {
        here = past s a (b ++ drop e s) at (w.here ∙ append_assoc a b (drop e s));
        size = omega (arith, w.size, length-append a b);
        within = w.within;
      }

  pub bytes_first : BytesAt s at (at + length a) a
  bytes_first =
      record {
        here = w.here ∙ (append_assoc a b (drop e s) ∙ ap (λ (l : List ℕ). a ++ l) (sym bytes_rest.here));
        size = refl;
        within = omega (arith, bytes_rest.size, w.within);
      }

-- nothing stands between two places that are one
pub bytes_none : {s : List ℕ} {at e : ℕ} → BytesAt s at e [] → at ≡ e
bytes_none w = omega (arith, w.size)

-- padding is so many zero bytes
pub zeros_is : (n : ℕ) → zeros n ≡ replicate n 0
unfolding zeros
zeros_is zero = refl
zeros_is (suc n) = rw (zeros_is n)

pub zeros_long : (n : ℕ) → length (zeros n) ≡ n
zeros_long n = rw (zeros_is n, length-replicate)

-- a type's record has places for the padding inside it and before it
pub in_table : {d : ℕ} {ty : List ℕ} {o : ℕ} {t : Ty} {q : ℕ} → Stands d ty o t q → o + 3 ≤ q
in_table {t = t} w = omega (arith, w.size, type_long t)
