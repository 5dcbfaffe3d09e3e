-- What a test's answer says, and bytes that stand at a place.
use mathlib.Core.Path.{◌≡◌, refl, sym, ap, ◌∙◌, subst}
use mathlib.Core.List.{List, [], ◌∷◌, ◌++◌, append_assoc}
use mathlib.Core.Bool.{Bool, true, false}
use Prim.Native.Nat.{ℕ, ◌+◌, ◌<◌}
use native.Mathlib.Omega.{arith}
use native.Mathlib.Nat.{add-zero}
use lib.Dec.{T, eqb, eqb→eq, eqb_refl}
use lib.ListN.{length, get_or, drop, length-append}
use Rattle.record.specs.Bytes.{Decides, Starts}
use Rattle.record.proofs.Places.{at_of, past, view1}

-- ---- what a test's answer says

pub known : {r b : Bool} → r ≡ b → r ≡ true → T b
known p q = subst T (sym q ∙ p) tt

pub unknown : {r b : Bool} → r ≡ b → r ≡ false → T b → ⊥
unknown p q h = subst T (sym p ∙ q) h

pub decided : {P : Type 0} {r : Bool} → Decides P r → r ≡ true → P
decided {P} h q = subst (Decides P) q h

pub refuted : {P : Type 0} {r : Bool} → Decides P r → r ≡ false → P → ⊥
refuted {P} h q = subst (Decides P) q h

-- a test of one thing answers for another that holds exactly where it does
pub decides_as : {P Q : Type 0} (r : Bool) → Decides P r → (P → Q) → (Q → P) → Decides Q r
decides_as true h f g = f h
decides_as false h f g = λ q. h (g q)

pub decides_test : {r b : Bool} → r ≡ b → Decides (T b) r
decides_test {b = b} p = subst (Decides (T b)) (sym p) (go b)
  where
    go : (x : Bool) → Decides (T x) x
    go true = tt
    go false = λ h. h

-- ---- bytes

module _ (s : List ℕ) (at : ℕ) where
  pub one_starts : (b : ℕ) → at < length s → get_or s at 0 ≡ b → Starts s at (b ∷ [])
  one_starts b h e = record { here = subst (λ (x : ℕ). drop at s ≡ x ∷ drop (at + 1) s) e (view1 s at h); room = omega arith }

  pub starts_byte : (b : ℕ) (l : List ℕ) → Starts s at (b ∷ l) → get_or s at 0 ≡ b
  starts_byte b l w = rw add-zero at (at_of s _ at w.here 0)

  module _ (a b : List ℕ) where
    pub starts_both : Starts s at a → Starts s (at + length a) b → Starts s at (a ++ b)
    starts_both x y =
        let l : at + length a + length b ≡ at + length (a ++ b) = omega (arith, length-append a b) in
        record {
          here = x.here ∙ (ap (λ (r : List ℕ). a ++ r) (y.here ∙ ap (λ (n : ℕ). b ++ drop n s) l)
              ∙ sym (append_assoc a b (drop (at + length (a ++ b)) s)));
          room = omega (arith, y.room);
        }

    pub starts_r : Starts s at (a ++ b) → Starts s (at + length a) b
    starts_r x =
        let l : at + length (a ++ b) ≡ at + length a + length b = omega (arith, length-append a b) in
        record {
          here = past s a (b ++ drop (at + length a + length b) s) at (x.here
              ∙ (append_assoc a b (drop (at + length (a ++ b)) s) ∙ ap (λ (n : ℕ). a ++ (b ++ drop n s)) l));
          room = omega (arith, x.room);
        }

    pub starts_l : Starts s at (a ++ b) → Starts s at a
    starts_l x =
        let y = starts_r x in
        let l : at + length (a ++ b) ≡ at + length a + length b = omega (arith, length-append a b) in
        record {
          here = x.here ∙ (append_assoc a b (drop (at + length (a ++ b)) s)
              ∙ ap (λ (r : List ℕ). a ++ r) (ap (λ (n : ℕ). b ++ drop n s) l ∙ sym y.here));
          room = omega (arith, x.room);
        }

    -- where the first part stands, the second decides
    pub both_decides : (r : Bool) → Starts s at a → Decides (Starts s (at + length a) b) r → Decides (Starts s at (a ++ b)) r
    both_decides r x d = decides_as r d (starts_both x) starts_r

-- a byte decides
pub byte_decides : (s : List ℕ) (at b : ℕ) → at < length s → Decides (Starts s at (b ∷ [])) (eqb (get_or s at 0) b)
byte_decides s at b h =
    decides_as (eqb (get_or s at 0) b) (decides_test {r = eqb (get_or s at 0) b} refl) (λ t. one_starts s at b h (eqb→eq (get_or s at 0) b t))
    (λ w. subst (λ (x : ℕ). T (eqb (get_or s at 0) x)) (starts_byte s at b [] w) (eqb_refl (get_or s at 0)))
