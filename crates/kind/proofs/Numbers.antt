-- A number over 6 is no kind's.
use mathlib.Core.Path.{◌≡◌, refl, sym}
use mathlib.Core.Option.{Option, none, some}
use mathlib.Core.List.{List, [], ◌∷◌}
use mathlib.Core.Bool.{cond}
use Prim.Native.Nat.{ℕ, zero, suc, ◌≤◌}
use native.Mathlib.Omega.{arith}
use lib.Dec.{eqb}
use lib.ListN.{length, get_elem?}
use borrow.Author.Tests.{ne_eqb}
use Rattle.meaning.specs.Kinds.{Kind, bool, aint, afloat, i32, u32, f32, f16, kind_no, kind_of, same_kind, pay_width}
use Rattle.meaning.specs.Kinds.{is_float, is_abstract}
use Rattle.meaning.specs.Layout.{laid_kind, scalar_size}
use Rattle.meaning.specs.Floats.{largest}
use Rattle.laws.proofs.AgreeLit.{kind_back}
use Rattle.laws.proofs.Sound.{kind_no_lem}
use Rattle.kind.specs.Ends.{of_kind, numbered, known, low, high}

past : {A : Type 0} (l : List A) (i : ℕ) → length l ≤ i → get_elem? l i ≡ none
past [] i h = refl
past (a ∷ l) zero h = absurd (omega arith)
past (a ∷ l) (suc i) h = past l i (omega arith)

pub no_kind : (n : ℕ) → 7 ≤ n → kind_of n ≡ none
unfolding kind_of
no_kind n h = past (bool ∷ aint ∷ afloat ∷ i32 ∷ u32 ∷ f32 ∷ f16 ∷ []) n h

-- opens what a table over kinds computes by: a function that is one names this word for its goals
unfoldable pub table : ℕ → Option Kind
unfolding of_kind kind_of kind_no same_kind is_float is_abstract pay_width laid_kind scalar_size largest known low high
table = kind_of

-- what a `match` on the seven numbers knows in its last arm
abbrev pub Others : ℕ → Type 0
Others n = ((((((Unit {0} × (n ≡ 0 → ⊥)) × (n ≡ 1 → ⊥)) × (n ≡ 2 → ⊥)) × (n ≡ 3 → ⊥)) × (n ≡ 4 → ⊥)) × (n ≡ 5 → ⊥)) × (n ≡ 6 → ⊥)

others : (n : ℕ) → Others n → 7 ≤ n
others n h = upper (lower h.0.0.0.0.0.0.1 h.0.0.0.0.0.1 h.0.0.0.0.1 h.0.0.0.1) h.0.0.1 h.0.1 h.1
  where
    lower : (n ≡ 0 → ⊥) → (n ≡ 1 → ⊥) → (n ≡ 2 → ⊥) → (n ≡ 3 → ⊥) → 4 ≤ n
    lower a b c d = omega arith

    upper : 4 ≤ n → (n ≡ 4 → ⊥) → (n ≡ 5 → ⊥) → (n ≡ 6 → ⊥) → 7 ≤ n
    upper h a b c = omega arith

pub over : {A : Type 0} (z : A) (f : Kind → A) (n : ℕ) → Others n → z ≡ of_kind z f (kind_of n)
unfolding of_kind
over z f n h = rw (no_kind n (others n h))

-- no payload takes more than 8 bytes
pub few_bytes : (n : ℕ) → numbered pay_width n ≤ 8
unfolding of_kind pay_width
few_bytes n = go (kind_of n)
  where
    go : (o : Option Kind) → of_kind 0 pay_width o ≤ 8
    go none = omega arith
    go (some k) = omega arith

-- what a kind has for itself alone, by a number that is its own, or another kind's, or none's
pub same : {A : Type 0} (j : Kind) (x : A) (f : Kind → Option A) → ((k : Kind) → cond (same_kind j k) (some x) none ≡ f k) →
    (to : ℕ) (o : Option Kind) → kind_of to ≡ o → cond (eqb (kind_no j) to) (some x) none ≡ of_kind none f o
unfolding of_kind same_kind
same j x f h to none e =
    rw (ne_eqb (kind_no j) to (λ g.
    let b : kind_of to ≡ some j = rw (sym g) (kind_back j) in
    let z : ◌≡◌ {A = ℕ} 0 1 = cc in
    omega arith))
same j x f h to (some k) e = rw (kind_no_lem to k e) (h k)
