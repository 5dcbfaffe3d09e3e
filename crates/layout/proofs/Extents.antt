-- Sizes exact to 64 bits: what an answer says of the size, and the steps that make one from another.
use mathlib.Core.Path.{◌≡◌, refl, sym, ap, ◌∙◌}
use mathlib.Core.List.{List}
use mathlib.Core.Bool.{Bool, true, false, cond}
use Prim.Native.Nat.{ℕ, ◌+◌, ◌-◌, ◌*◌, ◌%◌, ◌^◌, ◌≤◌, ◌<◌}
use native.Mathlib.Omega.{arith}
use native.Mathlib.Nat.{mul-le-mul}
use lib.Dec.{ltb, eqb}
use lib.ListN.{set}
use borrow.Author.Tests.{lt-ltb, le-ltb, ltb-true, ltb-false}
use Rattle.std.specs.Option.{SomeIff}
use Rattle.std.specs.declared.option.Option.{Option}
use Rattle.std.specs.declared.option.Option.TheVariants.{None, Some}
use Rattle.std.proofs.lemmas.Option.{none-some, cond_some}
use Rattle.meaning.specs.Kinds.{Kind, kind_no}
use Rattle.meaning.specs.Layout.{scalar_size, vec_align, round_up}
use Rattle.record.specs.Literals.{Sized}
use Rattle.memory.specs.Sizes.{size_no, Align}
use Rattle.memory.proofs.Sizes.{size_of_lem}
use Rattle.memory.proofs.RoundUp.{align_small, up_more, up_same, up_missing}
use Rattle.layout.specs.Extents.{extent, extent_of, past_of, ScalarExtent, VectorExtent, Rounds}
use Rattle.layout.specs.declared.Extent.{Extent}

-- ---- exact to 64 bits

cond_none : {A : Type 0} (b : Bool) (x : A) → None ≡ cond b (Some x) None → b ≡ false
cond_none true x h = absurd (none-some x h)
cond_none false x h = refl

pub extent_is : (e n a : ℕ) → n < 2 ^ 64 → extent_of e n a ≡ Some (extent e n a)
unfolding extent_of
extent_is e n a h = rw (lt-ltb n (2 ^ 64) h)

pub extent_long : (e n a : ℕ) → 2 ^ 64 ≤ n → extent_of e n a ≡ None
unfolding extent_of
extent_long e n a h = rw (le-ltb n (2 ^ 64) h)

-- what an answer says
pub record SizeIs (x : Extent) (e n a : ℕ) : Type 0 where
  pub is : x ≡ extent e n a
  pub end : x.end ≡ e
  pub size : x.size ≡ n
  pub align : x.align ≡ a
  pub fits : n < 2 ^ 64

pub is_extent : {x : Extent} (e n a : ℕ) → Some x ≡ extent_of e n a → SizeIs x e n a
unfolding extent_of
is_extent e n a h =
    let y = cond_some (ltb n (2 ^ 64)) (extent e n a) _ (sym h) in
    rw (← y.1) (record { is = refl; end = refl; size = refl; align = refl; fits = ltb-true n (2 ^ 64) y.0 })

pub long_extent : (e n a : ℕ) → None ≡ extent_of e n a → 2 ^ 64 ≤ n
unfolding extent_of
long_extent e n a h = ltb-false n (2 ^ 64) (cond_none (ltb n (2 ^ 64)) (extent e n a) h)

pub past_is : (n : ℕ) → n < 2 ^ 64 → Some n ≡ past_of n
unfolding past_of
past_is n h = rw (lt-ltb n (2 ^ 64) h)

pub past_long : (n : ℕ) → 2 ^ 64 ≤ n → None ≡ past_of n
unfolding past_of
past_long n h = rw (le-ltb n (2 ^ 64) h)

pub is_past : (p n : ℕ) → Some p ≡ past_of n → (p ≡ n) × (n < 2 ^ 64)
unfolding past_of
is_past p n h = let y = cond_some (ltb n (2 ^ 64)) n p (sym h) in (sym y.1, ltb-true n (2 ^ 64) y.0)

pub long_past : (n : ℕ) → None ≡ past_of n → 2 ^ 64 ≤ n
unfolding past_of
long_past n h = ltb-false n (2 ^ 64) (cond_none (ltb n (2 ^ 64)) n h)

-- a sum that is checked
pub past_sum : (o : Option ℕ) (n : ℕ) → SomeIff o (n < 2 ^ 64) n → o ≡ past_of n
past_sum None n h = past_long n (omega (arith, h))
past_sum (Some x) n h = rw h.1 (past_is n h.0)

-- ---- scalars and vectors, by the kind's number

sized : {k s : ℕ} (j : Kind) → s ≡ size_no k → k ≡ kind_no j → s ≡ scalar_size j
sized j h q = h ∙ (ap size_no q ∙ size_of_lem j)

pub scalar_extent : (e : ℕ) {k s : ℕ} → s ≡ size_no k → ScalarExtent e k (extent e s s)
scalar_extent e h j q = rw (sized j h q)

pub vector_align : (n : ℕ) {k s : ℕ} (w : ℕ) → cond (eqb n 2) 2 4 ≡ w → w ≤ 4 → s ≡ size_no k → s ≤ 4 → Sized k (vec_align n) 16 (w * s)
unfolding vec_align
vector_align n w h m p q = record { is = λ j r. rw (h, sized j p r); small = mul-le-mul m q }

pub vector_extent : (e : ℕ) {n k w s a : ℕ} → w ≡ n → s ≡ size_no k → Sized k (vec_align n) 16 a
    → VectorExtent e n k (extent e (w * s) a)
vector_extent e g h z j q = rw (g, sized j h q, z.is j q)

pub vector_fits : {w s : ℕ} → w < 256 → s ≤ 4 → w * s ≤ 1020
vector_fits g h = mul-le-mul (let x : _ ≤ 255 = omega arith in x) h

-- ---- up to the next multiple

module _ {a w : ℕ} (h : Align a) (e : w ≡ a) (n : ℕ) where
  pub gap_none : n % w ≡ 0 → (0 ≡ round_up a n - n) × (0 < 16)
  gap_none q = (omega (arith, up_same a h n (rw e at q)), omega arith)

  pub gap_left : (n % w ≡ 0 → ⊥) → (w - n % w ≡ round_up a n - n) × (w - n % w < 16)
  gap_left q =
      let l : 0 < n % a = rw e at (let z : 0 < n % w = omega arith in z) in
      let u = up_missing a h n l in
      let s = align_small a h in
      rw e (omega arith, omega arith)

-- ---- the size rounded up

module _ (x : Extent) (h : Align x.align) {g w : ℕ} (p : g ≡ round_up x.align x.size - x.size) (v : w ≡ g) where
  comes : x.size + w ≡ round_up x.align x.size
  comes = let u = up_more x.align h x.size in omega arith

  module _ {at : ℕ} {pads : List ℕ} where
    pub rounds_over : 2 ^ 64 ≤ x.size + w → Rounds x at pads None pads
    rounds_over l =
        let i = comes in
        record {
          is = sym (extent_long x.end (round_up x.align x.size) x.align (omega arith));
          table = λ f. absurd (omega arith);
        }

    pub rounds_is : {n : ℕ} → n ≡ x.size + w → x.size + w < 2 ^ 64
        → Rounds x at pads (Some (extent x.end n x.align)) (set pads at g)
    rounds_is i l =
        let j = comes in
        record {
          is = rw (i ∙ j) (sym (extent_is x.end (round_up x.align x.size) x.align (omega arith)));
          table = λ f. rw p;
        }
