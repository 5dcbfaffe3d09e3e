-- A loop over places in memory that lie w bytes apart: for each, the bytes f of what follows from there on are written.
use mathlib.Core.Path.{◌≡◌, ap}
use mathlib.Core.List.{List, [], ◌++◌}
use Prim.Native.Nat.{ℕ, zero, suc, ◌+◌, ◌-◌, ◌*◌, ◌≤◌, ◌<◌}
use native.Mathlib.Omega.{arith}
use native.Mathlib.Nat.{sub-zero, suc-mul, zero-mul}
use lib.ListN.{length, drop}
use lib.Seq.{drop-drop}
use Rattle.meaning.specs.Records.{joined}
use Rattle.meaning.specs.Layout.{apart}
use Rattle.record.specs.Bytes.{Put, Takes}
use Rattle.record.proofs.Left.{Left, left_all, one_less, left_room, left_on, left_end}

-- what is written for n places, the first at `at`
abbrev pub each_from : (List ℕ → List ℕ) → ℕ → List ℕ → ℕ → ℕ → List ℕ
each_from f w mem at n = joined f (apart n w (drop at mem))

each_step : (f : List ℕ → List ℕ) (w : ℕ) (mem : List ℕ) (at n : ℕ) → 0 < n
    → each_from f w mem at n ≡ f (drop at mem) ++ each_from f w mem (at + w) (n - 1)
unfolding joined apart
each_step f w mem at zero h = absurd (omega arith)
each_step f w mem at (suc n) h = let e : suc n - 1 ≡ n = omega arith in rw (e, drop-drop w at mem)

each_none : (f : List ℕ → List ℕ) (w : ℕ) (mem : List ℕ) (at n : ℕ) → n ≡ 0 → each_from f w mem at n ≡ []
unfolding joined apart
each_none f w mem at n h = rw h

times_step : (n w : ℕ) → 0 < n → n * w ≡ w + (n - 1) * w
times_step zero w h = absurd (omega arith)
times_step (suc n) w h = let e : suc n - 1 ≡ n = omega arith in rw e (omega (arith, suc-mul n w))

-- of n places, the first at `at`, `done` are done, and the next is at i
pub record Apart (f : List ℕ → List ℕ) (w : ℕ) (mem : List ℕ) (at n : ℕ) (out₀ : List ℕ) (to : ℕ) (out : List ℕ) (i p done : ℕ) : Type
    0 where
  pub place : i + (n - done) * w ≡ at + n * w
  pub rest : Left out₀ to (each_from f w mem at n) out p (each_from f w mem i (n - done))

pub apart_all : (f : List ℕ → List ℕ) (w : ℕ) (mem : List ℕ) (at n : ℕ) (out : List ℕ) (to : ℕ) → Apart f w mem at n out to out at to 0
apart_all f w mem at n out to = record { place = rw (sub-zero n); rest = rw (sub-zero n) (left_all out to (each_from f w mem at n)) }

module _ {f : List ℕ → List ℕ} {w : ℕ} {mem : List ℕ} {at n : ℕ} {out₀ : List ℕ} {to : ℕ} {out : List ℕ} {i p done : ℕ}
    (g : Apart f w mem at n out₀ to out i p done) where
  module _ (h : done < n) where
    some : 0 < n - done
    some = omega arith

    pub apart_within : at + n * w ≤ length mem → i + w ≤ length mem
    apart_within l = omega (arith, g.place, times_step (n - done) w some)

    pub apart_room : Takes out₀ to (each_from f w mem at n) → Takes out p (f (drop i mem))
    apart_room l = left_room g.rest (f (drop i mem)) (each_from f w mem (i + w) (n - done - 1)) (each_step f w mem i (n - done) some) l

    pub apart_on : {j q : ℕ} {out' : List ℕ} → j ≡ i + w → Put out p (f (drop i mem)) q out'
        → Apart f w mem at n out₀ to out' j q (done + 1)
    apart_on e y =
        record {
          place = rw (← one_less n done) (omega (arith, g.place, times_step (n - done) w some));
          rest = rw (e, ← one_less n done) (left_on g.rest (f (drop i mem)) _ (each_step f w mem i (n - done) some) y);
        }

  pub apart_end : done ≡ n → (i ≡ at + n * w) × Put out₀ to (each_from f w mem at n) p out
  apart_end h =
      let z : n - done ≡ 0 = omega arith in
      (omega (arith, g.place, ap (λ (x : ℕ). x * w) z, zero-mul w), left_end g.rest (each_none f w mem i (n - done) z))
