-- The loop over scalars of one kind, whose number is k.
use mathlib.Core.Path.{◌≡◌, ap, ◌∙◌}
use mathlib.Core.List.{List}
use Prim.Native.Nat.{ℕ, ◌+◌, ◌*◌, ◌≤◌, ◌<◌}
use native.Mathlib.Omega.{arith}
use lib.ListN.{length, drop}
use Rattle.meaning.specs.Kinds.{Kind, kind_no}
use Rattle.meaning.specs.Layout.{scalar_size}
use Rattle.memory.specs.Sizes.{size_no}
use Rattle.memory.proofs.Sizes.{size_of_lem}
use Rattle.record.specs.Bytes.{number_at, Put}
use Rattle.record.specs.Literals.{width_of, literal_of}
use Rattle.record.proofs.Literals.{literal_long}
use Rattle.read_layout.specs.Memory.{ScalarsRoom, scalars_from}
use Rattle.read_layout.proofs.Apart.{Apart, apart_all, apart_within, apart_room, apart_on, apart_end}
use Rattle.read_layout.proofs.Parts.{scalar_there_lem, scalar_there, scalars_from_lem}

abbrev pub ScalarsLeft : List ℕ → ℕ → ℕ → ℕ → List ℕ → ℕ → List ℕ → ℕ → ℕ → ℕ → Type 0
ScalarsLeft mem at n k out₀ to out i p done = (j : Kind) → k ≡ kind_no j → Apart (scalar_there_lem j) (scalar_size j) mem at n out₀ to out i p done

pub scalars_all : (mem : List ℕ) (at n k : ℕ) (out : List ℕ) (to : ℕ) → ScalarsLeft mem at n k out to out at to 0
scalars_all mem at n k out to j e = apart_all (scalar_there_lem j) (scalar_size j) mem at n out to

module _ {mem : List ℕ} {at n k : ℕ} {out₀ : List ℕ} {to : ℕ} {out : List ℕ} {i p done : ℕ} (g : ScalarsRoom mem at n k out₀ to)
    (v : ScalarsLeft mem at n k out₀ to out i p done) where
  module _ {size : ℕ} (s : size ≡ size_no k) (h : done < n) where
    sized : (j : Kind) → k ≡ kind_no j → size ≡ scalar_size j
    sized j e = s ∙ (ap size_no e ∙ size_of_lem j)

    pub scalar_within : i + size ≤ length mem
    scalar_within = rw (sized g.kind g.no) (apart_within (v g.kind g.no) h g.within)

    module _ {x : ℕ} (e : x ≡ number_at mem i size) where
      bytes : (j : Kind) → k ≡ kind_no j → scalar_there_lem j (drop i mem) ≡ literal_of k x
      bytes j q = scalar_there j mem i q (sized j q) e (rw (sized j q) at scalar_within)

      pub scalar_room : p + (3 + width_of k) ≤ length out
      scalar_room =
          let j = g.kind in
          let r = apart_room (v j g.no) h (rw (scalars_from_lem mem at n j) at g.room) in
          omega (arith, r, ap length (bytes j g.no), literal_long k x)

      pub scalar_on : {q : ℕ} {out' : List ℕ} → Put out p (literal_of k x) q out'
          → ScalarsLeft mem at n k out₀ to out' (i + size) q (done + 1)
      scalar_on y j q = apart_on (v j q) h (ap (λ (w : ℕ). i + w) (sized j q)) (rw (bytes j q) y)

  pub scalars_end : done ≡ n → (j : Kind) → k ≡ kind_no j → (i ≡ at + n * scalar_size j) × Put out₀ to (scalars_from mem at n j) p out
  scalars_end h j e = rw (scalars_from_lem mem at n j) (apart_end (v j e) h)
