-- What a loop has left to write: what writes the rest makes the whole.
use mathlib.Core.Path.{◌≡◌, refl, sym, ap, ◌∙◌}
use mathlib.Core.List.{List, [], ◌++◌}
use Prim.Native.Nat.{ℕ, suc, ◌+◌, ◌-◌, ◌<◌}
use native.Mathlib.Omega.{arith}
use lib.ListN.{length, length-append}
use lib.Seq.{length-sets}
use Rattle.record.specs.Bytes.{Takes, Put, times}
use Rattle.record.proofs.Puts.{put_nil, put_put}

-- of the bytes `whole`, to be stored in out₀ from `to` on, `rest` is left, to be stored in out from p on
pub record Left (out₀ : List ℕ) (to : ℕ) (whole : List ℕ) (out : List ℕ) (p : ℕ) (rest : List ℕ) : Type 0 where
  pub sums : p + length rest ≡ to + length whole
  pub makes : (r : ℕ) (x : List ℕ) → Put out p rest r x → Put out₀ to whole r x

pub left_all : (out : List ℕ) (to : ℕ) (whole : List ℕ) → Left out to whole out to whole
left_all out to whole = record { sums = refl; makes = λ r x y. y }

module _ {out₀ : List ℕ} {to : ℕ} {whole out : List ℕ} {p : ℕ} {rest : List ℕ} (g : Left out₀ to whole out p rest) where
  -- nothing that was stored changed the length
  pub left_same : length out ≡ length out₀
  left_same = sym (length-sets out p rest) ∙ (ap length (g.makes _ _ record { end = refl; left = refl }).left ∙ length-sets out₀ to whole)

  module _ (b rest' : List ℕ) (e : rest ≡ b ++ rest') where
    -- where the buffer took the whole at first, it takes what comes next
    pub left_room : Takes out₀ to whole → Takes out p b
    left_room h = omega (arith, g.sums, left_same, ap length e ∙ length-append b rest')

    pub left_on : {q : ℕ} {out' : List ℕ} → Put out p b q out' → Left out₀ to whole out' q rest'
    left_on y = record {
      sums = omega (arith, g.sums, y.end, ap length e ∙ length-append b rest');
      makes = λ r x z. g.makes r x
          (rw e (put_put y z));
    }

  pub left_end : rest ≡ [] → Put out₀ to whole p out
  left_end e = g.makes p out (rw e (put_nil out p))

-- ---- copies: of n copies of b, i are written

pub record Copies (b : List ℕ) (n : ℕ) (out₀ : List ℕ) (to : ℕ) (out : List ℕ) (p i : ℕ) : Type 0 where
  pub rest : Left out₀ to (times n b) out p (times (n - i) b)

-- of n, one less is left
pub one_less : (n i : ℕ) → n - i - 1 ≡ n - (i + 1)
one_less n i = omega arith

next : (n i : ℕ) (b : List ℕ) → i < n → times (n - i) b ≡ b ++ times (n - (i + 1)) b
unfolding times
next n i b h = let e : n - i ≡ suc (n - (i + 1)) = omega arith in rw e

pub copies_all : (b : List ℕ) (n : ℕ) (out : List ℕ) (to : ℕ) → Copies b n out to out to 0
copies_all b n out to = let e : n - 0 ≡ n = omega arith in record { rest = rw e (left_all out to (times n b)) }

module _ {b : List ℕ} {n : ℕ} {out₀ : List ℕ} {to : ℕ} {out : List ℕ} {p i : ℕ} (g : Copies b n out₀ to out p i) where
  module _ (h : i < n) where
    pub copies_room : Takes out₀ to (times n b) → Takes out p b
    copies_room l = left_room g.rest b (times (n - (i + 1)) b) (next n i b h) l

    pub copies_on : {q : ℕ} {out' : List ℕ} → Put out p b q out' → Copies b n out₀ to out' q (i + 1)
    copies_on y = record { rest = left_on g.rest b (times (n - (i + 1)) b) (next n i b h) y }

  pub copies_end : i ≡ n → Put out₀ to (times n b) p out
  unfolding times
  copies_end h = let e : n - i ≡ 0 = omega arith in left_end g.rest (rw e)
