-- From the target that was read, and from what was worked out of its type, to the answer of `layout_of`.
use mathlib.Core.Path.{◌≡◌, sym, ◌∙◌}
use mathlib.Core.Option.{Option as Maybe, some}
use mathlib.Core.List.{List}
use mathlib.Core.Bool.{Bool, true, false}
use Prim.Native.Nat.{ℕ, ◌≤◌, ◌^◌}
use lib.Dec.{ltb}
use lib.ListN.{length}
use borrow.Author.Tests.{lt-ltb, le-ltb}
use Rattle.meaning.specs.Trees.{Ty, Target, Of}
use Rattle.meaning.specs.Records.{good_ty}
use Rattle.meaning.specs.Read.{read_target}
use Rattle.meaning.specs.Answers.{ok, no, need, or_no, ◌>>=◌, ◌>>◌}
use Rattle.meaning.specs.Layout.{has_layout, laid_type, size_of, align_of, layout_answer}
use Rattle.memory.proofs.Refused.{not_laid}
use Rattle.ty.specs.Targets.{TypeIs}
use Rattle.ty.proofs.Targets.{whole_bytes, good_length}
use Rattle.layout.specs.Laid.{paper, layout_read}
use Rattle.layout.specs.Extents.{extent_of}
use Rattle.layout.specs.declared.Extent.{Extent}
use Rattle.std.specs.declared.option.Option.{Option}
use Rattle.std.specs.declared.option.Option.TheVariants.{None, Some}
use Rattle.layout.proofs.Extents.{is_extent, long_extent}
use Rattle.std.specs.declared.result.Result.TheVariants.{Ok, Err}
use Rattle.error.specs.declared.Refusal.TheVariants.{NoRoom, NoLayout}

-- ---- of a type

module _ (t : Ty) {b : Bool} (h : b ≡ has_layout t) where
  pub none_laid : b ≡ false → paper (Err NoLayout) ≡ layout_read t
  unfolding paper layout_read laid_type
  none_laid q = rw (← h, q)

  module _ (q : b ≡ true) {x : Option Extent} (e : ℕ) (y : x ≡ extent_of e (size_of t) (align_of t)) where
    pub long_laid : x ≡ None → paper (Err NoRoom) ≡ layout_read t
    unfolding paper layout_read laid_type
    long_laid k = rw (← h, q, le-ltb (size_of t) (2 ^ 64) (long_extent e (size_of t) (align_of t) (sym k ∙ y)))

    pub size_laid : {z : Extent} {v : ℕ} → x ≡ Some z → v ≡ z.align
        → paper (Ok record { size = z.size; align = v }) ≡ layout_read t
    unfolding paper layout_read laid_type
    size_laid k i =
        let z = is_extent e (size_of t) (align_of t) (sym k ∙ y) in
        rw (← h, q, lt-ltb (size_of t) (2 ^ 64) z.fits, i, z.size, z.align)

-- ---- of the bytes

-- a type's record is not longer than the table
pub type_short : (s : List ℕ) → TypeIs s → length s ≤ 4096
unfolding good_ty
type_short s m = good_length 15 4096 s 0 m.type (whole_bytes m.stands) m.good

module _ (s : List ℕ) where
  pub of_answer : {t : Ty} → read_target s ≡ some (Of t) → layout_answer s ≡ layout_read t
  unfolding layout_answer layout_read
  of_answer e = rw e

  pub no_answer : (n : ℕ) {o : Maybe Target} → read_target s ≡ o → (or_no 1 o >>= laid_type) ≡ no n
      → layout_answer s ≡ no n
  unfolding layout_answer
  no_answer n {o} e h = rw e (not_laid (λ t. need (ltb (size_of t) (2 ^ 64)) 22 >> ok (size_of t, align_of t)) n o h)
