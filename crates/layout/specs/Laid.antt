-- Which types have a layout, and the answer of `layout_of`.
use Rattle.std.specs.Prelude.{◌≡◌, List, Bool, true, false, ℕ, ◌^◌, ltb}
use Rattle.meaning.specs.Kinds.{Kind, kind_no}
use Rattle.meaning.specs.Trees.{Ty, Tys, Of}
use Rattle.meaning.specs.Answers.{Result, ok, need, ◌>>=◌, ◌>>◌}
use Rattle.meaning.specs.Layout.{laid_kind, has_layout, have_layouts, laid_type, size_of, align_of}
use Rattle.ty.specs.Stands.{Stands, StandAll, Whole}
use Rattle.std.specs.declared.option.Option.{Option}
use Rattle.std.specs.declared.option.Option.TheVariants.{None, Some}
use Rattle.error.specs.Refusals.{refusal, Refusing}
use Rattle.layout.specs.declared.Layout.{Layout}
use Rattle.std.specs.declared.result.Result.TheVariants.{Ok, Err}

-- the end of a record, where the test holds
abbrev pub end_if : Bool → ℕ → Option ℕ
end_if true e = Some e
end_if false e = None

abbrev pub KindLaid : ℕ → ℕ → Option ℕ → Type 0
KindLaid k e r = (j : Kind) → k ≡ kind_no j → r ≡ end_if (laid_kind j) e

abbrev pub LaidAt : ℕ → List ℕ → ℕ → Option ℕ → Type 0
LaidAt d s at r = (t : Ty) (e : ℕ) → Stands d s at t e → r ≡ end_if (has_layout t) e

abbrev pub LaidAll : ℕ → List ℕ → ℕ → ℕ → Option ℕ → Type 0
LaidAll d s at n r = (m : Tys) (e : ℕ) → StandAll d s at n m e → r ≡ end_if (have_layouts m) e

-- ---- the answer of `layout_of`

-- the paper's number and values for each case
unfoldable pub paper : Refusing Layout → Result (ℕ × ℕ)
paper (Ok x) = ok (x.size, x.align)
paper (Err x) = refusal x

-- what is answered for a type once it is read
unfoldable pub layout_read : Ty → Result (ℕ × ℕ)
layout_read t = laid_type (Of t) >>= λ u. need (ltb (size_of u) (2 ^ 64)) 22 >> ok (size_of u, align_of u)

abbrev pub LaidTold : List ℕ → Refusing Layout → Type 0
LaidTold target r = (t : Ty) → Whole target t → paper r ≡ layout_read t
