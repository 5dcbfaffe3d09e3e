-- A target that has no layout is refused whatever would follow.
use mathlib.Core.Path.{◌≡◌, ap}
use mathlib.Core.Option.{Option, none, some}
use Prim.Native.Nat.{ℕ}
use Rattle.meaning.specs.Trees.{Ty, Target}
use Rattle.meaning.specs.Answers.{Result, no, or_no, ◌>>=◌}
use Rattle.meaning.specs.Layout.{laid_type}

pub not_laid : {A : Type 0} (f : Ty → Result A) (n : ℕ) (o : Option Target) → (or_no 1 o >>= laid_type) ≡ no n
    → (or_no 1 o >>= λ g. laid_type g >>= f) ≡ no n
not_laid f n none h = ap (λ (r : Result Ty). r >>= f) h
not_laid f n (some g) h = ap (λ (r : Result Ty). r >>= f) h
