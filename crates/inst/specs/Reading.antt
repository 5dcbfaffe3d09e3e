-- What the readers of values answer.
use Rattle.std.specs.Prelude.{◌≡◌, List, ℕ, ◌-◌, ◌≤◌}
use Rattle.meaning.specs.Kinds.{Kind, kind_no, pay_width, payloads}
use Rattle.meaning.specs.Trees.{Ty, Ts, Tv, Tm, Tys}
use Rattle.ty.specs.Stands.{Stands, StandAll}
use Rattle.inst.specs.Values.{Fits, FitsAll, copies}
use Rattle.std.specs.declared.option.Option.{Option}
use Rattle.std.specs.declared.option.Option.TheVariants.{None, Some}

-- ---- literals

-- the greatest payload
unfoldable pub most : Kind → ℕ
most k = payloads k - 1

-- of the kind j: its number, its payload's width, and its greatest payload
pub record KindIs (j : Kind) (k w m : ℕ) : Type 0 where
  pub no : k ≡ kind_no j
  pub wide : w ≡ pay_width j
  pub top : m ≡ most j

-- ---- a walk answers an end at which X holds, or that there is none

abbrev pub Told : (ℕ → Type 0) → Option ℕ → Type 0
Told X (Some e) = X e
Told X None = (e : ℕ) → X e → ⊥

-- n literals of the kind whose number k is; a vector; columns; a matrix
abbrev pub Literals : List ℕ → ℕ → ℕ → ℕ → Option ℕ → Type 0
Literals s at n k r = (j : Kind) → k ≡ kind_no j → Told (FitsAll s at (copies n (Ts j))) r

abbrev pub LiteralAt : List ℕ → ℕ → ℕ → Option ℕ → Type 0
LiteralAt s at k r = (j : Kind) → k ≡ kind_no j → Told (Fits s at (Ts j)) r

abbrev pub VectorAt : List ℕ → ℕ → ℕ → ℕ → Option ℕ → Type 0
VectorAt s at n k r = (j : Kind) → k ≡ kind_no j → Told (Fits s at (Tv n j)) r

abbrev pub Columns : List ℕ → ℕ → ℕ → ℕ → ℕ → Option ℕ → Type 0
Columns s at c r k x = (j : Kind) → k ≡ kind_no j → Told (FitsAll s at (copies c (Tv r j))) x

abbrev pub MatrixAt : List ℕ → ℕ → ℕ → ℕ → ℕ → Option ℕ → Type 0
MatrixAt s at c r k x = (j : Kind) → k ≡ kind_no j → Told (Fits s at (Tm c r j)) x

-- ---- by a type that stands in another list of bytes

-- an end at which X holds, and a type's end of which Q holds; or no such end
abbrev pub Says : (ℕ → Type 0) → (ℕ → Type 0) → Option (ℕ × ℕ) → Type 0
Says X Q (Some (e, q)) = X e × Q q
Says X Q None = (e : ℕ) → X e → ⊥

abbrev pub ReadAs : ℕ → List ℕ → ℕ → List ℕ → ℕ → Option (ℕ × ℕ) → Type 0
ReadAs d ty o s at r = (t : Ty) (q : ℕ) → Stands d ty o t q → Says (Fits s at t) (λ z. z ≡ q) r

-- n elements of that type; where there are none, the type's end is not looked for
abbrev pub ReadEach : ℕ → List ℕ → ℕ → List ℕ → ℕ → ℕ → Option (ℕ × ℕ) → Type 0
ReadEach d ty o s at n r = (t : Ty) (q : ℕ) → Stands d ty o t q → Says (FitsAll s at (copies n t)) (λ z. 1 ≤ n → z ≡ q) r

abbrev pub ReadAll : ℕ → List ℕ → ℕ → List ℕ → ℕ → ℕ → Option (ℕ × ℕ) → Type 0
ReadAll d ty o s at n r = (m : Tys) (q : ℕ) → StandAll d ty o n m q → Says (FitsAll s at m) (λ z. z ≡ q) r
