-- What the ranks of conversions between kinds, and between types, are to be.
use Rattle.std.specs.Prelude.{◌≡◌, List, Bool, ℕ, ◌-◌, length, take}
use Rattle.std.proofs.Math.Option.{Option as Maybe, none, some}
use Rattle.meaning.specs.Kinds.{Kind, bool, aint, afloat, i32, u32, f32, f16, kind_no, kind_of, kind_rank}
use Rattle.meaning.specs.Trees.{Ty, Ts, Target, Of, Tr}
use Rattle.meaning.specs.Read.{read_tys}
use Rattle.meaning.specs.Answers.{Result, or_no, ◌>>=◌}
use Rattle.meaning.specs.Convert.{rank, converts}
use Rattle.meaning.specs.Entries.{only, rank_one}
use Rattle.kind.specs.Ends.{of_kinds}
use Rattle.ty.specs.Stands.{Whole}
use Rattle.std.specs.declared.option.Option.{Option}
use Rattle.std.specs.declared.option.Option.TheVariants.{None, Some}
use Rattle.error.specs.Refusals.{Refusing, paper}

-- the code's answer for a rank, and for none
unfoldable pub rank_of : Maybe ℕ → Option ℕ
rank_of none = None
rank_of (some n) = Some n

-- the rank from one kind to another, by their numbers
unfoldable pub rank_between : ℕ → ℕ → Maybe ℕ
rank_between from to = of_kinds none kind_rank (kind_of from) (kind_of to)

-- the rank of the conversion of the type that a is into the type that b is
abbrev pub RankIs : List ℕ → List ℕ → Option ℕ → Type 0
RankIs a b r = (t u : Ty) → Whole a t → Whole b u → r ≡ rank_of (rank t u)

-- whether that type converts to this
abbrev pub ConvertsIs : List ℕ → List ℕ → Bool → Type 0
ConvertsIs a b r = (t u : Ty) → Whole a t → Whole b u → r ≡ converts t u

-- the kinds to which a kind converts, a bit for each by its number
unfoldable pub kinds_from : Kind → ℕ
kinds_from bool = 1
kinds_from aint = 126
kinds_from afloat = 100
kinds_from i32 = 8
kinds_from u32 = 16
kinds_from f32 = 32
kinds_from f16 = 64

-- whether the scalar of the one kind converts to the other's, by their numbers
abbrev pub KindConverts : ℕ → ℕ → Bool → Type 0
KindConverts from to r = (a b : Kind) → from ≡ kind_no a → to ≡ kind_no b → r ≡ converts (Ts a) (Ts b)

-- all but the last byte
abbrev pub front : List ℕ → List ℕ
front s = take (length s - 1) s

-- what is answered for a target once it is read
unfoldable pub rank_read : Target → List ℕ → Result ℕ
rank_read g args = or_no 2 (read_tys g args) >>= λ l. only l >>= rank_one g

abbrev pub RanksTo : List ℕ → List ℕ → Refusing ℕ → Type 0
RanksTo target args r = (t : Ty) → Whole target t → paper r ≡ rank_read (Of t) args

abbrev pub RanksToRuntime : List ℕ → Refusing ℕ → Type 0
RanksToRuntime args r = (t : Ty) → paper r ≡ rank_read (Tr t) args
