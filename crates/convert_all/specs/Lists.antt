-- Lists of arguments to one type (the source's `convert_all_to`, conv.rs).
use Rattle.std.specs.Prelude.{◌≡◌, List, ◌∷◌, Bool, ℕ, ◌+◌, ◌≤◌, T, length}
use Rattle.std.proofs.Math.Option.{some}
use Rattle.meaning.specs.Kinds.{Kind, kind_no}
use Rattle.meaning.specs.Scalars.{some?}
use Rattle.meaning.specs.Trees.{Ty, Ts, Val, type_of}
use Rattle.meaning.specs.Records.{val_bytes, joined, every}
use Rattle.meaning.specs.Answers.{all_some}
use Rattle.meaning.specs.Convert.{converts, conv_val}
use Rattle.ty.specs.Stands.{Stands, Standing, Whole}
use Rattle.ty.specs.Heads.{head_of}
use Rattle.ty.specs.declared.Head.{Head}
use Rattle.record.specs.Bytes.{Put}
use Rattle.args.specs.Row.{Row, SomeRow}

-- ---- one argument's type to a type

-- whether a type with the one front converts to a type with the other, where the fronts say it
abbrev pub HeadConverts : Head → Head → Bool → Type 0
HeadConverts a b r = (t u : Ty) → a ≡ head_of t → b ≡ head_of u → r ≡ converts t u

abbrev pub ArgConverts : List ℕ → ℕ → List ℕ → Bool → Type 0
ArgConverts args i ty r = (v : Val) (l : List Val) (t : Ty) → Row args i (v ∷ l) → Whole ty t → r ≡ converts (type_of v) t

-- ---- all arguments to one type

-- each argument's type converts to t
abbrev pub all_to : Ty → List Val → Bool
all_to t l = every (λ v. converts (type_of v) t) l

-- arguments stand from `from` on, and a type's record at `at`
pub record Asked (args : List ℕ) (from : ℕ) (d : ℕ) (ty : List ℕ) (at : ℕ) : Type 0 where
  pub rest : SomeRow args from
  pub to : Standing d ty at

-- and each argument's type converts to that type
pub record AskedFit (args : List ℕ) (from : ℕ) (d : ℕ) (ty : List ℕ) (at : ℕ) : Type 0 where
  pub values : List Val
  pub row : Row args from values
  pub type : Ty
  pub end : ℕ
  pub stands : Stands d ty at type end
  pub converts : T (all_to type values)

abbrev pub TypesConvert : List ℕ → ℕ → List ℕ → Bool → Type 0
TypesConvert args from ty r = (l : List Val) (t : Ty) → Row args from l → Whole ty t → r ≡ all_to t l

-- "a value converts exactly if its type does and each literal fits": each of them, to the scalar type of the kind whose
-- number k is; to any type
abbrev pub LiteralsFit : List ℕ → ℕ → ℕ → Bool → Type 0
LiteralsFit args from k r = (l : List Val) (j : Kind) → k ≡ kind_no j → Row args from l → r ≡ some? (all_some (conv_val (Ts j)) l)

abbrev pub AllConvert : List ℕ → ℕ → ℕ → List ℕ → ℕ → Bool → Type 0
AllConvert args from d ty at r = (l : List Val) (t : Ty) (e : ℕ) → Row args from l → Stands d ty at t e → r ≡ some? (all_some (conv_val t) l)

-- the arguments convert, and the values that they become have room in out from `to` on
pub record AllRoom (args : List ℕ) (from : ℕ) (d : ℕ) (ty : List ℕ) (at : ℕ) (out : List ℕ) (to : ℕ) : Type 0 where
  pub values : List Val
  pub row : Row args from values
  pub type : Ty
  pub end : ℕ
  pub stands : Stands d ty at type end
  pub intos : List Val
  pub goes : all_some (conv_val type) values ≡ some intos
  pub room : to + length (joined val_bytes intos) ≤ length out

abbrev pub AllPut : List ℕ → ℕ → ℕ → List ℕ → ℕ → List ℕ → ℕ → ℕ → List ℕ → Type 0
AllPut args from d ty at out to r out' =
    (l : List Val) (t : Ty) (e : ℕ) (ws : List Val) → Row args from l → Stands d ty at t e → all_some (conv_val t) l ≡ some ws
    → Put out to (joined val_bytes ws) r out'
